-- `book_words::first_word` is one of two.
use borrow.Author.Tests.{eq-eqb, ne_eqb}
use native.Mathlib.Omega.{arith}
use borrow.Author.Rules.{rules}
use Rattle.book_words.proofs.first_word.Statement.{statement}
use Rattle.book_words.proofs.first_word.Tie as tie

returns : tie.Need-returns-then-i-eq0
returns c =
    let t = c in
    let s = t in
    rw (eq-eqb s.args.i 0 t.if-i-eq0.true)

returns_2 : tie.Need-returns
returns_2 c =
    let t = c in
    let s = t in
    rw (ne_eqb s.args.i 0 t.if-i-eq0.false)

pub first_word_spec : {M : Type 1} → statement M
first_word_spec = tie.close (tie.spec (λ c. search rules) (λ c. search rules) (λ c. search rules) (λ c. search rules) (λ c. search rules) (λ c. search rules) returns (λ c. search rules) (λ c. search rules) (λ c. search rules) returns_2)
