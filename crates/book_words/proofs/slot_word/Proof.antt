-- `book_words::slot_word` is the iter's word below the count.
use borrow.Author.Tests.{lt-ltb, le-ltb}
use Prim.Native.Nat.{◌/◌}
use Rattle.laws.proofs.Lists.{length_of}
use native.Mathlib.Omega.{arith}
use borrow.Author.Rules.{rules}
use Rattle.book_words.proofs.slot_word.Statement.{statement}
use Rattle.book_words.proofs.slot_word.Tie as tie

returns : tie.Need-returns-then-k-iters
returns c =
    let t = c in
    let s = t in
    rw (lt-ltb (s.args.i / 3) s.args.iters.count t.if-k-iters.true) c.iter_word.ensures

returns_2 : tie.Need-returns
returns_2 c =
    let s = c in
    rw (le-ltb (s.args.i / 3) s.args.iters.count c.if-k-iters.false)

pub slot_word_spec : {M : Type 1} → statement M
slot_word_spec = tie.close (tie.spec (λ c. omega arith) (λ c. search (rules, length_of)) (λ c. search rules) (λ c κs. search rules) returns returns_2)
