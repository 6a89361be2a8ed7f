-- `book_card::mark_in` reads the mark below the count.
use borrow.Author.Tests.{lt-ltb, le-ltb}
use native.Mathlib.Omega.{arith}
use borrow.Author.Rules.{rules}
use Rattle.book_card.proofs.mark_in.Statement.{statement}
use Rattle.book_card.proofs.mark_in.Tie as tie

returns : tie.Need-returns-then-k-count
returns c =
    let s = c in
    rw (lt-ltb s.args.k s.args.count c.if-k-count.true, c.one.ensures.0)

returns_2 : tie.Need-returns
returns_2 c =
    let s = c in
    rw (le-ltb s.args.k s.args.count c.if-k-count.false)

pub mark_in_spec : {M : Type 1} → statement M
mark_in_spec = tie.close (tie.spec (λ c. search rules) (λ c. search rules) (λ c. search rules) (λ c κs. search rules) returns returns_2)
