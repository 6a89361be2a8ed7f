-- `book_card::slot_in` reads the iter below the count.
use borrow.Author.Tests.{lt-ltb, le-ltb}
use native.Mathlib.Omega.{arith}
use borrow.Author.Rules.{rules}
use Rattle.book_card.proofs.slot_in.Statement.{statement}
use Rattle.book_card.proofs.slot_in.Tie as tie

returns : tie.Need-returns-then-k-count
returns c =
    let s = c in
    rw (lt-ltb s.args.k s.args.count c.if-k-count.true) c.iter_in.ensures

returns_2 : tie.Need-returns
returns_2 c =
    let s = c in
    rw (le-ltb s.args.k s.args.count c.if-k-count.false) c.no_iter.ensures

pub slot_in_spec : {M : Type 1} → statement M
slot_in_spec = tie.close (tie.spec (λ c. search rules) (λ c. search rules) (λ c κs. search rules) returns (λ c κs. search rules) returns_2)
