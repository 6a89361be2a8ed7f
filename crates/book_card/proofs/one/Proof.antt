-- `book_card::one` reads one byte.
use mathlib.Core.Path.{◌≡◌, sym, ◌∙◌}
use Prim.Native.Nat.{◌+◌}
use Rattle.book_card.proofs.Laws.{field_one}
use native.Mathlib.Omega.{arith}
use borrow.Author.Rules.{rules}
use Rattle.book_card.proofs.one.Statement.{statement}
use Rattle.book_card.proofs.one.Tie as tie

returns : tie.Need-returns
returns c = let s = c in (c.wide.ensures.0 ∙ sym (field_one s.args.at s.args.block.now (omega (arith, s.requires))), c.wide.ensures.1)

pub one_spec : {M : Type 1} → statement M
one_spec = tie.close (tie.spec (λ c. search rules) (λ c κs. search rules) returns)
