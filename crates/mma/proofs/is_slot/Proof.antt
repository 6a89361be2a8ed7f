-- `mma::is_slot` compares with the form's own sizes.
use mathlib.Core.Path.{ap, ◌∙◌}
use mathlib.Core.Bool.{◌&&◌}
use Prim.Native.Nat.{ℕ}
use lib.Dec.{ltb}
use borrow.Author.Rules.{rules}
use Rattle.mma.proofs.Laws.{registers_plain}
use Rattle.mma.proofs.is_slot.Statement.{statement}
use Rattle.mma.proofs.is_slot.Tie as tie

returns : tie.Need-returns
returns c =
    let a = c.args in
    ap (λ (n : ℕ). ltb a.warp a.f.warps && ltb a.lane 32 && ltb a.register n) (c.registers.ensures.0 ∙ registers_plain a.f)

pub is_slot_spec : {M : Type 1} → statement M
is_slot_spec = tie.close (tie.spec (λ c κs. search rules) returns)
