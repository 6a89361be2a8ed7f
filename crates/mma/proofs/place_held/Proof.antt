-- `mma::place_held` is the place of the register's digits, turned or not.
use mathlib.Core.Path.{ap, ◌∙◌}
use Prim.Native.Nat.{ℕ, ◌/◌, ◌%◌}
use borrow.Author.Rules.{rules}
use Rattle.mma.proofs.Laws.{held_turned, held_straight}
use Rattle.mma.proofs.place_held.Statement.{statement}
use Rattle.mma.proofs.place_held.Tie as tie

returns : tie.Need-returns-then-f
returns c =
    let a = c.args in
    held_turned a.f _ _ _ a.warp a.lane a.i
    (c.digit-matrix.ensures.0 ∙ ap (λ (n : ℕ). a.i / n % a.f.matrices) c.wide.ensures.0)
    c.down_of-down.ensures c.across_of-across.ensures c.if-f.true

returns_2 : tie.Need-returns
returns_2 c =
    let a = c.args in
    held_straight a.f _ _ _ a.warp a.lane a.i
    (c.digit-matrix.ensures.0 ∙ ap (λ (n : ℕ). a.i / n % a.f.matrices) c.wide.ensures.0)
    c.down_of-down.ensures c.across_of-across.ensures c.if-f.false

pub place_held_spec : {M : Type 1} → statement M
place_held_spec =
    tie.close (tie.spec (λ c κs. search rules) (λ c κs. search rules) (λ c κs. search rules) (λ c κs. search rules) returns returns_2)
