-- `dealing_moves::source_held` numbers the place that the register is answered to hold: the answer picks the arm.
use Rattle.std.specs.Prelude.{Ok}
use mathlib.Core.Path.{◌≡◌, sym, ap, ◌∙◌}
use Prim.Native.Nat.{ℕ, ◌+◌, ◌*◌, ◌<◌}
use native.Mathlib.Omega.{arith}
use borrow.Author.Rules.{rules}
use borrow.Author.Tests.{eq-eqb, ne_eqb}
use Rattle.fragment.specs.declared.Place.{Place}
use Rattle.fragment.specs.Fragment.{held_answer}
use Rattle.fragment.proofs.Back.{by}
use Rattle.fragment.proofs.Theorems.{answered}
use Rattle.values.proofs.Held.{place_in_tile, own_held, own_not_held}
use Rattle.dealing_moves.proofs.source_held.Statement.{statement}
use Rattle.dealing_moves.proofs.source_held.Tie as tie

-- the place that the register was answered to hold
held : (c : tie.After-struct_known-1) → let a = c.args in held_answer a.kind a.lane a.i ≡ Ok c.in-Ok.place
held c = sym c.held_by.ensures ∙ c.in-Ok.is

inside : (c : tie.After-struct_known-1) → let p = c.in-Ok.place in (p.row < 8) × (p.column < 8)
inside c = let a = c.args in place_in_tile a.kind a.lane a.i c.in-Ok.place (held c)

returns : tie.Need-returns-then-place-computation
returns c =
    let k = c in
    let a = k.args in
    let p : Place = k.in-Ok.place in
    sym (rw (own_held a.kind a.computation a.lane a.i p (held k.before.before.before) ∙ eq-eqb _ _ c.if-place-computation.true)
    (ap (λ (q : Place). 8 * q.row + q.column) (answered a.kind (by a.lane a.i) p (held k.before.before.before)).1))

returns_2 : tie.Need-returns-else-place-computation
returns_2 c =
    let k = c in
    let a = k.args in
    rw (own_held a.kind a.computation a.lane a.i k.in-Ok.place (held k.before) ∙ ne_eqb _ _ c.if-place-computation.false)

returns_3 : tie.Need-returns-in-Err
returns_3 c =
    let a = c.args in
    rw (own_not_held a.kind a.computation a.lane a.i _ (sym c.held_by.ensures ∙ c.in-Err.is))

pub source_held_spec : {M : Type 1} → statement M
source_held_spec =
    tie.close
    (tie.spec (λ c κs. search rules) (λ c. search rules) (λ c. let n = inside c.before.before in omega arith)
    (λ c. let n = inside c.before.before.before in omega arith) (λ c. search rules) returns returns_2 returns_3)
