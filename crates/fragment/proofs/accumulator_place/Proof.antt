-- `fragment::accumulator_place` takes an entry apart: row and column are below 8, so each part of the sum is read back.
use mathlib.Core.Path.{◌≡◌, ◌∙◌}
use Prim.Native.Nat.{◌/◌, ◌%◌, ◌<◌}
use native.Mathlib.Omega.{arith}
use Rattle.fragment.specs.declared.Place.{Place}
use Rattle.fragment.specs.Kinds.{registers, at, place}
use Rattle.fragment.specs.Table.{packed}
use Rattle.fragment.proofs.Inside.{slot_numbers, place_numbers}
use Rattle.fragment.proofs.Back.{slot_back}
use Rattle.fragment.proofs.accumulator_place.Statement.{statement}
use Rattle.fragment.proofs.accumulator_place.Tie as tie

taken_apart : (p : Place) → p.row < 8 → p.column < 8 → at (packed p / 64) (packed p / 8 % 8) (packed p % 8) ≡ p
taken_apart p r k =
    let c : packed p / 64 ≡ p.computation = omega arith in
    let row : packed p / 8 % 8 ≡ p.row = omega arith in
    let column : packed p % 8 ≡ p.column = omega arith in
    rw (c, row, column)

entry_requires : tie.Need-entry-entry-requires
unfolding registers
entry_requires c κs =
    let n = slot_numbers 5 c.args.lane c.args.i c.requires in (n.of_lane, n.of_register)

returns : tie.Need-returns
returns c =
    let a = c.args in
    let p : Place = place 5 a.lane a.i in
    let n = place_numbers 5 p (slot_back 5 a.lane a.i c.requires).0 in
    rw c.entry-entry.ensures at c.at.ensures ∙ taken_apart p (omega arith) (omega arith)

pub accumulator_place_spec : {M : Type 1} → statement M
accumulator_place_spec = tie.close (tie.spec entry_requires (λ c κs. tt) returns)
