-- The bounds of the two questions in numbers: what follows for lane, register, computation, row and column.
use mathlib.Core.Path.{◌≡◌, refl}
use mathlib.Core.Bool.{true}
use Prim.Native.Nat.{ℕ, ◌≤◌, ◌<◌}
use borrow.Author.Tests.{ltb-true, leb-true}
use lib.Dec.{ltb, leb}
use Rattle.laws.proofs.Below.{below, below_at}
use Rattle.laws.proofs.Tests.{three_of, four_of}
use Rattle.fragment.specs.declared.Place.{Place}
use Rattle.fragment.specs.Kinds.{rows, columns, computations, registers}
use Rattle.fragment.specs.Fragment.{is_slot, is_place}

-- no kind is larger than kind 5
pub record Sizes (kind : ℕ) : Type 0 where
  pub most_rows : rows kind ≤ 8
  pub most_columns : columns kind ≤ 8
  pub most_computations : computations kind ≤ 4
  pub most_registers : registers kind ≤ 8

sizes : (kind : ℕ) → kind < 9 → Sizes kind
unfolding rows columns computations registers
sizes kind h =
    let most : (size : ℕ → ℕ) (m : ℕ) → below (λ k. leb (size k) m) 9 ≡ true → size kind ≤ m =
    λ size m t. leb-true (size kind) m (below_at (λ k. leb (size k) m) 9 t kind h) in
    record {
      most_rows = most rows 8 refl;
      most_columns = most columns 8 refl;
      most_computations = most computations 4 refl;
      most_registers = most registers 8 refl;
    }

pub record OfSlot (kind lane i : ℕ) : Type 0 where
  pub known : kind < 9
  pub of_lane : lane < 32
  pub of_register : i < registers kind
  pub sizes_of : Sizes kind

pub slot_numbers : (kind lane i : ℕ) → is_slot kind lane i ≡ true → OfSlot kind lane i
slot_numbers kind lane i e =
    let parts = three_of (ltb kind 9) (ltb lane 32) (ltb i (registers kind)) e in
    let known = ltb-true kind 9 parts.0 in
    record {
      known = known;
      of_lane = ltb-true lane 32 parts.1;
      of_register = ltb-true i (registers kind) parts.2;
      sizes_of = sizes kind known;
    }

pub record OfPlace (kind : ℕ) (p : Place) : Type 0 where
  pub known : kind < 9
  pub of_computation : p.computation < computations kind
  pub of_row : p.row < rows kind
  pub of_column : p.column < columns kind
  pub sizes_of : Sizes kind

pub place_numbers : (kind : ℕ) (p : Place) → is_place kind p ≡ true → OfPlace kind p
place_numbers kind p e =
    let parts = four_of (ltb kind 9) (ltb p.computation (computations kind)) (ltb p.row (rows kind)) (ltb p.column (columns kind)) e in
    let known = ltb-true kind 9 parts.0 in
    record {
      known = known;
      of_computation = ltb-true p.computation (computations kind) parts.1;
      of_row = ltb-true p.row (rows kind) parts.2;
      of_column = ltb-true p.column (columns kind) parts.3;
      sizes_of = sizes kind known;
    }
