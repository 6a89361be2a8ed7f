-- A row filled combination by combination: after n of them the first n entries are their cells, and the smallest axis is that of the first n.
use mathlib.Core.Path.{◌≡◌, refl, sym, ap, ◌∙◌}
use mathlib.Core.List.{List, [], ◌∷◌, map}
use Prim.Native.Nat.{ℕ, zero, suc, ◌+◌, ◌≤◌, ◌<◌, suc-le-suc, min}
use native.Mathlib.Nat.{not-suc-le-zero, le_of_suc-le-suc}
use native.Mathlib.Numerals.{add-one}
use native.Mathlib.Decide.{dec_le}
use native.Mathlib.Omega.{arith}
use borrow.Author.Count.{below_more}
use lib.ListN.{length, get_or, set, length-set, length-map}
use lib.Seq.{get_or-set_same, get_or-set_other, ext_get_or}
use Rattle.rules.specs.Rules.{axes}
use Rattle.rules.specs.Copies.{combinations, cell_of, past_axis, cells_of, smallest, outside_of}
use Rattle.rules.specs.Walked.{PlacedRow}
use Rattle.rules.specs.declared.Spot.{Spot}
use Rattle.rules.proofs.Along.{consecutive_at}

combinations_length : (c n : ℕ) → length (combinations c n) ≡ n
combinations_length c zero = refl
combinations_length c (suc n) = ap suc (combinations_length (c + 1) n)

pub cells_length : (at : ℕ → Spot) (n : ℕ) → length (cells_of at n) ≡ n
cells_length at n = length-map (combinations 0 n) (λ r. cell_of (at r)) ∙ combinations_length 0 n

-- the entry of a combination is its cell
pub cells_at : (at : ℕ → Spot) (n r : ℕ) → r < n → get_or (cells_of at n) r 0 ≡ cell_of (at r)
cells_at at n r h = consecutive_at (λ r. cell_of (at r)) 0 n r 0 h ∙ ap (λ r. cell_of (at r)) (omega arith)

-- one more at the end
smallest_more : (f : ℕ → ℕ) (c n : ℕ) → smallest (map f (combinations c (suc n))) ≡ min (smallest (map f (combinations c n))) (f (c + n))
smallest_more f c zero = omega (arith, ap f (omega_zero c))
  where
    omega_zero : (c : ℕ) → c + 0 ≡ c
    omega_zero c = omega arith
smallest_more f c (suc n) =
    let next : f (c + 1 + n) ≡ f (c + suc n) = ap f (omega arith) in
    omega (arith, smallest_more f (c + 1) n)

smallest_below : (ns : List ℕ) (r : ℕ) → r < length ns → smallest ns ≤ get_or ns r 0
smallest_below [] r h = absurd (not-suc-le-zero h)
smallest_below (n ∷ ns) zero h = omega arith
smallest_below (n ∷ ns) (suc r) h = let rest = smallest_below ns r (le_of_suc-le-suc h) in omega arith

-- the smallest is one of them, or none is smaller than the number of axes
smallest_found : (ns : List ℕ) → smallest ns < length axes → (r : ℕ) × (r < length ns) × (get_or ns r 0 ≡ smallest ns)
smallest_found [] h = absurd (omega arith)
smallest_found (n ∷ ns) h =
    elim (dec_le n (smallest ns)) [
      | yes k ↦ (zero, omega arith, omega arith)
      | no k ↦ let rest = smallest_found ns (omega arith) in (suc rest.0, suc-le-suc rest.1, rest.2 ∙ omega arith)
    ]

pub outside_more : (at : ℕ → Spot) (n : ℕ) → outside_of at (n + 1) ≡ min (outside_of at n) (past_axis (at n))
outside_more at n =
    rw add-one
    (smallest_more (λ r. past_axis (at r)) 0 n ∙ ap (λ (k : ℕ). min (outside_of at n) (past_axis (at k))) (omega arith))

-- no combination lies outside on a smaller axis
pub outside_least : (at : ℕ → Spot) (n r : ℕ) → r < n → outside_of at n ≤ past_axis (at r)
outside_least at n r h =
    let here = consecutive_at (λ r. past_axis (at r)) 0 n r 0 h in
    let same : past_axis (at (0 + r)) ≡ past_axis (at r) = ap (λ r. past_axis (at r)) (omega arith) in
    omega (arith, smallest_below (map (λ r. past_axis (at r)) (combinations 0 n)) r (omega (arith, length-map (combinations 0 n) (λ r. past_axis (at r)), combinations_length 0 n)))

-- and one lies outside on it, if it is an axis
pub outside_found : (at : ℕ → Spot) (n : ℕ) → outside_of at n < length axes → (r : ℕ) × (r < n) × (past_axis (at r) ≡ outside_of at n)
outside_found at n h =
    let f = smallest_found (map (λ r. past_axis (at r)) (combinations 0 n)) h in
    let below : f.0 < n = omega (arith, f.1, length-map (combinations 0 n) (λ r. past_axis (at r)), combinations_length 0 n) in
    (f.0, below, ap (λ r. past_axis (at r)) (omega arith) ∙ sym (consecutive_at (λ r. past_axis (at r)) 0 n f.0 0 below) ∙ f.2)

-- where filling stands after n combinations
pub record Filling (at : ℕ → Spot) (before row : List ℕ) (n outside : ℕ) : Type 0 where
  pub long : length row ≡ length before
  pub cells : (i : ℕ) → i < n → get_or row i 0 ≡ cell_of (at i)
  pub smallest_axis : outside ≡ outside_of at n

module _ (at : ℕ → Spot) (before : List ℕ) where
  pub filling_none : Filling at before before 0 (outside_of at 0)
  filling_none = record { long = refl; cells = λ i h. absurd (not-suc-le-zero h); smallest_axis = refl }

  pub filling_more : (n : ℕ) {row : List ℕ} {outside : ℕ} → n < length before → Filling at before row n outside
      → Filling at before (set row n (cell_of (at n))) (n + 1) (min outside (past_axis (at n)))
  filling_more n {row} {outside} h f =
      let cell = cell_of (at n) in
      record {
        long = length-set row n cell ∙ f.long;
        cells =
            below_more (λ i. get_or (set row n cell) i 0 ≡ cell_of (at i)) n
            (λ i below. get_or-set_other row n i cell 0 (λ e. omega arith) ∙ f.cells i below)
            (get_or-set_same row n cell 0 (omega (arith, f.long)));
        smallest_axis = ap (λ (k : ℕ). min k (past_axis (at n))) f.smallest_axis ∙ sym (outside_more at n);
      }

  pub filling_all : {row : List ℕ} {outside : ℕ} → Filling at before row (length before) outside → PlacedRow at before row outside
  filling_all {row} {outside} f =
      let n = length before in
      record {
        cells =
            ext_get_or 0 row (cells_of at n) (f.long ∙ sym (cells_length at n))
            (λ i below. f.cells i (omega (arith, f.long)) ∙ sym (cells_at at n i (omega (arith, f.long))));
        smallest_axis = f.smallest_axis;
      }
