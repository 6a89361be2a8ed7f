-- What the definitions mean, in plain for-alls, over any layout: the outcome is unique, and which it is goes by demand 3's words.
use mathlib.Core.Path.{◌≡◌, refl, sym, ◌∙◌}
use mathlib.Core.Logic.{◌↔◌}
use mathlib.Core.List.{List, [], ◌∷◌}
use Prim.Native.Nat.{ℕ, zero, suc, ◌+◌, ◌-◌, ◌<◌}
use native.Mathlib.Nat.{le_antisymm}
use native.Mathlib.Omega.{arith}
use lib.ListN.{length, get_or}
use lib.Seq.{ext_get_or}
use Rattle.claims.specs.Claims.{CopiesAt, Claims, Owners, OwnedTable, FirstClash}
use Rattle.claims.specs.Outcome.{Inside, NoneShare, Outcome, Owned, Clash, ClaimsComeTo}
use Rattle.claims.specs.Run.{run}
use Rattle.claims.proofs.Run.{run_comes}

-- two entries that name the same owners are equal
pub same_entry : (a b : ℕ) → ((f : ℕ) → a ≡ f + 1 → b ≡ f + 1) → ((f : ℕ) → b ≡ f + 1 → a ≡ f + 1) → a ≡ b
same_entry zero zero to from = refl
same_entry zero (suc b) to from = from b (omega arith) ∙ omega arith
same_entry (suc a) b to from = omega (arith, to a (omega arith))

module _ (p : CopiesAt) (n : ℕ) where
  -- one table of the cells has the owners
  pub owners_unique : (s t : List ℕ) → length s ≡ length t → Owners p n s → Owners p n t → s ≡ t
  owners_unique s t l o q =
      ext_get_or 0 s t l (λ c h. same_entry (get_or s c 0) (get_or t c 0) (λ f e. (q f c).1 ((o f c).0 e)) (λ f e. (o f c).1 ((q f c).0 e)))

  -- where the table has the owners, no two different elements share a cell
  pub owners_none_share : (table : List ℕ) → Owners p n table → NoneShare p n
  owners_none_share table o x y c hx hy s = omega (arith, (o x c).1 (hx, s.one), (o y c).1 (hy, s.other))

  -- where two elements clash, two different elements share a cell
  pub clash_shares : (x y cell : ℕ) → FirstClash p n x y cell → NoneShare p n → ⊥
  clash_shares x y cell k none = omega (arith, k.ordered, none x y cell (omega (arith, k.ordered, k.element)) k.element k.shared)

  -- there is one first clash
  module _ (x y cell x' y' cell' : ℕ) (k : FirstClash p n x y cell) (k' : FirstClash p n x' y' cell') where
    same_y : y ≡ y'
    same_y = le_antisymm (k.smallest_y x' y' cell' k'.ordered k'.element k'.shared) (k'.smallest_y x y cell k.ordered k.element k.shared)

    same_x : x ≡ x'
    same_x =
        le_antisymm (k.smallest_x x' cell' (rw same_y k'.shared)) (k'.smallest_x x cell (rw (sym same_y) k.shared))

    same_cell : cell ≡ cell'
    same_cell =
        le_antisymm (k.smallest_cell cell' (rw (same_x, same_y) k'.shared))
        (k'.smallest_cell cell (rw (sym same_x, sym same_y) k.shared))

    pub clash_unique : Clash x y cell ≡ Clash x' y' cell'
    clash_unique = cc (same_x, same_y, same_cell)

-- the outcome is unique: two that the claims come to are equal
pub outcome_unique : (p : CopiesAt) (n cells : ℕ) (a b : Outcome) → ClaimsComeTo p n cells a → ClaimsComeTo p n cells b → a ≡ b
outcome_unique p n cells (Owned s i) (Owned t j) h k =
    let same : s ≡ t = owners_unique p n s t (h.size ∙ sym k.size) h.owners k.owners in
    cc (h.counted, k.counted, same)
outcome_unique p n cells (Owned s i) (Clash x y cell) h k =
    absurd (clash_shares p n x y cell k (owners_none_share p n s h.owners))
outcome_unique p n cells (Clash x y cell) (Owned t j) h k =
    absurd (clash_shares p n x y cell h (owners_none_share p n t k.owners))
outcome_unique p n cells (Clash x y cell) (Clash x' y' cell') h k = clash_unique p n x y cell x' y' cell' h k

-- an outcome is the one of the run, so a load that the run computes is a load of the claims
pub outcome_is_run : (p : CopiesAt) (n cells : ℕ) → Inside p n cells → (a : Outcome) → ClaimsComeTo p n cells a → a ≡ run p n cells
outcome_is_run p n cells inside a h = outcome_unique p n cells a (run p n cells) h (run_comes p n cells inside)

-- demand 3, over any layout whose copies lie in the cells: there is no clash exactly when no two different elements share a cell
pub no_clash_exactly : (p : CopiesAt) (n cells : ℕ) → Inside p n cells
    → ((x y cell : ℕ) → FirstClash p n x y cell → ⊥) ↔ NoneShare p n
no_clash_exactly p n cells inside =
    (λ none. split none (run p n cells) (run_comes p n cells inside), λ none x y cell k. clash_shares p n x y cell k none)
  where
    split : ((x y cell : ℕ) → FirstClash p n x y cell → ⊥) → (a : Outcome) → ClaimsComeTo p n cells a → NoneShare p n
    split none (Owned table count) h = owners_none_share p n table h.owners
    split none (Clash x y cell) h = absurd (none x y cell h)

-- and then, and only then, it is approved
pub approved_exactly : (p : CopiesAt) (n cells : ℕ) → Inside p n cells
    → ((table : List ℕ) × (count : ℕ) × OwnedTable p n cells table count) ↔ NoneShare p n
approved_exactly p n cells inside =
    (λ a. owners_none_share p n a.0 a.2.owners, λ none. split none (run p n cells) (run_comes p n cells inside))
  where
    split : NoneShare p n → (a : Outcome) → ClaimsComeTo p n cells a → (table : List ℕ) × (count : ℕ) × OwnedTable p n cells table count
    split none (Owned table count) h = (table, count, h)
    split none (Clash x y cell) h = absurd (clash_shares p n x y cell h none)

module _ (p : CopiesAt) (n : ℕ) (table : List ℕ) (owners : Owners p n table) (c : ℕ) where
  -- a cell's owner is the one element placed there
  pub owner_placed : (f : ℕ) → f < n → Claims p f c → (get_or table c 0 ≡ f + 1) × ((g : ℕ) → g < n → Claims p g c → g ≡ f)
  owner_placed f h k =
      ((owners f c).1 (h, k), λ g hg kg. owners_none_share p n table owners g f c hg h (record { one = kg; other = k }))

  -- or nobody exactly when none is
  pub nobody_exactly : (get_or table c 0 ≡ 0) ↔ ((f : ℕ) → f < n → Claims p f c → ⊥)
  nobody_exactly = (λ e f h k. omega (arith, (owners f c).1 (h, k)), λ none. split none (get_or table c 0) refl)
    where
      split : ((f : ℕ) → f < n → Claims p f c → ⊥) → (entry : ℕ) → get_or table c 0 ≡ entry → get_or table c 0 ≡ 0
      split none zero e = e
      split none (suc f) e = let o = (owners f c).0 (omega arith) in absurd (none f o.0 o.1)

-- two copies of one element in one cell are no clash: the two of a clash are different elements, so one alone has none
pub clash_differs : (p : CopiesAt) (n x y cell : ℕ) → FirstClash p n x y cell → x ≡ y → ⊥
clash_differs p n x y cell k e = omega (arith, k.ordered)

pub copies_no_clash : (p : CopiesAt) (x y cell : ℕ) → FirstClash p 1 x y cell → ⊥
copies_no_clash p x y cell k = omega (arith, k.ordered, k.element)

-- two copies of element 0 in cell 1, and element 1 in cell 0: two occupied cells
both_in_one : run (record { copies = λ f. 2; at = λ f r. 1 - f }) 2 3 ≡ Owned (2 ∷ 1 ∷ 0 ∷ []) 2
both_in_one = refl
