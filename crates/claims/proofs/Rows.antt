-- What a row meets and what writing it leaves, each by induction on the row.
use mathlib.Core.Path.{◌≡◌, refl, sym, ap, ◌∙◌, subst}
use mathlib.Core.Bool.{Bool, true, false, cond, not, ◌&&◌, ◌||◌}
use mathlib.Core.Logic.{◌⊎◌, inl, inr, ⊎_elim}
use mathlib.Core.List.{List, [], ◌∷◌}
use Prim.Native.Nat.{ℕ, zero, suc, ◌+◌, ◌-◌, ◌≤◌, ◌<◌, min, suc-le-suc}
use native.Mathlib.Nat.{le_of_suc-le-suc, not-suc-le-zero, eq-zero-or-pos}
use native.Mathlib.Decide.{ℕ_discrete}
use native.Mathlib.Omega.{arith}
use lib.Dec.{eqb, ltb, eqb-suc-zero}
use native.Mathlib.Numerals.{add-one}
use lib.ListN.{length, get_or, set, drop, replicate, length-set}
use lib.Seq.{drop-cons, get_or-set_same, get_or-set_other, lt-length-set}
use borrow.Author.Tests.{eq-eqb, eqb-true, ltb-true, ltb-false}
use Rattle.laws.proofs.Order.{le_or_lt}
use Rattle.claims.specs.Claims.{CopiesAt, Claims, taken, occupied}
use Rattle.claims.specs.Rows.{RowOf, RowWithin, min_some, least, entry_met, cell_with, cell_met, row_written}

-- cell c is one of a row's
pub record Among (row : List ℕ) (c : ℕ) : Type 0 where
  pub place : ℕ
  pub below : place < length row
  pub there : get_or row place 0 ≡ c

here : (d : ℕ) (row : List ℕ) (c : ℕ) → d ≡ c → Among (d ∷ row) c
here d row c e = record { place = 0; below = omega arith; there = e }

later : (d : ℕ) {row : List ℕ} {c : ℕ} → Among row c → Among (d ∷ row) c
later d a = record { place = suc a.place; below = suc-le-suc a.below; there = a.there }

here_or_later : (d : ℕ) (row : List ℕ) (c : ℕ) → Among (d ∷ row) c → (d ≡ c) ⊎ Among row c
here_or_later d row c a = go a.place a.below a.there
  where
    go : (i : ℕ) → i < length (d ∷ row) → get_or (d ∷ row) i 0 ≡ c → (d ≡ c) ⊎ Among row c
    go zero h e = inl e
    go (suc i) h e = inr (record { place = i; below = le_of_suc-le-suc h; there = e })

nowhere : (c : ℕ) → Among [] c → ⊥
nowhere c a = not-suc-le-zero a.below

-- the cells of an element's row are those that it claims
module _ (p : CopiesAt) (f : ℕ) (row : List ℕ) (is : RowOf p f row) (c : ℕ) where
  pub among_claims : Among row c → Claims p f c
  among_claims a =
      let below : a.place < p.copies f = omega (arith, is.size) in
      record { copy = a.place; below = below; there = sym (is.cells a.place below) ∙ a.there }

  pub claims_among : Claims p f c → Among row c
  claims_among k =
      record { place = k.copy; below = omega (arith, is.size); there = is.cells k.copy k.below ∙ k.there }

-- the smaller of two numbers by tests
pub smaller_test : (best found : ℕ) → cond (not (eqb found 0) && (eqb best 0 || ltb found best)) found best ≡ min_some best found
smaller_test best zero = refl
smaller_test zero (suc found) = rw (eqb-suc-zero found)
smaller_test (suc best) (suc found) = rw (eqb-suc-zero found, eqb-suc-zero best) (split (ltb (suc found) (suc best)) refl)
  where
    split : (b : Bool) → ltb (suc found) (suc best) ≡ b → cond b (suc found) (suc best) ≡ min (suc best) (suc found)
    split true t = omega (arith, ltb-true (suc found) (suc best) t)
    split false t = omega (arith, ltb-false (suc found) (suc best) t)

-- a number stands before another, where 0 stands for none
abbrev Before : ℕ → ℕ → Type 0
Before m v = 0 < v → (0 < m) × (m ≤ v)

-- the smaller of two stands before both, and is one of them
pub record Smaller (a b m : ℕ) : Type 0 where
  pub first : Before m a
  pub second : Before m b
  pub one : (m ≡ a) ⊎ (m ≡ b)

pub smaller_is : (a b : ℕ) → Smaller a b (min_some a b)
smaller_is a zero = record { first = λ h. omega arith; second = λ h. omega arith; one = inl refl }
smaller_is zero (suc b) = record { first = λ h. omega arith; second = λ h. omega arith; one = inr refl }
smaller_is (suc a) (suc b) =
    record {
      first = λ h. omega arith;
      second = λ h. omega arith;
      one = ⊎_elim (λ (h : a ≤ b). inl (omega arith)) (λ (h : b < a). inr (omega arith)) (le_or_lt a b);
    }

-- the smallest value of a row stands before each cell's, and is one of them
module _ (value : ℕ → ℕ) where
  least_best : (row : List ℕ) (best : ℕ) → Before (least value row best) best
  least_best [] best = λ h. omega arith
  least_best (d ∷ row) best = λ h.
      let first = (smaller_is best (value d)).first h in
      let rest = least_best row (min_some best (value d)) first.0 in
      omega arith

  least_before : (row : List ℕ) (best c : ℕ) → Among row c → Before (least value row best) (value c)
  least_before [] best c a = absurd (nowhere c a)
  least_before (d ∷ row) best c a =
      ⊎_elim
      (λ (e : d ≡ c). λ h.
      let first = (smaller_is best (value d)).second (subst (λ (x : ℕ). 0 < value x) (sym e) h) in
      let rest = least_best row (min_some best (value d)) first.0 in
      let same = ap value e in
      omega arith)
      (λ (b : Among row c). least_before row (min_some best (value d)) c b)
      (here_or_later d row c a)

  least_found : (row : List ℕ) (best : ℕ) → (least value row best ≡ best) ⊎ ((c : ℕ) × Among row c × (value c ≡ least value row best))
  least_found [] best = inl refl
  least_found (d ∷ row) best =
      ⊎_elim
      (λ (e : least value row (min_some best (value d)) ≡ min_some best (value d)).
      ⊎_elim
      (λ (b : min_some best (value d) ≡ best). inl (e ∙ b))
      (λ (b : min_some best (value d) ≡ value d). inr (d, here d row d refl, sym (e ∙ b)))
      (smaller_is best (value d)).one)
      (λ (f : (c : ℕ) × Among row c × (value c ≡ least value row (min_some best (value d)))). inr (f.0, later d f.1, f.2))
      (least_found row (min_some best (value d)))

module _ (table row : List ℕ) where
  -- where a row meets nobody, each of its cells is nobody's
  pub met_nobody : entry_met table row ≡ 0 → (c : ℕ) → Among row c → get_or table c 0 ≡ 0
  met_nobody e c a =
      ⊎_elim (λ (h : get_or table c 0 ≡ 0). h)
      (λ (h : 0 < get_or table c 0). absurd (omega (arith, least_before (λ d. get_or table d 0) row 0 c a h)))
      (eq-zero-or-pos (get_or table c 0))

  -- where it meets somebody, some cell has that entry, and no owned cell a smaller one
  pub met_somebody : 0 < entry_met table row → (c : ℕ) × Among row c × (get_or table c 0 ≡ entry_met table row)
  met_somebody h =
      ⊎_elim (λ (e : entry_met table row ≡ 0). absurd (omega arith)) (λ f. f)
      (least_found (λ c. get_or table c 0) row 0)

  pub met_smallest : (c : ℕ) → Among row c → 0 < get_or table c 0 → entry_met table row ≤ get_or table c 0
  met_smallest c a h = (least_before (λ d. get_or table d 0) row 0 c a h).1

  -- the smallest cell that has an entry which some cell of the row has
  module _ (entry : ℕ) where
    value : ℕ → ℕ
    value c = cell_with (get_or table c 0) entry c

    value_has : (c : ℕ) → get_or table c 0 ≡ entry → value c ≡ c + 1
    unfolding value
    value_has c e = rw (eq-eqb (get_or table c 0) entry e)

    has_value : (c m : ℕ) → value c ≡ suc m → (c ≡ m) × (get_or table c 0 ≡ entry)
    unfolding value
    has_value c m = split (eqb (get_or table c 0) entry) refl
      where
        split : (b : Bool) → eqb (get_or table c 0) entry ≡ b → cond b (c + 1) 0 ≡ suc m → (c ≡ m) × (get_or table c 0 ≡ entry)
        split true t e = (omega arith, eqb-true (get_or table c 0) entry t)
        split false t e = absurd (omega arith)

-- the smallest cell of a row that has an entry
pub record SmallestCell (table : List ℕ) (entry : ℕ) (row : List ℕ) (cell : ℕ) : Type 0 where
  pub among : Among row cell
  pub has : get_or table cell 0 ≡ entry
  pub smallest : (c : ℕ) → Among row c → get_or table c 0 ≡ entry → cell ≤ c

pub cell_met_lem : (table : List ℕ) (entry : ℕ) (row : List ℕ) (c : ℕ) → Among row c → get_or table c 0 ≡ entry → SmallestCell table entry row (cell_met table entry row - 1)
unfolding value
cell_met_lem table entry row c a e =
    let met : ℕ = cell_met table entry row in
    let before : (d : ℕ) → Among row d → get_or table d 0 ≡ entry → (0 < met) × (met ≤ d + 1) =
    λ d b q. rw (value_has table row entry d q) at (least_before (value table row entry) row 0 d b (omega (arith, value_has table row entry d q))) in
    ⊎_elim
    (λ (none : met ≡ 0). absurd (omega (arith, before c a e)))
    (λ (f : (d : ℕ) × Among row d × (value table row entry d ≡ met)).
    let d = has_value table row entry f.0 (met - 1) (omega (arith, f.2, before c a e)) in
    record {
      among = subst (Among row) d.0 f.1;
      has = subst (λ (n : ℕ). get_or table n 0 ≡ entry) d.0 d.1;
      smallest = λ n b q. omega (arith, before n b q);
    })
    (least_found (value table row entry) row 0)

-- a row that meets somebody shares a cell
pub cell_found : (table row : List ℕ) → 0 < entry_met table row → 0 < cell_met table (entry_met table row) row
unfolding value
cell_found table row h =
    let some = met_somebody table row h in
    let has = value_has table row (entry_met table row) some.0 some.2 in
    (least_before (value table row (entry_met table row)) row 0 some.0 some.1 (omega arith)).0

module _ (entry : ℕ) where
  pub written_step : (row table : List ℕ) (i : ℕ) → i < length row → row_written entry (drop (i + 1) row) (set table (get_or row i 0) entry) ≡ row_written entry (drop i row) table
  written_step row table i h = rw (add-one i, drop-cons row i 0 h)

  pub written_length : (row table : List ℕ) → length (row_written entry row table) ≡ length table
  written_length [] table = refl
  written_length (d ∷ row) table = written_length row (set table d entry) ∙ length-set table d entry

  within_rest : (d : ℕ) (row table : List ℕ) → RowWithin (d ∷ row) table → RowWithin row (set table d entry)
  within_rest d row table w = λ r h. lt-length-set table d entry (w (suc r) (suc-le-suc h))

  -- each cell is a row's, and has the entry, or is none, and has what it had
  pub written_at : (row table : List ℕ) → RowWithin row table → (c : ℕ) →
      (Among row c × (get_or (row_written entry row table) c 0 ≡ entry)) ⊎ ((Among row c → ⊥) × (get_or (row_written entry row table) c 0 ≡ get_or table c 0))
  written_at [] table w c = inr (nowhere c, refl)
  written_at (d ∷ row) table w c =
      ⊎_elim
      (λ (is : Among row c × (get_or (row_written entry row (set table d entry)) c 0 ≡ entry)). inl (later d is.0, is.1))
      (λ (not : (Among row c → ⊥) × (get_or (row_written entry row (set table d entry)) c 0 ≡ get_or (set table d entry) c 0)).
      first not.0 not.1 (ℕ_discrete d c))
      (written_at row (set table d entry) (within_rest d row table w) c)
    where
      after : List ℕ
      after = row_written entry (d ∷ row) table

      first : (Among row c → ⊥) → get_or after c 0 ≡ get_or (set table d entry) c 0 → Dec (d ≡ c) →
          (Among (d ∷ row) c × (get_or after c 0 ≡ entry)) ⊎ ((Among (d ∷ row) c → ⊥) × (get_or after c 0 ≡ get_or table c 0))
      first no-later q (yes e) = inl (here d row c e, q ∙ subst (λ (n : ℕ). get_or (set table d entry) n 0 ≡ entry) e (get_or-set_same table d entry 0 (w 0 (omega arith))))
      first no-later q (no ne) = inr (λ a. ⊎_elim ne no-later (here_or_later d row c a), q ∙ get_or-set_other table d c entry 0 (λ e. ne (sym e)))

pub taken_most : (entry : ℕ) → taken entry ≤ 1
taken_most zero = omega arith
taken_most (suc owner) = omega arith

pub taken_owned : (entry : ℕ) → 0 < entry → taken entry ≡ 1
taken_owned zero h = absurd (omega arith)
taken_owned (suc owner) h = refl

pub occupied_most : (table : List ℕ) → occupied table ≤ length table
occupied_most [] = omega arith
occupied_most (entry ∷ table) = omega (arith, taken_most entry, occupied_most table)

pub occupied_none : (n : ℕ) → occupied (replicate n 0) ≡ 0
occupied_none zero = refl
occupied_none (suc n) = omega (arith, occupied_none n)

-- a store occupies as many cells more as its entry occupies more than the entry before it
pub occupied_set : (table : List ℕ) (c entry : ℕ) → c < length table → occupied (set table c entry) + taken (get_or table c 0) ≡ occupied table + taken entry
occupied_set [] c entry h = absurd (not-suc-le-zero h)
occupied_set (d ∷ table) zero entry h = omega arith
occupied_set (d ∷ table) (suc c) entry h = omega (arith, occupied_set table c entry (le_of_suc-le-suc h))

-- writing a row occupies no fewer cells, and more where its first cell was nobody's
pub occupied_written : (entry : ℕ) (row table : List ℕ) → 0 < entry → RowWithin row table → occupied table ≤ occupied (row_written entry row table)
occupied_written entry [] table p w = omega arith
occupied_written entry (d ∷ row) table p w =
    omega (arith, occupied_set table d entry (w 0 (omega arith)), taken_owned entry p, taken_most (get_or table d 0), occupied_written entry row (set table d entry) p (within_rest entry d row table w))

pub occupied_claimed : (entry : ℕ) (row table : List ℕ) → 0 < entry → RowWithin row table → 0 < length row → entry_met table row ≡ 0 → occupied table < occupied (row_written entry row table)
occupied_claimed entry [] table p w h e = absurd (omega arith)
occupied_claimed entry (d ∷ row) table p w h e =
    let free : get_or table d 0 ≡ 0 = met_nobody table (d ∷ row) e d (here d row d refl) in
    let store = occupied_set table d entry (w 0 h) in
    let one = rw free at store in
    omega (arith, taken_owned entry p, occupied_written entry row (set table d entry) p (within_rest entry d row table w))
