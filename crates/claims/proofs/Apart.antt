-- Where the copies of an element have a cell each, classes times copies cells are occupied: all copies of all leaders in one row have as many
-- different cells, and a table that is emptied there one by one had that many.
use mathlib.Core.Path.{◌≡◌, refl, sym, ap, ap₂, ◌∙◌, subst}
use mathlib.Core.List.{List, [], ◌∷◌}
use Prim.Native.Nat.{ℕ, zero, suc, ◌+◌, ◌*◌, ◌/◌, ◌%◌, ◌<◌}
use native.Mathlib.Nat.{mod-lt, div-add-mod', div-lt_iff_lt-mul, not-suc-le-zero}
use native.Mathlib.Omega.{arith}
use lib.Arith.{digits_lt, digits_div, digits_mod}
use lib.ListN.{get_or, set}
use lib.Seq.{get_or-set_other}
use Rattle.claims.specs.Claims.{CopiesAt, Claims, Owners, occupied}
use Rattle.claims.proofs.Theorems.{owners_none_share}

-- an entry that is emptied is one less
emptied : (table : List ℕ) (c : ℕ) → 0 < get_or table c 0 → occupied table ≡ occupied (set table c 0) + 1
emptied [] c h = absurd (not-suc-le-zero h)
emptied (zero ∷ table) zero h = absurd (not-suc-le-zero h)
emptied (suc owner ∷ table) zero h = omega arith
emptied (entry ∷ table) (suc c) h = let rest = emptied table c h in omega arith

empty_there : (table : List ℕ) (c : ℕ) → get_or (set table c 0) c 0 ≡ 0
empty_there [] c = refl
empty_there (entry ∷ table) zero = refl
empty_there (entry ∷ table) (suc c) = empty_there table c

all_empty : (table : List ℕ) → ((c : ℕ) → 0 < get_or table c 0 → ⊥) → occupied table ≡ 0
all_empty [] none = refl
all_empty (zero ∷ table) none = let rest = all_empty table (λ c. none (suc c)) in omega arith
all_empty (suc owner ∷ table) none = absurd (none 0 (omega arith))

-- the entries that are not 0 are at n different places
pub record Places (n : ℕ) (place : ℕ → ℕ) (table : List ℕ) : Type 0 where
  pub there : (k : ℕ) → k < n → 0 < get_or table (place k) 0
  pub only : (c : ℕ) → 0 < get_or table c 0 → (k : ℕ) × (k < n) × (place k ≡ c)
  pub different : (j k : ℕ) → j < n → k < n → place j ≡ place k → j ≡ k

-- without the last
one_less : (n : ℕ) (place : ℕ → ℕ) (table : List ℕ) → Places (suc n) place table → Places n place (set table (place n) 0)
one_less n place table p = record { there = there; only = only; different = λ j k hj hk e. p.different j k (omega arith) (omega arith) e }
  where
    there : (k : ℕ) → k < n → 0 < get_or (set table (place n) 0) (place k) 0
    there k h =
        rw (get_or-set_other table (place n) (place k) 0 0 (λ e. omega (arith, p.different k n (omega arith) (omega arith) e)))
        (p.there k (omega arith))

    only : (c : ℕ) → 0 < get_or (set table (place n) 0) c 0 → (k : ℕ) × (k < n) × (place k ≡ c)
    only c h =
        let other : c ≡ place n → ⊥ =
        λ e. let none = empty_there table (place n) in omega (arith, subst (λ (x : ℕ). 0 < get_or (set table (place n) 0) x 0) e h) in
        let found = p.only c (rw (get_or-set_other table (place n) c 0 0 other) at h) in
        let not_last : found.0 ≡ n → ⊥ = λ e. other (sym found.2 ∙ ap place e) in
        (found.0, omega (arith, found.1, not_last), found.2)

pub places_counted : (n : ℕ) (place : ℕ → ℕ) (table : List ℕ) → Places n place table → occupied table ≡ n
places_counted zero place table p = all_empty table (λ c h. not-suc-le-zero (p.only c h).1)
places_counted (suc n) place table p =
    let rest = places_counted n place (set table (place n) 0) (one_less n place table p) in
    omega (arith, emptied table (place n) (p.there n (omega arith)))

-- the copies of an element have a cell each
abbrev pub CopiesApart : CopiesAt → ℕ → Type 0
CopiesApart p n = (f r s : ℕ) → f < n → r < p.copies f → s < p.copies f → p.at f r ≡ p.at f s → r ≡ s

-- the elements that have copies are so many leaders, each with as many copies
pub record Led (p : CopiesAt) (n classes copies : ℕ) (leader : ℕ → ℕ) : Type 0 where
  pub element : (k : ℕ) → k < classes → leader k < n
  pub own : (k : ℕ) → k < classes → p.copies (leader k) ≡ copies
  pub found : (f : ℕ) → f < n → 0 < p.copies f → (k : ℕ) × (k < classes) × (leader k ≡ f)
  pub once : (j k : ℕ) → j < classes → k < classes → leader j ≡ leader k → j ≡ k

module _ (p : CopiesAt) (n : ℕ) (table : List ℕ) (owners : Owners p n table) (apart : CopiesApart p n) (classes copies : ℕ) (leader : ℕ → ℕ)
    (some : 0 < copies) (led : Led p n classes copies leader) where
  -- all copies of all leaders in one row, and the cell of each
  place : ℕ → ℕ
  place k = p.at (leader (k / copies)) (k % copies)

  class : (k : ℕ) → k < classes * copies → k / copies < classes
  class k h = (div-lt_iff_lt-mul {k = copies} some).1 h

  element : (k : ℕ) → k < classes * copies → leader (k / copies) < n
  element k h = led.element (k / copies) (class k h)

  claims : (k : ℕ) → k < classes * copies → Claims p (leader (k / copies)) (place k)
  unfolding place
  claims k h = record { copy = k % copies; below = rw (led.own (k / copies) (class k h)) (mod-lt k some); there = refl }

  only_there : (c : ℕ) → 0 < get_or table c 0 → (k : ℕ) × (k < classes * copies) × (place k ≡ c)
  unfolding place
  only_there c h = split (get_or table c 0) refl h
    where
      found : (f : ℕ) (o : (f < n) × Claims p f c) → (k : ℕ) × (k < classes * copies) × (place k ≡ c)
      found f o =
          let led-by = led.found f o.0 (omega (arith, o.1.below)) in
          let j = led-by.0 in
          let many : p.copies f ≡ copies = ap p.copies (sym led-by.2) ∙ led.own j led-by.1 in
          let below : o.1.copy < copies = omega (arith, o.1.below) in
          let k = j * copies + o.1.copy in (
            k,
            digits_lt led-by.1 below,
            ap (λ (g : ℕ). p.at (leader g) (k % copies)) (digits_div j below)
                ∙ ap₂ (λ (g r : ℕ). p.at g r) led-by.2 (digits_mod j below)
                ∙ o.1.there,
          )

      split : (entry : ℕ) → get_or table c 0 ≡ entry → 0 < entry → (k : ℕ) × (k < classes * copies) × (place k ≡ c)
      split zero e less = absurd (not-suc-le-zero less)
      split (suc f) e less = found f ((owners f c).0 (e ∙ omega arith))

  different : (j k : ℕ) → j < classes * copies → k < classes * copies → place j ≡ place k → j ≡ k
  unfolding place
  different j k hj hk e =
      let d = copies in
      let same_leader : leader (j / d) ≡ leader (k / d) =
      owners_none_share p n table owners (leader (j / d)) (leader (k / d)) (place k) (element j hj) (element k hk)
      (record { one = subst (Claims p (leader (j / d))) e (claims j hj); other = claims k hk }) in
      let same : j / d ≡ k / d = led.once (j / d) (k / d) (class j hj) (class k hk) same_leader in
      let copy : j % d ≡ k % d =
      apart (leader (j / d)) (j % d) (k % d) (element j hj) (rw (led.own (j / d) (class j hj)) (mod-lt j some))
      (rw (led.own (j / d) (class j hj)) (mod-lt k some)) (e ∙ ap (λ (f : ℕ). p.at f (k % d)) (sym same_leader)) in
      sym (div-add-mod' j d) ∙ ap (λ (q : ℕ). q * d + j % d) same ∙ ap (λ (r : ℕ). k / d * d + r) copy ∙ div-add-mod' k d

  -- as many cells are occupied as there are copies of all leaders
  pub all_occupied : occupied table ≡ classes * copies
  all_occupied =
      places_counted (classes * copies) place table (record {
        there = λ k h. omega (arith, (owners (leader (k / copies)) (place k)).1 (element k h, claims k h));
        only = only_there;
        different = different;
      })
