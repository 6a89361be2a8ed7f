-- Nothing lies beyond the far ends: a component times its stride is no further than at the end where it is largest or 0, and so are the sums; so a card whose far
-- ends lie inside lies inside.
use mathlib.Core.Path.{◌≡◌, refl, sym, ap, subst}
use mathlib.Core.Bool.{Bool, true, false, cond, and-eq-true_iff, true≢false}
use mathlib.Core.List.{List, [], ◌∷◌, map}
use Prim.Native.Nat.{ℕ, zero, suc, ◌+◌, ◌*◌, ◌-◌, ◌/◌, ◌%◌, ◌≤◌, ◌<◌}
use native.Mathlib.Nat.{mul-le-mul_right}
use native.Mathlib.Omega.{arith}
use borrow.Author.Tests.{lt-ltb, le-leb}
use lib.Dec.{eqb}
use lib.IntN.{ℤ, pos, negsuc, ◌+ℤ◌, ◌*ℤ◌}
use lib.ListN.{length, get_or, set, take, drop}
use lib.Seq.{slice}
use lib.Signed.{◌≤ℤ◌, le_z, ≤ℤ_refl}
use Rattle.card.specs.Lists.{all, within, product}
use Rattle.card.specs.Limits.{most_extent}
use Rattle.card.specs.Card.{listed, extent_of}
use Rattle.card.specs.declared.Iter.{Iter}
use Rattle.card.specs.declared.Iters.{Iters}
use Rattle.card.proofs.Lists.{within_numbers}
use Rattle.rules.specs.RowMajor.{row_major, components, inside}
use Rattle.rules.specs.Rules.{axes, added, part}
use Rattle.rules.proofs.RowMajor.{inside_parts, components_inside}
use Rattle.rules.proofs.Reuse.{components_back}
use Rattle.rules.proofs.Along.{along, Walking, walking_none, walking_more, walked_all}
use Rattle.outside_reach.specs.Ends.{far_end, ends, end_index}
use Rattle.laws.proofs.Parts.{parts_sum, parts_times, whole}

-- one component
times_most : (c : ℕ) (iter : Iter) → c < iter.extent → (pos c *ℤ iter.stride) ≤ℤ (pos (far_end true iter) *ℤ iter.stride)
times_most c iter h = by iter.stride
  where
    by : (s : ℤ) → (pos c *ℤ s) ≤ℤ (pos (far_end true (record { extent = iter.extent; stride = s; axis = iter.axis })) *ℤ s)
    by (pos n) =
        let below : c ≤ iter.extent - 1 = omega arith in
        rw (le-leb 0 n (omega arith)) (omega (whole, parts_times c (pos n), parts_times (iter.extent - 1) (pos n), mul-le-mul_right n below))
    by (negsuc n) = omega (whole, parts_times c (negsuc n), parts_times 0 (negsuc n))

times_least : (c : ℕ) (iter : Iter) → c < iter.extent → (pos (far_end false iter) *ℤ iter.stride) ≤ℤ (pos c *ℤ iter.stride)
times_least c iter h = by iter.stride
  where
    by : (s : ℤ) → (pos (far_end false (record { extent = iter.extent; stride = s; axis = iter.axis })) *ℤ s) ≤ℤ (pos c *ℤ s)
    by (pos n) = rw (le-leb 0 n (omega arith)) (omega (whole, parts_times c (pos n), parts_times 0 (pos n)))
    by (negsuc n) =
        let below : c ≤ iter.extent - 1 = omega arith in
        omega (whole, parts_times c (negsuc n), parts_times (iter.extent - 1) (negsuc n), mul-le-mul_right (suc n) below)

-- all of them
step_le : (b : Bool) (x y s t : ℤ) → x ≤ℤ y → s ≤ℤ t → (cond b x (pos 0) +ℤ s) ≤ℤ (cond b y (pos 0) +ℤ t)
step_le true x y s t h k = omega (whole, parts_sum x s, parts_sum y t)
step_le false x y s t h k = omega (whole, parts_sum (pos 0) s, parts_sum (pos 0) t)

pub added_most : (axis : ℕ) (l : List Iter) (cs : List ℕ) → inside (map extent_of l) cs ≡ true → added axis l cs ≤ℤ added axis l (ends true l)
added_most axis [] cs i = ≤ℤ_refl (pos 0)
added_most axis (iter ∷ l) [] i = absurd (true≢false (sym i))
added_most axis (iter ∷ l) (c ∷ cs) i =
    let both = inside_parts iter.extent (map extent_of l) c cs i in
    step_le (eqb iter.axis axis) _ _ _ _ (times_most c iter both.0) (added_most axis l cs both.1)

pub added_least : (axis : ℕ) (l : List Iter) (cs : List ℕ) → inside (map extent_of l) cs ≡ true → added axis l (ends false l) ≤ℤ added axis l cs
added_least axis [] cs i = ≤ℤ_refl (pos 0)
added_least axis (iter ∷ l) [] i = absurd (true≢false (sym i))
added_least axis (iter ∷ l) (c ∷ cs) i =
    let both = inside_parts iter.extent (map extent_of l) c cs i in
    step_le (eqb iter.axis axis) _ _ _ _ (times_least c iter both.0) (added_least axis l cs both.1)

-- the far ends are components
pub end_below : (up : Bool) (iter : Iter) → 1 ≤ iter.extent → far_end up iter < iter.extent
end_below up iter h = by up (le_z (pos 0) iter.stride)
  where
    by : (u b : Bool) → cond u (cond b (iter.extent - 1) 0) (cond b 0 (iter.extent - 1)) < iter.extent
    by true true = omega arith
    by true false = omega arith
    by false true = omega arith
    by false false = omega arith

pub ends_inside : (up : Bool) (l : List Iter) → all (within 1 most_extent) (map extent_of l) ≡ true → inside (map extent_of l) (ends up l) ≡ true
ends_inside up [] e = refl
ends_inside up (iter ∷ l) e =
    let both = (and-eq-true_iff (within 1 most_extent iter.extent) (all (within 1 most_extent) (map extent_of l))).0 e in
    let some = (within_numbers 1 most_extent iter.extent both.0).0 in
    rw (lt-ltb (far_end up iter) iter.extent (end_below up iter some), ends_inside up l both.1)

-- the components of their index are the far ends, and those of the iters from one on too
abbrev tail : List ℕ → List ℕ
tail [] = []
tail (x ∷ l) = l

abbrev head : List ℕ → ℕ
head [] = 0
head (x ∷ l) = x

ends_from : (up : Bool) (index k : ℕ) (l : List Iter) → components (map extent_of l) index ≡ ends up l → components (map extent_of (drop k l)) index ≡ ends up (drop k l)
ends_from up index zero l e = e
ends_from up index (suc k) [] e = e
ends_from up index (suc k) (iter ∷ l) e = ends_from up index k l (ap tail e)

-- the first n of a list have extents within their limits
abbrev pub Fits : List Iter → ℕ → Type 0
Fits l n = all (within 1 most_extent) (map extent_of (take n l)) ≡ true

module _ (up : Bool) (l : List Iter) (n : ℕ) where
  -- the index of their far end
  abbrev pub far : ℕ
  far = row_major (map extent_of (take n l)) (ends up (take n l))

  -- a walk to it, that has passed all from k on
  abbrev pub Spread : List ℤ → ℕ → List ℤ → Type 0
  Spread start k sums = Walking l n far start k (far / product (map extent_of (slice k n l))) sums

  pub spread_none : (start : List ℤ) → length start ≡ 8 → Spread start n start
  spread_none start h = let w = walking_none l n far start h in record { eight = w.eight; left = refl; sums_so_far = w.sums_so_far }

  -- adds the far end of the iter at k next
  pub spread_more : Fits l n → (start : List ℤ) (k : ℕ) (iter : Iter) {sums : List ℤ} → slice k n l ≡ iter ∷ slice (k + 1) n l → iter.axis < 8 → Spread start (k + 1) sums
      → Spread start k (set sums iter.axis (get_or sums iter.axis (pos 0) +ℤ pos (far_end up iter) *ℤ iter.stride))
  spread_more fit start k iter {sums} next small s =
      let rest = far / product (map extent_of (slice (k + 1) n l)) in
      let all-ends = components_back (map extent_of (take n l)) (ends up (take n l)) (ends_inside up (take n l) fit) in
      let digit : rest % iter.extent ≡ far_end up iter = ap head (subst (λ (m : List Iter). components (map extent_of m) far ≡ ends up m) next (ends_from up far k (take n l) all-ends)) in
      let w = walking_more l n far start k rest iter {sums = sums} next small s in
      subst (λ (c : ℕ). Spread start k (set sums iter.axis (get_or sums iter.axis (pos 0) +ℤ pos c *ℤ iter.stride))) digit
      (record { eight = w.eight; left = refl; sums_so_far = w.sums_so_far })

  pub spread_all : (start : List ℤ) {sums : List ℤ} → Spread start 0 sums → sums ≡ map (λ axis. get_or start axis (pos 0) +ℤ along (take n l) far axis) axes
  spread_all start s = walked_all l n far start s

-- so nothing that a list of iters adds lies beyond what it adds there
module _ (iters : Iters) (fit : all (within 1 most_extent) (map extent_of (listed iters)) ≡ true) (index axis : ℕ) (h : index < product (map extent_of (listed iters))) where
  there : (up : Bool) → part iters (end_index up iters) axis ≡ added axis (listed iters) (ends up (listed iters))
  there up = ap (added axis (listed iters)) (components_back (map extent_of (listed iters)) (ends up (listed iters)) (ends_inside up (listed iters) fit))

  have : inside (map extent_of (listed iters)) (components (map extent_of (listed iters)) index) ≡ true
  have = components_inside (map extent_of (listed iters)) index (omega arith)

  pub part_most : part iters index axis ≤ℤ part iters (end_index true iters) axis
  part_most = rw (there true) (added_most axis (listed iters) (components (map extent_of (listed iters)) index) have)

  pub part_least : part iters (end_index false iters) axis ≤ℤ part iters index axis
  part_least = rw (there false) (added_least axis (listed iters) (components (map extent_of (listed iters)) index) have)
