-- One walk over the iters, from the last: what is left of the index is the quotient by the extents passed, and each axis has what the iters passed add to it.
use mathlib.Core.Path.{◌≡◌, sym, ap, ◌∙◌}
use mathlib.Core.Bool.{Bool, true, false, cond, and-eq-true_iff}
use mathlib.Core.List.{List, [], ◌∷◌, map}
use Prim.Native.Nat.{ℕ, zero, suc, ◌+◌, ◌*◌, ◌/◌, ◌%◌, ◌^◌, ◌≤◌, ◌<◌}
use lib.IntN.{ℤ, pos, nat_abs, ◌+ℤ◌, ◌*ℤ◌, +ℤ_idl, +ℤ_idr}
use native.Mathlib.Nat.{mul-le-mul, mod-lt, le_trans, mul_comm, div-div-eq-div-mul, div-one, le_of_suc-le-suc, not-suc-le-zero}
use native.Mathlib.Decide.{ℕ_discrete}
use native.Mathlib.Omega.{arith}
use lib.Dec.{eqb}
use lib.ListN.{length, get_or, set, take, length-set}
use lib.Seq.{slice, slice_empty, get_or-set_same, get_or-set_other}
use borrow.Author.Tests.{eq-eqb, ne_eqb}
use Rattle.laws.proofs.Signed.{sum_far, times_far, add_in_front}
use Rattle.card.specs.Lists.{all, within, within_z, product}
use Rattle.card.specs.Limits.{most_extent, least_stride, most_stride}
use Rattle.card.specs.Card.{extent_of, stride_of}
use Rattle.card.specs.Packed.{farthest}
use Rattle.card.specs.declared.Iter.{Iter}
use Rattle.card.proofs.Lists.{within_numbers, stride_far}
use Rattle.card.proofs.ReadBack.{eight_slots}
use Rattle.rules.specs.RowMajor.{components}
use Rattle.rules.specs.Rules.{axes, added}
use Rattle.rules.specs.Copies.{combinations}

-- what a list of iters adds to an axis at an index
abbrev pub along : List Iter → ℕ → ℕ → ℤ
along l index axis = added axis l (components (map extent_of l) index)

-- a component times its stride, with room to spare
abbrev pub step : ℕ
step = 2 ^ 32

-- where the numbers fit, no iter moves an axis further than a step
pub along_small : (l : List Iter) (index axis : ℕ) → all (within 1 most_extent) (map extent_of l) ≡ true → all (within_z least_stride most_stride) (map stride_of l) ≡ true
    → nat_abs (along l index axis) ≤ length l * step
along_small [] index axis e s = omega arith
along_small (iter ∷ l) index axis e s =
    let es = (and-eq-true_iff (within 1 most_extent iter.extent) (all (within 1 most_extent) (map extent_of l))).0 e in
    let ss = (and-eq-true_iff (within_z least_stride most_stride iter.stride) (all (within_z least_stride most_stride) (map stride_of l))).0 s in
    let extent = within_numbers 1 most_extent iter.extent es.0 in
    let stride = stride_far iter.stride ss.0 in
    let c = index / product (map extent_of l) % iter.extent in
    let below : c < iter.extent = mod-lt (index / product (map extent_of l)) extent.0 in
    let once : nat_abs (pos c *ℤ iter.stride) ≤ step =
    rw (times_far c iter.stride) (le_trans (mul-le-mul {n₂ = most_extent} {m₂ = farthest} (omega arith) stride) (omega arith)) in
    let rest = along_small l index axis es.1 ss.1 in
    split (eqb iter.axis axis) (pos c *ℤ iter.stride) once rest
  where
    split : (b : Bool) (z : ℤ) → nat_abs z ≤ step → nat_abs (along l index axis) ≤ length l * step → nat_abs (cond b z (pos 0) +ℤ along l index axis) ≤ suc (length l) * step
    split true z h r = let s = sum_far z (along l index axis) in omega arith
    split false z h r = let s = sum_far (pos 0) (along l index axis) in omega arith

-- where a walk over the first n iters of l stands that has passed all from k on
pub record Walking (l : List Iter) (n index : ℕ) (start : List ℤ) (k rest : ℕ) (sums : List ℤ) : Type 0 where
  pub eight : length sums ≡ 8
  pub left : rest ≡ index / product (map extent_of (slice k n l))
  pub sums_so_far : (axis : ℕ) → axis < 8 → get_or sums axis (pos 0) ≡ get_or start axis (pos 0) +ℤ along (slice k n l) index axis

module _ (l : List Iter) (n index : ℕ) (start : List ℤ) where
  pub walking_none : length start ≡ 8 → Walking l n index start n index start
  walking_none h = record {
    eight = h;
    left = sym (ap (λ (s : List Iter). index / product (map extent_of s)) (slice_empty n l) ∙ div-one index);
    sums_so_far = λ axis small.
        sym (ap (λ (s : List Iter). get_or start axis (pos 0) +ℤ along s index axis) (slice_empty n l) ∙ +ℤ_idr (get_or start axis (pos 0)));
  }

  -- the iter at k, of which the walk comes next
  pub walking_more : (k rest : ℕ) (iter : Iter) {sums : List ℤ} → slice k n l ≡ iter ∷ slice (k + 1) n l → iter.axis < 8
      → Walking l n index start (k + 1) rest sums
      → Walking l n index start k (rest / iter.extent) (set sums iter.axis (get_or sums iter.axis (pos 0) +ℤ pos (rest % iter.extent) *ℤ iter.stride))
  walking_more k rest iter {sums} next small w = record {
    eight = length-set sums iter.axis _ ∙ w.eight;
    left =
        ap (λ (m : ℕ). m / iter.extent) w.left
        ∙ div-div-eq-div-mul index after iter.extent
        ∙ ap (λ (m : ℕ). index / m) (mul_comm after iter.extent)
        ∙ sym (ap (λ (s : List Iter). index / product (map extent_of s)) next);
    sums_so_far = λ axis below.
        elim (ℕ_discrete axis iter.axis) [
          | yes same ↦
              ap (λ (x : ℕ). get_or (set sums iter.axis new) x (pos 0)) same
              ∙ get_or-set_same sums iter.axis new (pos 0) (omega (arith, w.eight))
              ∙ ap (λ (x : ℕ). get_or sums x (pos 0) +ℤ moved rest) (sym same)
              ∙ ap (λ (z : ℤ). z +ℤ moved rest) (w.sums_so_far axis below)
              ∙ add_in_front (get_or start axis (pos 0)) (along (slice (k + 1) n l) index axis) (moved rest)
              ∙ ap (λ (m : ℕ). get_or start axis (pos 0) +ℤ (moved m +ℤ along (slice (k + 1) n l) index axis)) w.left
              ∙ sym (ap (λ (z : ℤ). get_or start axis (pos 0) +ℤ z) (added_here axis (eq-eqb iter.axis axis (sym same))))
          | no other ↦
              get_or-set_other sums iter.axis axis new (pos 0) other
              ∙ w.sums_so_far axis below
              ∙ sym (ap (λ (z : ℤ). get_or start axis (pos 0) +ℤ z)
              (added_here axis (ne_eqb iter.axis axis (λ e. other (sym e))) ∙ +ℤ_idl (along (slice (k + 1) n l) index axis)))
        ];
  }
    where
      after : ℕ
      after = product (map extent_of (slice (k + 1) n l))

      -- what the iter adds with this left of the index
      moved : ℕ → ℤ
      moved m = pos (m % iter.extent) *ℤ iter.stride

      new : ℤ
      new = get_or sums iter.axis (pos 0) +ℤ pos (rest % iter.extent) *ℤ iter.stride

      added_here : (axis : ℕ) {b : Bool} → eqb iter.axis axis ≡ b
          → along (slice k n l) index axis ≡ cond b (pos (index / after % iter.extent) *ℤ iter.stride) (pos 0) +ℤ along (slice (k + 1) n l) index axis
      added_here axis flag =
          ap (λ (s : List Iter). along s index axis) next
          ∙ ap (λ (b : Bool). cond b (pos (index / after % iter.extent) *ℤ iter.stride) (pos 0) +ℤ along (slice (k + 1) n l) index axis) flag

-- a function of consecutive numbers, at one of them
pub consecutive_at : {A : Type 0} (f : ℕ → A) (c n i : ℕ) (other : A) → i < n → get_or (map f (combinations c n)) i other ≡ f (c + i)
consecutive_at f c zero i other h = absurd (not-suc-le-zero h)
consecutive_at f c (suc n) zero other h = ap f (omega arith)
consecutive_at f c (suc n) (suc i) other h = consecutive_at f (c + 1) n i other (le_of_suc-le-suc h) ∙ ap f (omega arith)

-- after all iters
pub walked_all : (l : List Iter) (n index : ℕ) (start : List ℤ) {rest : ℕ} {sums : List ℤ} → Walking l n index start 0 rest sums
    → sums ≡ map (λ axis. get_or start axis (pos 0) +ℤ along (take n l) index axis) axes
walked_all l n index start {sums = sums} w =
    eight_slots (λ axis. get_or start axis (pos 0) +ℤ along (take n l) index axis) (pos 0) sums w.eight w.sums_so_far
