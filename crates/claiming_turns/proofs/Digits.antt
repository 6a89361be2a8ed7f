-- Digits below their extents are the components of the index that they make; another digit moves index and sums by so many steps of its iter.
use mathlib.Core.Path.{◌≡◌, refl, sym, ap, ap₂, ◌∙◌, fun_ext}
use mathlib.Core.Bool.{Bool, true, false, cond}
use mathlib.Core.List.{List, [], ◌∷◌}
use Prim.Native.Nat.{ℕ, zero, suc, ◌+◌, ◌*◌, ◌/◌, ◌%◌, ◌≤◌, ◌<◌}
use native.Mathlib.Nat.{mul-le-mul_right, mod-eq_of_lt, div-eq_of_lt, mul-add-div_right, mul-add-mod_self_right, mul_assoc, add-mul}
use native.Mathlib.Omega.{arith}
use lib.Dec.{eqb}
use lib.IntN.{ℤ, pos, ◌+ℤ◌, ◌*ℤ◌, +ℤ_assoc, *ℤ-zero}
use lib.ListN.{length, get_or, set}
use Rattle.laws.proofs.Parts.{whole, parts_sum}
use Rattle.card.specs.Lists.{product}
use Rattle.card.specs.Card.{none}
use Rattle.card.specs.declared.Iter.{Iter}
use Rattle.rules.specs.RowMajor.{row_major, components}
use Rattle.rules.specs.Rules.{added}
use Rattle.rules_linear.specs.Levels.{seven, level_at}
use Rattle.rules_linear.proofs.Levels.{weighed_sum_lem, weighed_times}
use Rattle.rules_linear.proofs.Cells.{between}
use Rattle.claiming_turns.specs.Turns.{DigitsFit, iter_extents, index_of, sums_at, unit, size_from}

-- the index is one of the elements
pub index_below : (ns cs : List ℕ) → DigitsFit ns cs → row_major ns cs < product ns
index_below [] cs f = omega arith
index_below (n ∷ ns) [] f = absurd f
index_below (n ∷ ns) (c ∷ cs) f =
    let more : (c + 1) * product ns ≤ n * product ns = mul-le-mul_right (product ns) (omega (arith, f.0)) in
    omega (arith, index_below ns cs f.1, more, add-mul c 1 (product ns))

-- split into components it gives the digits back
pub digits_back : (axis : ℕ) (l : List Iter) (cs : List ℕ) (above : ℕ) → DigitsFit (iter_extents l) cs
    → added axis l (components (iter_extents l) (above * product (iter_extents l) + index_of l cs)) ≡ added axis l cs
digits_back axis [] cs above f = refl
digits_back axis (iter ∷ l) [] above f = absurd f
digits_back axis (iter ∷ l) (c ∷ cs) above f =
    let n = iter.extent in
    let p = product (iter_extents l) in
    let r = index_of l cs in
    let below : r < p = index_below (iter_extents l) cs f.1 in
    let same : above * (n * p) + (c * p + r) ≡ (above * n + c) * p + r =
    omega (arith, sym (mul_assoc above n p), add-mul (above * n) c p) in
    let digit : (above * (n * p) + (c * p + r)) / p % n ≡ c =
    ap (λ (i : ℕ). i / p % n) same
    ∙ ap (λ (i : ℕ). i % n) (mul-add-div_right (omega arith) (above * n + c) r ∙ ap (λ (i : ℕ). above * n + c + i) (div-eq_of_lt below) ∙ omega arith)
    ∙ mul-add-mod_self_right above n c
    ∙ mod-eq_of_lt f.0 in
    ap₂ (λ (d : ℕ) (z : ℤ). cond (eqb iter.axis axis) (pos d *ℤ iter.stride) (pos 0) +ℤ z) digit
    (ap (λ (i : ℕ). added axis l (components (iter_extents l) i)) same ∙ digits_back axis l cs (above * n + c) f.1)

-- another digit
pub set_fits : (ns cs : List ℕ) (k x : ℕ) → x < get_or ns k 0 → DigitsFit ns cs → DigitsFit ns (set cs k x)
set_fits [] cs k x h f = tt
set_fits (n ∷ ns) [] k x h f = absurd f
set_fits (n ∷ ns) (c ∷ cs) zero x h f = (h, f.1)
set_fits (n ∷ ns) (c ∷ cs) (suc k) x h f = (f.0, set_fits ns cs k x h f.1)

pub digit_below : (ns cs : List ℕ) (k : ℕ) → k < length ns → DigitsFit ns cs → get_or cs k 0 < get_or ns k 0
digit_below [] cs k h f = absurd (omega arith)
digit_below (n ∷ ns) [] k h f = absurd f
digit_below (n ∷ ns) (c ∷ cs) zero h f = f.0
digit_below (n ∷ ns) (c ∷ cs) (suc k) h f = digit_below ns cs k (omega arith) f.1

pub set_index : (l : List Iter) (cs : List ℕ) (k x : ℕ) → k < length l → DigitsFit (iter_extents l) cs
    → index_of l (set cs k x) + get_or cs k 0 * size_from (suc k) l ≡ index_of l cs + x * size_from (suc k) l
set_index [] cs k x h f = absurd (omega arith)
set_index (iter ∷ l) [] k x h f = absurd f
set_index (iter ∷ l) (c ∷ cs) zero x h f = omega arith
set_index (iter ∷ l) (c ∷ cs) (suc k) x h f = omega (arith, set_index l cs k x (omega arith) f.1)

-- what so many steps of an iter move
abbrev moves : Iter → ℕ → ℕ → ℤ
moves iter c axis = cond (eqb iter.axis axis) (pos c *ℤ iter.stride) (pos 0)

set_moves : (axis : ℕ) (l : List Iter) (cs : List ℕ) (k x : ℕ) → k < length l → DigitsFit (iter_extents l) cs
    → added axis l (set cs k x) +ℤ moves (get_or l k none) (get_or cs k 0) axis ≡ added axis l cs +ℤ moves (get_or l k none) x axis
set_moves axis [] cs k x h f = absurd (omega arith)
set_moves axis (iter ∷ l) [] k x h f = absurd f
set_moves axis (iter ∷ l) (c ∷ cs) zero x h f = turned (moves iter x axis) (added axis l cs) (moves iter c axis)
  where
    turned : (a b c : ℤ) → (a +ℤ b) +ℤ c ≡ (c +ℤ b) +ℤ a
    turned a b c = omega (whole, parts_sum a b, parts_sum (a +ℤ b) c, parts_sum c b, parts_sum (c +ℤ b) a)
set_moves axis (iter ∷ l) (c ∷ cs) (suc k) x h f =
    +ℤ_assoc (moves iter c axis) (added axis l (set cs k x)) (moves (get_or l k none) (get_or cs k 0) axis)
    ∙ ap (λ (z : ℤ). moves iter c axis +ℤ z) (set_moves axis l cs k x (omega arith) f.1)
    ∙ sym (+ℤ_assoc (moves iter c axis) (added axis l cs) (moves (get_or l k none) x axis))

moves_units : (iter : Iter) (c axis : ℕ) → moves iter c axis ≡ pos c *ℤ unit iter axis
moves_units iter c axis = by (eqb iter.axis axis)
  where
    by : (b : Bool) → cond b (pos c *ℤ iter.stride) (pos 0) ≡ pos c *ℤ cond b iter.stride (pos 0)
    by true = refl
    by false = sym (*ℤ-zero (pos c))

module _ (l : List Iter) (offset : List ℤ) (cs : List ℕ) (k x : ℕ) (h : k < length l) (f : DigitsFit (iter_extents l) cs) where
  abbrev c : ℕ
  c = get_or cs k 0

  abbrev u : ℕ → ℤ
  u = unit (get_or l k none)

  pub set_sums : (axis : ℕ) → sums_at l offset (set cs k x) axis +ℤ pos c *ℤ u axis ≡ sums_at l offset cs axis +ℤ pos x *ℤ u axis
  set_sums axis =
      let o = get_or offset axis (pos 0) in
      between (added axis l (set cs k x)) o (pos c *ℤ u axis)
      ∙ ap (λ (z : ℤ). z +ℤ o)
      (ap (λ (z : ℤ). added axis l (set cs k x) +ℤ z) (sym (moves_units (get_or l k none) c axis)) ∙ set_moves axis l cs k x h f
      ∙ ap (λ (z : ℤ). added axis l cs +ℤ z) (moves_units (get_or l k none) x axis))
      ∙ sym (between (added axis l cs) o (pos x *ℤ u axis))

  pub set_level : (ns : List ℕ) → level_at ns (sums_at l offset (set cs k x)) +ℤ pos c *ℤ level_at ns u ≡ level_at ns (sums_at l offset cs) +ℤ pos x *ℤ level_at ns u
  set_level ns =
      ap (λ (z : ℤ). level_at ns (sums_at l offset (set cs k x)) +ℤ z) (sym (weighed_times ns c u seven))
      ∙ sym (weighed_sum_lem ns (sums_at l offset (set cs k x)) (λ axis. pos c *ℤ u axis) seven)
      ∙ ap (level_at ns) (fun_ext set_sums)
      ∙ weighed_sum_lem ns (sums_at l offset cs) (λ axis. pos x *ℤ u axis) seven
      ∙ ap (λ (z : ℤ). level_at ns (sums_at l offset cs) +ℤ z) (weighed_times ns x u seven)
