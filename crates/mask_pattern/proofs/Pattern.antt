-- The endless pattern runs as document 01 says, for all spans: runs of set and of clear columns take turns, so the pattern repeats. From the
-- remainder of a column that lies one run further on.
use mathlib.Core.Path.{◌≡◌, sym, ap, ◌∙◌}
use mathlib.Core.Bool.{Bool, true, false}
use mathlib.Core.Logic.{⊎_elim}
use Prim.Native.Nat.{ℕ, ◌+◌, ◌-◌, ◌*◌, ◌/◌, ◌%◌, ◌≤◌, ◌<◌}
use native.Mathlib.Nat.{mod-lt, mod-eq_of_lt, add-mod-mod, add-mod_right, mod-eq-sub-mod, div-add-mod', add_assoc}
use native.Mathlib.Omega.{arith}
use borrow.Author.Tests.{lt-ltb, le-ltb, le-leb, lt-leb}
use lib.Arith.{digits_div, digits_mod}
use lib.ListN.{get_or}
use Rattle.laws.proofs.Order.{le_or_lt}
use Rattle.mask_pattern.specs.Pattern.{endless, column}
use Rattle.descriptor.specs.declared.Fields.{Fields}

-- the remainder of a further on
near : (P a q : ℕ) → a + q % P < P → (a + q) % P ≡ a + q % P
near P a q h = sym (add-mod-mod a q P) ∙ mod-eq_of_lt h

far : (P a q : ℕ) → a ≤ P → q % P < P → P ≤ a + q % P → (a + q) % P ≡ a + q % P - P
far P a q l r h = sym (add-mod-mod a q P) ∙ mod-eq-sub-mod h ∙ mod-eq_of_lt (omega arith)

-- the endless run of skip + 1 set and used + 1 clear columns
pub record Turns (skip used : ℕ) : Type 0 where
  pub set_first : (q : ℕ) → q < skip + 1 → endless true skip used q ≡ true
  pub then_clear : (q : ℕ) → endless true skip used (skip + 1 + q) ≡ endless false skip used q
  pub clear_first : (q : ℕ) → q < used + 1 → endless false skip used q ≡ false
  pub then_set : (q : ℕ) → endless false skip used (used + 1 + q) ≡ endless true skip used q

module _ (skip used : ℕ) where
  -- a run of each kind
  abbrev pub period : ℕ
  period = skip + 1 + (used + 1)

  rest : (q : ℕ) → q % period < period
  rest q = mod-lt q (omega arith)

  clear_next : (q : ℕ) → endless true skip used (skip + 1 + q) ≡ endless false skip used q
  clear_next q =
      let r = rest q in
      ⊎_elim
      (λ (h : used + 1 ≤ q % period).
      rw (far period (skip + 1) q (omega arith) r (omega arith), lt-ltb (skip + 1 + q % period - period) (skip + 1) (omega arith), le-leb (used + 1) (q % period) h))
      (λ (h : q % period < used + 1).
      rw (near period (skip + 1) q (omega arith), le-ltb (skip + 1 + q % period) (skip + 1) (omega arith), lt-leb (used + 1) (q % period) h))
      (le_or_lt (used + 1) (q % period))

  set_next : (q : ℕ) → endless false skip used (used + 1 + q) ≡ endless true skip used q
  set_next q =
      let r = rest q in
      ⊎_elim
      (λ (h : skip + 1 ≤ q % period).
      rw (far period (used + 1) q (omega arith) r (omega arith), lt-leb (used + 1) (used + 1 + q % period - period) (omega arith), le-ltb (q % period) (skip + 1) h))
      (λ (h : q % period < skip + 1).
      rw (near period (used + 1) q (omega arith), le-leb (used + 1) (used + 1 + q % period) (omega arith), lt-ltb (q % period) (skip + 1) h))
      (le_or_lt (skip + 1) (q % period))

  pub turns : Turns skip used
  turns = record {
    set_first = λ q h. rw (mod-eq_of_lt {n = q} {m = period} (omega arith)) (lt-ltb q (skip + 1) h);
    then_clear = clear_next;
    clear_first = λ q h. rw (mod-eq_of_lt {n = q} {m = period} (omega arith)) (lt-leb (used + 1) q h);
    then_set = set_next;
  }

  pub endless_repeats : (first : Bool) (q : ℕ) → endless first skip used (q + period) ≡ endless first skip used q
  endless_repeats true q = rw (add-mod_right q period)
  endless_repeats false q = rw (add-mod_right q period)

-- a mask whose non-zero mask field is 0 is all clear
pub all_clear : (size : ℕ) (f : Fields) → f.non_zero ≡ false → (p : ℕ) → column size f p ≡ false
unfolding column
all_clear size f e p = rw e

-- k columns further on in the same sub-mask
pub further_in : (size p k : ℕ) → p % size + k < size → ((p + k) / size ≡ p / size) × ((p + k) % size ≡ p % size + k)
further_in size p k h =
    let parts : p + k ≡ p / size * size + (p % size + k) = omega (arith, div-add-mod' p size) in
    (ap (λ (n : ℕ). n / size) parts ∙ digits_div (p / size) h, ap (λ (n : ℕ). n % size) parts ∙ digits_mod (p / size) h)

-- the mask is periodic from the start of each sub-mask
pub repeats : (size : ℕ) (f : Fields) (p : ℕ) → p % size + period f.skip_span f.use_span < size
    → column size f (p + period f.skip_span f.use_span) ≡ column size f p
unfolding column
repeats size f p h =
    let P = period f.skip_span f.use_span in
    let start = get_or f.start_counts (p / size) 0 in
    let on = further_in size p P h in
    rw (on.0, on.1, ← add_assoc start (p % size) P, endless_repeats f.skip_span f.use_span (get_or f.first_spans (p / size) false) (start + p % size))
