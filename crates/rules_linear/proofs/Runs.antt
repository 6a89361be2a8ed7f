-- In a run each sum grows by the same step: the component of one iter runs through its extent, the slower ones stand, and the faster ones have extent 1.
use mathlib.Core.Path.{◌≡◌, refl, sym, ap, ap₂, ◌∙◌}
use mathlib.Core.Bool.{Bool, true, false, cond, and-eq-true_iff}
use mathlib.Core.List.{List, [], ◌∷◌, map}
use Prim.Native.Nat.{ℕ, zero, suc, ◌+◌, ◌*◌, ◌/◌, ◌%◌, ◌≤◌, ◌<◌}
use native.Mathlib.Nat.{mul-le-mul, mul-le-mul_right, div-one, mod-one, mod-lt, mod-eq_of_lt, div-eq_of_lt, zero-div, zero-mod, one-mul, eq-one_of_dvd-one, dvd-mul_right, mul_comm, mul_assoc, div-div-eq-div-mul, mul-add-div_right, mul-add-mod_self_right, mul-div_cancel, mul-mod_left, le-mul_of_pos_right}
use native.Mathlib.Decide.{dec_lt}
use native.Mathlib.Omega.{arith}
use borrow.Author.Tests.{eqb-true, eqb-false, eq-eqb, ne_eqb}
use lib.Dec.{eqb}
use lib.IntN.{ℤ, pos, ◌+ℤ◌, ◌*ℤ◌, +ℤ_idl, +ℤ_idr, +ℤ_assoc, zero-*ℤ, *ℤ-zero}
use lib.ListN.{drop}
use Rattle.laws.proofs.Parts.{whole, parts_sum, parts_times}
use Rattle.card.specs.Lists.{all, within, product}
use Rattle.card.specs.Limits.{most_extent}
use Rattle.card.specs.Card.{listed, extent_of}
use Rattle.card.specs.declared.Iter.{Iter}
use Rattle.card.specs.declared.Iters.{Iters}
use Rattle.card.proofs.Lists.{within_numbers}
use Rattle.rules.specs.RowMajor.{components}
use Rattle.rules.specs.Rules.{added, part}
use Rattle.rules_linear.specs.Runs.{run_length}
use Rattle.rules_linear.proofs.Times.{moved, moved_none, moved_times}

-- every extent is one of document 01's
abbrev pub Fit : List Iter → Type 0
Fit l = all (within 1 most_extent) (map extent_of l) ≡ true

abbrev size_of : List Iter → ℕ
size_of l = product (map extent_of l)

fit_first : (iter : Iter) (l : List Iter) → Fit (iter ∷ l) → (1 ≤ iter.extent) × Fit l
fit_first iter l f =
    let both = (and-eq-true_iff (within 1 most_extent iter.extent) (all (within 1 most_extent) (map extent_of l))).0 f in
    ((within_numbers 1 most_extent iter.extent both.0).0, both.1)

-- so many elements are a number of runs of this length, and runs of 1 are of one element
pub record RunsOf (size length : ℕ) : Type 0 where
  pub some : 1 ≤ length
  pub count : ℕ
  pub whole_runs : size ≡ count * length
  pub a_run : 1 ≤ count
  pub one : length ≡ 1 → size ≡ 1

pub runs_of : (l : List Iter) → Fit l → RunsOf (size_of l) (run_length l)
runs_of [] f = record { some = omega arith; count = 1; whole_runs = refl; a_run = omega arith; one = λ e. refl }
runs_of (iter ∷ l) f = let first = fit_first iter l f in by first.0 (runs_of l first.1) (eqb (run_length l) 1) refl
  where
    by : 1 ≤ iter.extent → RunsOf (size_of l) (run_length l) → (b : Bool) → eqb (run_length l) 1 ≡ b → RunsOf (iter.extent * size_of l) (cond b iter.extent (run_length l))
    by some later true e =
        let one = later.one (eqb-true (run_length l) 1 e) in
        record {
          some = some;
          count = 1;
          whole_runs = ap (λ (n : ℕ). iter.extent * n) one ∙ omega arith;
          a_run = omega arith;
          one = λ h. ap₂ (λ (a b : ℕ). a * b) h one;
        }
    by some later false e = record {
      some = later.some;
      count = iter.extent * later.count;
      whole_runs = ap (λ (n : ℕ). iter.extent * n) later.whole_runs ∙ sym (mul_assoc iter.extent later.count (run_length l));
      a_run = mul-le-mul some later.a_run;
      one = λ h. absurd (eqb-false (run_length l) 1 e h);
    }

-- iters of extent 1 add nothing
still : (axis : ℕ) (l : List Iter) (index : ℕ) → size_of l ≡ 1 → added axis l (components (map extent_of l) index) ≡ pos 0
still axis [] index e = refl
still axis (iter ∷ l) index e =
    let one : iter.extent ≡ 1 = eq-one_of_dvd-one (rw (sym e) (dvd-mul_right iter.extent (size_of l))) in
    let later : size_of l ≡ 1 = sym (one-mul (size_of l)) ∙ ap (λ (n : ℕ). n * size_of l) (sym one) ∙ e in
    let zero : index / size_of l % iter.extent ≡ 0 = ap (λ (n : ℕ). index / size_of l % n) one ∙ mod-one (index / size_of l) in
    ap₂ (λ (n : ℕ) (z : ℤ). moved (eqb iter.axis axis) n iter.stride +ℤ z) zero (still axis l index later)
    ∙ +ℤ_idr (moved (eqb iter.axis axis) 0 iter.stride)
    ∙ moved_none (eqb iter.axis axis) iter.stride

-- a slower iter stands
stands : (h t s z : ℤ) (c : ℕ) → z ≡ pos 0 → (h +ℤ (t +ℤ pos c *ℤ s)) ≡ (h +ℤ t) +ℤ pos c *ℤ (z +ℤ s)
stands h t s z c e = sym (+ℤ_assoc h t (pos c *ℤ s)) ∙ ap (λ (x : ℤ). h +ℤ t +ℤ pos c *ℤ x) (sym (ap (λ (x : ℤ). x +ℤ s) e ∙ +ℤ_idl s))

-- the iter that runs: in a run its component is the place in the run
run_component : (extent q c : ℕ) → c < extent → (q * extent + c) % extent ≡ c
run_component extent q c h = mul-add-mod_self_right q extent c ∙ mod-eq_of_lt h

runs_by : (on : Bool) (extent c : ℕ) (stride : ℤ) → c < extent → moved on c stride ≡ pos c *ℤ moved on (1 % extent) stride
runs_by on extent c stride h =
    elim (dec_lt 1 extent) [
      | yes more ↦ moved_times on c stride ∙ ap (λ (n : ℕ). pos c *ℤ moved on n stride) (sym (mod-eq_of_lt more))
      | no one ↦
          let none : c ≡ 0 = omega arith in
          ap (λ (n : ℕ). moved on n stride) none ∙ moved_none on stride ∙ sym (zero-*ℤ (moved on (1 % extent) stride))
          ∙ ap (λ (n : ℕ). pos n *ℤ moved on (1 % extent) stride) (sym none)
    ]

-- a slower one's stands
slow_component : (size length count q c : ℕ) → size ≡ count * length → c < length → (q * length + c) / size ≡ q / count
slow_component size length count q c e h =
    ap (λ (n : ℕ). (q * length + c) / n) (e ∙ mul_comm count length)
    ∙ sym (div-div-eq-div-mul (q * length + c) length count)
    ∙ ap (λ (n : ℕ). n / count) (mul-add-div_right (omega arith) q c ∙ ap (λ (n : ℕ). q + n) (div-eq_of_lt h) ∙ omega arith)

pub run_added : (axis : ℕ) (l : List Iter) (q c : ℕ) → Fit l → c < run_length l
    → added axis l (components (map extent_of l) (q * run_length l + c))
    ≡ added axis l (components (map extent_of l) (q * run_length l)) +ℤ pos c *ℤ added axis l (components (map extent_of l) 1)
run_added axis [] q c f h = sym (*ℤ-zero (pos c)) ∙ sym (+ℤ_idl (pos c *ℤ pos 0))
run_added axis (iter ∷ l) q c f h =
    let first = fit_first iter l f in by (eqb (run_length l) 1) refl (runs_of l first.1) first.0 (run_added axis l q c first.1) h
  where
    on : Bool
    on = eqb iter.axis axis

    adds : ℕ → ℤ
    adds index = added axis l (components (map extent_of l) index)

    by : (b : Bool) → eqb (run_length l) 1 ≡ b → RunsOf (size_of l) (run_length l) → 1 ≤ iter.extent
        → (c < run_length l → adds (q * run_length l + c) ≡ adds (q * run_length l) +ℤ pos c *ℤ adds 1)
        → let e = cond b iter.extent (run_length l) in c < e
        → moved on ((q * e + c) / size_of l % iter.extent) iter.stride +ℤ adds (q * e + c)
        ≡ moved on (q * e / size_of l % iter.extent) iter.stride +ℤ adds (q * e) +ℤ pos c *ℤ (moved on (1 / size_of l % iter.extent) iter.stride +ℤ adds 1)
    by true e later some more h =
        let alone = later.one (eqb-true (run_length l) 1 e) in
        let E = iter.extent in
        let at : (n : ℕ) → n / size_of l ≡ n = λ n. ap (λ (k : ℕ). n / k) alone ∙ div-one n in
        let nothing : (n : ℕ) → adds n ≡ pos 0 = λ n. still axis l n alone in
        ap₂ (λ (n : ℕ) (z : ℤ). moved on n iter.stride +ℤ z) (ap (λ (n : ℕ). n % E) (at (q * E + c)) ∙ run_component E q c h) (nothing (q * E + c))
        ∙ +ℤ_idr (moved on c iter.stride)
        ∙ runs_by on E c iter.stride h
        ∙ sym (
        ap₂ (λ (a b : ℤ). a +ℤ pos c *ℤ b)
        (ap₂ (λ (n : ℕ) (z : ℤ). moved on n iter.stride +ℤ z) (ap (λ (n : ℕ). n % E) (at (q * E)) ∙ mul-mod_left q E) (nothing (q * E))
        ∙ +ℤ_idr (moved on 0 iter.stride) ∙ moved_none on iter.stride)
        (ap₂ (λ (n : ℕ) (z : ℤ). moved on (n % E) iter.stride +ℤ z) (at 1) (nothing 1) ∙ +ℤ_idr (moved on (1 % E) iter.stride))
        ∙ +ℤ_idl (pos c *ℤ moved on (1 % E) iter.stride))
    by false e later some more h =
        let E = iter.extent in
        let same : (q * run_length l + c) / size_of l ≡ q * run_length l / size_of l =
        slow_component (size_of l) (run_length l) later.count q c later.whole_runs h
        ∙ sym (ap (λ (n : ℕ). n / size_of l) (omega arith) ∙ slow_component (size_of l) (run_length l) later.count q 0 later.whole_runs (omega arith)) in
        let longer : 1 < run_length l = omega (arith, later.some, eqb-false (run_length l) 1 e) in
        let several : 1 < size_of l = omega (arith, later.whole_runs, mul-le-mul_right (run_length l) later.a_run) in
        let none : 1 / size_of l % E ≡ 0 = ap (λ (n : ℕ). n % E) (div-eq_of_lt several) ∙ zero-mod E in
        ap₂ (λ (n : ℕ) (z : ℤ). moved on (n % E) iter.stride +ℤ z) same (more h)
        ∙ stands (moved on (q * run_length l / size_of l % E) iter.stride) (adds (q * run_length l)) (adds 1) _ c
        (ap (λ (n : ℕ). moved on n iter.stride) none ∙ moved_none on iter.stride)

-- so on a list of iters
pub part_run : (iters : Iters) (q c axis : ℕ) → Fit (listed iters) → c < run_length (listed iters)
    → part iters (q * run_length (listed iters) + c) axis ≡ part iters (q * run_length (listed iters)) axis +ℤ pos c *ℤ part iters 1 axis
part_run iters q c axis f h = run_added axis (listed iters) q c f h

-- a run is found from the last iter on: past those of extent 1 it is the extent that comes next, and what stands before does not matter
pub run_next : (iter : Iter) (l : List Iter) → run_length l ≡ 1 → run_length (iter ∷ l) ≡ iter.extent
run_next iter l e = ap (λ (b : Bool). cond b iter.extent (run_length l)) (eq-eqb (run_length l) 1 e)

pub run_behind : (k : ℕ) (l : List Iter) → (run_length (drop k l) ≡ 1 → ⊥) → run_length l ≡ run_length (drop k l)
run_behind zero l h = refl
run_behind (suc k) [] h = refl
run_behind (suc k) (iter ∷ l) h =
    let later = run_behind k l h in
    ap (λ (b : Bool). cond b iter.extent (run_length l)) (ne_eqb (run_length l) 1 (λ e. h (sym later ∙ e))) ∙ later
