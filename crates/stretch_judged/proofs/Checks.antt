-- What is known where the answer is a stretch: the four checks have passed, one by one, and it ends within the cells.
use Rattle.std.specs.Prelude.{Result, Err}
use mathlib.Core.Path.{◌≡◌, sym, ap}
use mathlib.Core.Bool.{true, not, and-eq-true_iff}
use mathlib.Core.List.{List}
use Prim.Native.Nat.{ℕ, ◌+◌, ◌/◌, ◌≤◌}
use native.Mathlib.Nat.{le-mul_of_pos_right, mul-div_cancel_left}
use native.Mathlib.Omega.{arith}
use lib.Dec.{leb, ltb}
use lib.ListN.{take, drop}
use borrow.Author.Tests.{ltb-false, leb-true, not-false}
use Rattle.answers.specs.declared.Refusal.{Refusal}
use Rattle.answers.specs.declared.Cell.{Cell}
use Rattle.card.specs.Limits.{last_axis, most_length, most_cells}
use Rattle.card.specs.Lists.{all, within, product}
use Rattle.card.specs.Admission.{space_fits}
use Rattle.card.proofs.Lists.{product_positive}
use Rattle.rules.specs.RowMajor.{row_major, inside}
use Rattle.laws.proofs.Products.{factors}
use Rattle.laws.proofs.Rungs.{apart, passed_by}
use Rattle.rules.proofs.Prefixes.{product_parts, prefix_within}
use Rattle.stretch_judged.specs.Stretch.{asked, stretch_answer, stretch_with, stretch_numbers}
use Rattle.stretch_judged.specs.declared.Stretch.{Stretch}

-- a space that fits, its axes in two parts: each part has cells, and both no more than a space may have
pub record Parted (lengths : List ℕ) (n : ℕ) : Type 0 where
  pub some_first : 1 ≤ product (take n lengths)
  pub some_after : 1 ≤ product (drop n lengths)
  pub most_first : product (take n lengths) ≤ most_cells
  pub most : product lengths ≤ most_cells
  pub after : product lengths / product (take n lengths) ≡ product (drop n lengths)

pub parted : (lengths : List ℕ) (n : ℕ) → space_fits lengths ≡ true → Parted lengths n
parted lengths n t =
    let both = (and-eq-true_iff (all (within 1 most_length) lengths) (leb (product lengths) most_cells)).0 t in
    let some = product_positive most_length lengths both.0 in
    let few = leb-true (product lengths) most_cells both.1 in
    let parts = product_parts n lengths in
    let each = factors (product (take n lengths)) (product (drop n lengths)) (omega arith) in
    record {
      some_first = each.0;
      some_after = each.1;
      most_first = omega (arith, le-mul_of_pos_right (product (take n lengths)) each.1);
      most = few;
      after = rw (sym parts) (mul-div_cancel_left (product (drop n lengths)) each.0);
    }

-- the four checks have passed, and this is the stretch
pub record ChecksPassed (lengths : List ℕ) (axis : ℕ) (coordinates : List ℕ) (entries first long : ℕ) : Type 0 where
  pub fits : space_fits lengths ≡ true
  pub inside_asked : inside (asked axis lengths) (asked axis coordinates) ≡ true
  pub room : product lengths ≤ entries
  pub first_is : first ≡ row_major lengths (asked axis coordinates)
  pub long_is : long ≡ product (drop (axis + 1) lengths)

-- the stretch ends within the cells, and these within the table; it has a cell, and no more than a space may have
pub record StretchWithin (lengths : List ℕ) (entries first long : ℕ) : Type 0 where
  pub ends : first + long ≤ product lengths
  pub held : product lengths ≤ entries
  pub some : 1 ≤ long
  pub most : product lengths ≤ most_cells

-- a stretch is no refusal
not_refused : {r : Refusal} {first : Cell} {long : ℕ} → Err r ≡ stretch_with first long → ⊥
not_refused e = apart (cc)

module _ (lengths : List ℕ) (axis : ℕ) (coordinates : List ℕ) (entries : ℕ) (first : Cell) (long : ℕ)
    (found : stretch_answer lengths axis coordinates entries ≡ stretch_with first long) where
  pub answer_passed : ChecksPassed lengths axis coordinates entries first.0 long
  answer_passed =
      let three = passed_by (ltb last_axis axis) found not_refused in
      let four = passed_by (not (space_fits lengths)) three.1 not_refused in
      let twelve = passed_by (not (inside (asked axis lengths) (asked axis coordinates))) four.1 not_refused in
      let eleven = passed_by (ltb entries (product lengths)) twelve.1 not_refused in
      let same = eleven.1 in
      record {
        fits = not-false (space_fits lengths) four.0;
        inside_asked = not-false (inside (asked axis lengths) (asked axis coordinates)) twelve.0;
        room = ltb-false entries (product lengths) eleven.0;
        first_is = sym (ap (λ (found : Result Stretch Refusal). (stretch_numbers found).a) same);
        long_is = sym (ap (λ (found : Result Stretch Refusal). (stretch_numbers found).b) same);
      }

  pub answer_within : StretchWithin lengths entries first.0 long
  answer_within =
      let passed = answer_passed in
      let space = parted lengths (axis + 1) passed.fits in
      record {
        ends = omega (arith, prefix_within (axis + 1) lengths coordinates passed.inside_asked);
        held = passed.room;
        some = omega arith;
        most = space.most;
      }
