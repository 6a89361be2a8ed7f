-- What an admitted card is: the ladder ends in an admission only where all six checks are passed, and its products then lie within their limits.
use Rattle.std.specs.Prelude.{Err, Ok, Result, ⊤}
use mathlib.Core.Path.{◌≡◌, refl}
use mathlib.Core.Bool.{Bool, true, false, cond, not, ◌&&◌, and-eq-true_iff}
use mathlib.Core.List.{List, map}
use Prim.Native.Nat.{ℕ, ◌≤◌}
use native.Mathlib.Omega.{arith}
use borrow.Author.Tests.{leb-true}
use Rattle.answers.specs.Refusals.{no_refusal}
use Rattle.laws.proofs.Tests.{four_of}
use lib.Dec.{leb}
use lib.IntN.{ℤ}
use lib.ListN.{get_or}
use Rattle.laws.proofs.Rungs.{apart}
use Rattle.answers.specs.declared.Refusal.{Refusal}
use Rattle.answers.specs.declared.Refusal.TheVariants.{Counts, Limits, Axis, Space, TooMany, Swizzle}
use Rattle.card.specs.Lists.{all, within, within_z}
use Rattle.card.specs.Limits.{most_extent, least_stride, most_stride, most_length, most_cells, most_elements, most_copies}
use Rattle.card.specs.Card.{listed, marks_of, extent_of, stride_of, elements, copies, cells}
use Rattle.card.specs.Admission.{counts_fit, iters_fit, marks_fit, numbers_fit, axes_fit, space_fits, few_enough, swizzle_fits, field_checks, admission}
use Rattle.card.specs.Packed.{card_of, Admits}
use Rattle.card.specs.declared.Iters.{Iters}
use Rattle.card.specs.declared.Card.{Card}
use Rattle.card.proofs.Lists.{product_positive}

-- one rung: it was passed, and so was the rest of the ladder
passed : (b : Bool) (r : Refusal) (rest : Result ⊤ Refusal) → cond (not b) (Err r) rest ≡ no_refusal → (b ≡ true) × (rest ≡ no_refusal)
passed true r rest e = (refl, e)
passed false r rest e = absurd (apart (cc))

-- checks 1 to 3 by what they come to: refused they refuse whatever comes after, and passed they give it
pub fields_refused : (card : Card) (then : Result ⊤ Refusal) {r : Refusal} → field_checks card no_refusal ≡ Err r → field_checks card then ≡ Err r
fields_refused card then = split (counts_fit card) (numbers_fit card) (axes_fit card)
  where
    split : (a b c : Bool) {r : Refusal} → cond (not a) (Err Counts) (cond (not b) (Err Limits) (cond (not c) (Err Axis) no_refusal)) ≡ Err r
        → cond (not a) (Err Counts) (cond (not b) (Err Limits) (cond (not c) (Err Axis) then)) ≡ Err r
    split false b c e = e
    split true false c e = e
    split true true false e = e
    split true true true e = absurd (apart (cc))

pub fields_passed : (card : Card) (then : Result ⊤ Refusal) → field_checks card no_refusal ≡ no_refusal → field_checks card then ≡ then
fields_passed card then e =
    let p1 = passed (counts_fit card) Counts _ e in
    let p2 = passed (numbers_fit card) Limits _ p1.1 in
    let p3 = passed (axes_fit card) Axis _ p2.1 in
    rw (p1.0, p2.0, p3.0)

-- all six checks are passed
pub record Checked (card : Card) : Type 0 where
  pub counts : counts_fit card ≡ true
  pub numbers : numbers_fit card ≡ true
  pub axes : axes_fit card ≡ true
  pub space : space_fits card.lengths ≡ true
  pub few : few_enough card ≡ true
  pub swizzle : swizzle_fits card ≡ true

pub checked : (card : Card) → admission card ≡ no_refusal → Checked card
unfolding admission
checked card e =
    let p1 = passed (counts_fit card) Counts _ e in
    let p2 = passed (numbers_fit card) Limits _ p1.1 in
    let p3 = passed (axes_fit card) Axis _ p2.1 in
    let p4 = passed (space_fits card.lengths) Space _ p3.1 in
    let p5 = passed (few_enough card) TooMany _ p4.1 in
    let p6 = passed (swizzle_fits card) Swizzle _ p5.1 in
    record { counts = p1.0; numbers = p2.0; axes = p3.0; space = p4.0; few = p5.0; swizzle = p6.0 }

-- the extents and the strides of a list of iters that fit
pub record Fitting (iters : Iters) : Type 0 where
  pub extents : all (within 1 most_extent) (map extent_of (listed iters)) ≡ true
  pub strides : all (within_z least_stride most_stride) (map stride_of (listed iters)) ≡ true

pub fitting : (iters : Iters) → iters_fit iters ≡ true → Fitting iters
fitting iters t =
    let both = (and-eq-true_iff (all (within 1 most_extent) (map extent_of (listed iters))) (all (within_z least_stride most_stride) (map stride_of (listed iters)))).0 t in
    record { extents = both.0; strides = both.1 }

pub record Numbered (card : Card) : Type 0 where
  pub shard : iters_fit card.shard ≡ true
  pub marks : marks_fit (marks_of card) (map stride_of (listed card.shard)) ≡ true
  pub replica : iters_fit card.replica ≡ true
  pub offset : all (within_z least_stride most_stride) card.offset ≡ true

pub numbered : (card : Card) → numbers_fit card ≡ true → Numbered card
numbered card t =
    let parts = four_of (iters_fit card.shard) _ _ _ t in
    record { shard = parts.0; marks = parts.1; replica = parts.2; offset = parts.3 }

-- the products of an admitted card
pub record Sized (card : Card) : Type 0 where
  pub some_elements : 1 ≤ elements card
  pub most_elements_lem : elements card ≤ most_elements
  pub some_copies : 1 ≤ copies card
  pub most_copies_lem : copies card ≤ most_copies
  pub some_cells : 1 ≤ cells card
  pub most_cells_lem : cells card ≤ most_cells

pub sized : (card : Card) → admission card ≡ no_refusal → Sized card
sized card e =
    let k = checked card e in
    let n = numbered card k.numbers in
    let few = (and-eq-true_iff (leb (elements card) most_elements) (leb (copies card) most_copies)).0 k.few in
    let space = (and-eq-true_iff (all (within 1 most_length) card.lengths) (leb (cells card) most_cells)).0 k.space in
    record {
      some_elements = product_positive most_extent (map extent_of (listed card.shard)) (fitting card.shard n.shard).extents;
      most_elements_lem = leb-true (elements card) most_elements few.0;
      some_copies = product_positive most_extent (map extent_of (listed card.replica)) (fitting card.replica n.replica).extents;
      most_copies_lem = leb-true (copies card) most_copies few.1;
      some_cells = product_positive most_length card.lengths space.0;
      most_cells_lem = leb-true (cells card) most_cells space.1;
    }

-- and so they stand whole in its packed numbers
pub record Measured (numbers : List ℕ) (strides : List ℤ) : Type 0 where
  pub elements_are : get_or numbers 45 0 ≡ elements (card_of numbers strides)
  pub copies_are : get_or numbers 46 0 ≡ copies (card_of numbers strides)
  pub cells_are : get_or numbers 47 0 ≡ cells (card_of numbers strides)

pub measured : (numbers : List ℕ) (strides : List ℤ) → Admits numbers strides → Measured numbers strides
measured numbers strides a =
    let n = sized (card_of numbers strides) a.admitted in
    record {
      elements_are = omega (arith, a.whole.elements_there, n.most_elements_lem);
      copies_are = omega (arith, a.whole.copies_there, n.most_copies_lem);
      cells_are = omega (arith, a.whole.cells_there, n.most_cells_lem);
    }
