-- Document 02's request 1 over bits: dealing and collecting undo each other at the type of bits, so that collecting what was dealt gives back the
-- same bits at every place, not-a-number patterns included. An instance of the theorem over values of any type.
use Rattle.std.specs.Prelude.{Ok, Result, ⊤}
use mathlib.Core.Path.{◌≡◌, ap, ◌∙◌}
use mathlib.Core.Bool.{true, false}
use mathlib.Core.List.{List, [], map}
use Prim.Native.Nat.{ℕ}
use lib.ListN.{length, get_or, length-map, get_or-map}
use Rattle.answers.specs.Refusals.{no_refusal}
use Rattle.answers.specs.declared.Refusal.{Refusal}
use Rattle.fragment.specs.Kinds.{at}
use Rattle.fragment.specs.Fragment.{is_place}
use Rattle.values.specs.Rows.{entry}
use Rattle.values.specs.Values.{is_own, dealt, collected}
use Rattle.values.specs.Registers.{deal_answer, collect_answer, filled}
use Rattle.values.proofs.Rows.{Shape}
use Rattle.values.proofs.Theorems.{IsTile, AreLanes, UndoEachOther, undo_each_other}
use Rattle.values.proofs.Answers.{collected_as_dealt, dealt_as_collected}
use Rattle.c_bits.specs.declared.Bits.{Bits}
use Rattle.c_bits.specs.declared.Bits.TheVariants.{Empty}
use Rattle.c_bits.specs.Bits.{read_as, registers_held, dealt_bits, collected_bits}
use Rattle.c_bits.proofs.Read.{read_dealt, read_collected}

pub bits_undo_each_other : (kind c : ℕ) → UndoEachOther Empty kind c
bits_undo_each_other = undo_each_other Empty

-- rows that are read keep their shape
read_shape : (rows : ℕ) (bits : List (List Bits)) → Shape rows 8 bits → Shape rows 8 (registers_held bits)
read_shape rows bits s = record {
  of_rows = length-map bits (map read_as) ∙ s.of_rows;
  of_columns = λ r h. ap length (get_or-map (map read_as) bits r []) ∙ length-map (get_or bits r []) read_as ∙ s.of_columns r h;
}

-- bits that were dealt can be collected, and then every place of the matrix has the same bits, whatever the tile collected into
pub record BitsGivenBack (kind c : ℕ) (tile lanes into : List (List Bits)) : Type 0 where
  pub answer : collect_answer kind c (registers_held (dealt_bits kind c tile lanes)) ≡ no_refusal
  pub places : (row column : ℕ) → is_place kind (at c row column) ≡ true
      → entry Empty (collected_bits kind c (dealt_bits kind c tile lanes) into) row column ≡ entry Empty tile row column
  pub others : (row column : ℕ) → is_place kind (at c row column) ≡ false
      → entry Empty (collected_bits kind c (dealt_bits kind c tile lanes) into) row column ≡ entry Empty into row column

pub bits_collected_as_dealt : (kind c : ℕ) (tile lanes into : List (List Bits)) → AreLanes lanes → IsTile into → deal_answer kind c (registers_held tile) ≡ no_refusal
    → BitsGivenBack kind c tile lanes into
bits_collected_as_dealt kind c tile lanes into l t e =
    let u = bits_undo_each_other kind c in
    let moved : List (List Bits) = dealt Empty kind c tile lanes in
    let dealing : dealt_bits kind c tile lanes ≡ moved = ap (λ (m : Result ⊤ Refusal). filled m moved lanes) e in
    let accepted : collect_answer kind c (registers_held (dealt_bits kind c tile lanes)) ≡ no_refusal =
    ap (collect_answer kind c) (read_dealt kind c tile lanes)
    ∙ (collected_as_dealt kind c (registers_held tile) (registers_held lanes) (registers_held into) (read_shape 32 lanes l) (read_shape 8 into t) e).answer in
    let whole : collected_bits kind c (dealt_bits kind c tile lanes) into ≡ collected Empty kind c moved into =
    ap (λ (m : Result ⊤ Refusal). filled m (collected Empty kind c (dealt_bits kind c tile lanes) into) into) accepted
    ∙ ap (λ (x : List (List Bits)). collected Empty kind c x into) dealing in
    record {
      answer = accepted;
      places = λ row column p. ap (λ (x : List (List Bits)). entry Empty x row column) whole ∙ u.on_places tile lanes into row column l t p;
      others = λ row column p. ap (λ (x : List (List Bits)). entry Empty x row column) whole ∙ u.other_places moved into row column p;
    }

-- and bits that were collected can be dealt, and then every register of the computation has the same bits, whatever the lanes dealt to
pub record BitsDealtBack (kind c : ℕ) (lanes tile into : List (List Bits)) : Type 0 where
  pub answer : deal_answer kind c (registers_held (collected_bits kind c lanes tile)) ≡ no_refusal
  pub own : (lane i : ℕ) → is_own kind c lane i ≡ true
      → entry Empty (dealt_bits kind c (collected_bits kind c lanes tile) into) lane i ≡ entry Empty lanes lane i
  pub others : (lane i : ℕ) → is_own kind c lane i ≡ false
      → entry Empty (dealt_bits kind c (collected_bits kind c lanes tile) into) lane i ≡ entry Empty into lane i

pub bits_dealt_as_collected : (kind c : ℕ) (lanes tile into : List (List Bits)) → IsTile tile → AreLanes into → collect_answer kind c (registers_held lanes) ≡ no_refusal
    → BitsDealtBack kind c lanes tile into
bits_dealt_as_collected kind c lanes tile into t l e =
    let u = bits_undo_each_other kind c in
    let moved : List (List Bits) = collected Empty kind c lanes tile in
    let collecting : collected_bits kind c lanes tile ≡ moved = ap (λ (m : Result ⊤ Refusal). filled m moved tile) e in
    let accepted : deal_answer kind c (registers_held (collected_bits kind c lanes tile)) ≡ no_refusal =
    ap (deal_answer kind c) (read_collected kind c lanes tile)
    ∙ (dealt_as_collected kind c (registers_held lanes) (registers_held tile) (registers_held into) (read_shape 8 tile t) (read_shape 32 into l) e).answer in
    let whole : dealt_bits kind c (collected_bits kind c lanes tile) into ≡ dealt Empty kind c moved into =
    ap (λ (m : Result ⊤ Refusal). filled m (dealt Empty kind c (collected_bits kind c lanes tile) into) into) accepted
    ∙ ap (λ (x : List (List Bits)). dealt Empty kind c x into) collecting in
    record {
      answer = accepted;
      own = λ lane i o. ap (λ (x : List (List Bits)). entry Empty x lane i) whole ∙ u.on_lanes lanes tile into lane i t l o;
      others = λ lane i o. ap (λ (x : List (List Bits)). entry Empty x lane i) whole ∙ u.other_lanes moved into lane i o;
    }
