-- Document 02's request 1 in a caller's arrays: after a tile is dealt to the lanes' arrays and collected from them, every place of the matrix has its
-- sort and, bit for bit, what that names. The arrays hold what was dealt: an entry that gets nothing had nothing. By cases on the register.
use Rattle.std.specs.Prelude.{Ok, Result, ⊤}
use mathlib.Core.Path.{◌≡◌, refl, sym, ap, ◌∙◌}
use mathlib.Core.Bool.{Bool, true, false, true≢false}
use mathlib.Core.List.{List}
use Prim.Native.Nat.{ℕ, ◌+◌, ◌*◌, ◌/◌, ◌%◌, ◌<◌}
use native.Mathlib.Omega.{arith}
use lib.ListN.{length, get_or}
use Rattle.answers.specs.Refusals.{no_refusal}
use Rattle.answers.specs.declared.Refusal.{Refusal}
use Rattle.laws.proofs.Rungs.{apart, ended_at}
use Rattle.fragment.specs.Kinds.{at, place}
use Rattle.fragment.specs.Fragment.{is_place}
use Rattle.fragment.proofs.Back.{back}
use Rattle.fragment.specs.declared.Slot.{Slot}
use Rattle.values.specs.declared.Register.TheVariants.{Empty as NoValue}
use Rattle.values.specs.Rows.{entry}
use Rattle.values.specs.Values.{is_own, in_tile, dealt_entry, dealt}
use Rattle.values.specs.Registers.{is_matrix, is_of_sort, deal_answer, filled}
use Rattle.values.proofs.Rows.{Shape, each_at, each_shape, rows_equal}
use Rattle.values.proofs.Theorems.{dealt_own, dealt_other}
use Rattle.values.proofs.Holder.{led_to_own}
use Rattle.values.proofs.Answers.{AllOfSort, judged_means}
use Rattle.c_bits.specs.declared.Bits.{Bits}
use Rattle.c_bits.specs.declared.Bits.TheVariants.{Empty, Single, Double}
use Rattle.c_bits.specs.Bits.{register_from, register_at, rows_from, sort_after, single_after, double_after, entries_after, read_as, registers_held, dealt_bits, collected_bits}
use Rattle.c_bits.proofs.Made.{written}
use Rattle.c_bits.proofs.Given.{entry_at}
use Rattle.c_bits.proofs.Empties.{given_shape}
use Rattle.c_bits.proofs.Read.{image_at}
use Rattle.c_bits.proofs.Theorems.{bits_collected_as_dealt}

-- three arrays of so many entries
abbrev pub OfSize : ℕ → List ℕ → List ℕ → List ℕ → Type 0
OfSize size sorts singles doubles = (length sorts ≡ size) × (length singles ≡ size) × (length doubles ≡ size)

-- a register written to an entry is what the entry then is; where it is empty, if the entry was
by_register : (r : Bits) (s x y : ℕ) → (r ≡ Empty → register_from s x y ≡ Empty) → register_from (sort_after r s) (single_after r x) (double_after r y) ≡ r
by_register Empty s x y h = h refl
by_register (Single z) s x y h = refl
by_register (Double z) s x y h = refl

-- what is of a kind's sort is not empty
not_empty : (kind : ℕ) (r : Bits) → is_of_sort kind (read_as r) ≡ true → r ≡ Empty → ⊥
not_empty kind r s e = true≢false (sym s ∙ ap (λ (b : Bits). is_of_sort kind (read_as b)) e)

module _ (rows : ℕ) (sorts singles doubles : List ℕ) (moved : List (List Bits)) where
  -- entry j of the arrays after registers are written to them
  abbrev pub entry_after : ℕ → Bits
  entry_after = register_at (entries_after sort_after moved sorts) (entries_after single_after moved singles) (entries_after double_after moved doubles)

  entry_after_lem : OfSize (8 * rows) sorts singles doubles → (j : ℕ) → j < 8 * rows
      → (entry Empty moved (j / 8) (j % 8) ≡ Empty → register_at sorts singles doubles j ≡ Empty) → entry_after j ≡ entry Empty moved (j / 8) (j % 8)
  entry_after_lem size j h empty =
      let r : Bits = entry Empty moved (j / 8) (j % 8) in
      let x : ℕ = get_or (entries_after single_after moved singles) j 0 in
      let y : ℕ = get_or (entries_after double_after moved doubles) j 0 in
      ap (λ (s : ℕ). register_from s x y) (each_at (written sort_after moved) sorts j 0 (rw size.0 h))
      ∙ ap (λ (v : ℕ). register_from (sort_after r (get_or sorts j 0)) v y) (each_at (written single_after moved) singles j 0 (rw size.1 h))
      ∙ ap (λ (v : ℕ). register_from (sort_after r (get_or sorts j 0)) (single_after r (get_or singles j 0)) v) (each_at (written double_after moved) doubles j 0 (rw size.2 h))
      ∙ by_register r (get_or sorts j 0) (get_or singles j 0) (get_or doubles j 0) empty

module _ (kind c : ℕ) (tile : List (List Bits)) (accepted : deal_answer kind c (registers_held tile) ≡ no_refusal) where
  -- what is dealt is of the kind's sort
  of_sort : (lane i : ℕ) → is_own kind c lane i ≡ true → is_of_sort kind (read_as (in_tile Empty tile (place kind lane i))) ≡ true
  of_sort lane i o =
      let matrix = ended_at (is_matrix kind c) accepted (λ q. apart (cc)) in
      let p = place kind lane i in
      ap (is_of_sort kind) (sym (image_at read_as Empty tile p.row p.column))
      ∙ (judged_means kind c (λ l k. in_tile NoValue (registers_held tile) (place kind l k))).accepted matrix.1 lane i o

  module _ (sorts singles doubles : List ℕ) (size : OfSize 256 sorts singles doubles) where
    abbrev given : List (List Bits)
    given = rows_from 32 sorts singles doubles

    abbrev filled_lanes : List (List Bits)
    filled_lanes = dealt_bits kind c tile given

    dealing : filled_lanes ≡ dealt Empty kind c tile given
    dealing = ap (λ (m : Result ⊤ Refusal). filled m (dealt Empty kind c tile given) given) accepted

    -- the lanes' arrays hold what was dealt
    pub lanes_hold : (j : ℕ) → j < 256 → entry_after 32 sorts singles doubles filled_lanes j ≡ entry Empty filled_lanes (j / 8) (j % 8)
    lanes_hold j h = entry_after_lem 32 sorts singles doubles filled_lanes size j h (λ e. by (is_own kind c (j / 8) (j % 8)) refl (sym (ap (λ (x : List (List Bits)). entry Empty x (j / 8) (j % 8)) dealing) ∙ e))
      where
        by : (b : Bool) → is_own kind c (j / 8) (j % 8) ≡ b → entry Empty (dealt Empty kind c tile given) (j / 8) (j % 8) ≡ Empty → register_at sorts singles doubles j ≡ Empty
        by true o e =
            absurd (not_empty kind (in_tile Empty tile (place kind (j / 8) (j % 8))) (of_sort (j / 8) (j % 8) o)
            (sym (dealt_own Empty kind c tile given (j / 8) (j % 8) (given_shape 32 sorts singles doubles) o) ∙ e))
        by false o e = sym (entry_at 32 sorts singles doubles j h) ∙ sym (dealt_other Empty kind c tile given (j / 8) (j % 8) o) ∙ e

    abbrev lanes_after : List (List Bits)
    lanes_after = rows_from 32 (entries_after sort_after filled_lanes sorts) (entries_after single_after filled_lanes singles) (entries_after double_after filled_lanes doubles)

    pub lanes_are : lanes_after ≡ filled_lanes
    lanes_are =
        rows_equal Empty lanes_after filled_lanes 32 8
        (given_shape 32 (entries_after sort_after filled_lanes sorts) (entries_after single_after filled_lanes singles) (entries_after double_after filled_lanes doubles)) shape
        (λ r k h i. same r k h i)
      where
        shape : Shape 32 8 filled_lanes
        shape = rw dealing (each_shape (dealt_entry Empty kind c tile) given 32 8 (given_shape 32 sorts singles doubles))

        same : (r k : ℕ) → r < 32 → k < 8 → entry Empty lanes_after r k ≡ entry Empty filled_lanes r k
        same r k h i =
            let j : ℕ = 8 * r + k in
            let row : j / 8 ≡ r = omega arith in
            let place : j % 8 ≡ k = omega arith in
            let inside : j < 256 = omega arith in
            rw (row, place) at
            (entry_at 32 (entries_after sort_after filled_lanes sorts) (entries_after single_after filled_lanes singles) (entries_after double_after filled_lanes doubles) j inside ∙ lanes_hold j inside)

    -- collected from them into any tile's arrays, every place of the matrix is as in the tile that was dealt: its sort, and the bits
    pub same_bits : (sorts' singles' doubles' : List ℕ) → OfSize 64 sorts' singles' doubles' → (j : ℕ) → j < 64 → is_place kind (at c (j / 8) (j % 8)) ≡ true
        → entry_after 8 sorts' singles' doubles' (collected_bits kind c lanes_after (rows_from 8 sorts' singles' doubles')) j ≡ entry Empty tile (j / 8) (j % 8)
    same_bits sorts' singles' doubles' size' j h q =
        let into : List (List Bits) = rows_from 8 sorts' singles' doubles' in
        let moved : List (List Bits) = collected_bits kind c lanes_after into in
        let s : Slot = back kind (at c (j / 8) (j % 8)) in
        let o = led_to_own kind c (j / 8) (j % 8) q in
        let has : entry Empty moved (j / 8) (j % 8) ≡ entry Empty tile (j / 8) (j % 8) =
        ap (λ (x : List (List Bits)). entry Empty (collected_bits kind c x into) (j / 8) (j % 8)) lanes_are
        ∙ (bits_collected_as_dealt kind c tile given into (given_shape 32 sorts singles doubles) (given_shape 8 sorts' singles' doubles') accepted).places (j / 8) (j % 8) q in
        let there : in_tile Empty tile (place kind s.lane s.register) ≡ entry Empty tile (j / 8) (j % 8) = ap (in_tile Empty tile) o.1 in
        entry_after_lem 8 sorts' singles' doubles' moved size' j h
        (λ e. absurd (not_empty kind (in_tile Empty tile (place kind s.lane s.register)) (of_sort s.lane s.register o.0) (there ∙ sym has ∙ e)))
        ∙ has
