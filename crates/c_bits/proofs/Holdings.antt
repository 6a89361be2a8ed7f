-- Holdings by their bits: what is dealt to them is in their registers, so that collecting it gives back the same bits; every number whose field is not
-- the kind's own stays; and where refused all of them. By cases on the four fields.
use Rattle.std.specs.Prelude.{Result, ⊤, Err, Ok}
use mathlib.Core.Path.{◌≡◌, refl, sym, ap, ◌∙◌}
use mathlib.Core.Bool.{Bool, true, false, cond, true≢false}
use mathlib.Core.List.{List, []}
use Prim.Native.Nat.{ℕ, zero, suc, ◌+◌, ◌*◌, ◌/◌, ◌%◌, ◌<◌}
use native.Mathlib.Omega.{arith}
use lib.Dec.{eqb, ltb}
use lib.ListN.{length, get_or}
use Rattle.answers.specs.Refusals.{no_refusal}
use Rattle.answers.specs.declared.Refusal.{Refusal}
use Rattle.laws.proofs.Rungs.{apart, ended_at}
use Rattle.fragment.specs.Kinds.{at, place}
use Rattle.fragment.specs.Fragment.{is_place}
use Rattle.fragment.proofs.Back.{back}
use Rattle.fragment.specs.declared.Slot.{Slot}
use Rattle.values.specs.declared.Register.{Register}
use Rattle.values.specs.declared.Register.TheVariants.{Empty as NoValue}
use Rattle.values.specs.Rows.{each, entry}
use Rattle.values.specs.Values.{is_own, in_tile, dealt, collected}
use Rattle.values.specs.Registers.{is_matrix, is_of_sort, filled}
use Rattle.values.specs.Holdings.{deal_holdings_answer, collect_holdings_answer}
use Rattle.values.proofs.Rows.{each_at}
use Rattle.values.proofs.Theorems.{IsTile, dealt_own, collected_place, collected_other}
use Rattle.values.proofs.Holder.{led_to_own, in_lanes}
use Rattle.values.proofs.Answers.{judged_means}
use Rattle.values.proofs.Holdings.{Field, of_a, of_b, of_first, of_second, own_field, first_field}
use Rattle.c_bits.specs.declared.Bits.{Bits}
use Rattle.c_bits.specs.declared.Bits.TheVariants.{Empty, Single, Double}
use Rattle.c_bits.specs.Bits.{empties, double_after, read_as, registers_held, held_at, lanes_from, register_for, numbers_after, dealt_numbers, collected_from_numbers}
use Rattle.c_bits.proofs.Given.{made_at}
use Rattle.c_bits.proofs.Empties.{empties_shape}
use Rattle.c_bits.proofs.Read.{image_at}

-- the kind that field k of a holding belongs to
abbrev pub kind_of : ℕ → ℕ
kind_of k = cond (eqb k 0) 6 (cond (eqb k 1) 7 8)

-- a field of another kind is dealt nothing
nothing_for : {kind i : ℕ} → Field kind i → (row : List Bits) (k : ℕ) → k < 4 → (kind ≡ kind_of k → ⊥) → register_for kind row k ≡ Empty
nothing_for of_a row zero h d = absurd (d refl)
nothing_for of_a row (suc zero) h d = refl
nothing_for of_a row (suc (suc zero)) h d = refl
nothing_for of_a row (suc (suc (suc zero))) h d = refl
nothing_for of_b row zero h d = refl
nothing_for of_b row (suc zero) h d = absurd (d refl)
nothing_for of_b row (suc (suc zero)) h d = refl
nothing_for of_b row (suc (suc (suc zero))) h d = refl
nothing_for of_first row zero h d = refl
nothing_for of_first row (suc zero) h d = refl
nothing_for of_first row (suc (suc zero)) h d = absurd (d refl)
nothing_for of_first row (suc (suc (suc zero))) h d = absurd (d refl)
nothing_for of_second row zero h d = refl
nothing_for of_second row (suc zero) h d = refl
nothing_for of_second row (suc (suc zero)) h d = absurd (d refl)
nothing_for of_second row (suc (suc (suc zero))) h d = absurd (d refl)
nothing_for f row (suc (suc (suc (suc k)))) h d = absurd (omega arith)

-- number k of a lane after the lanes' registers are written
module _ (kind : ℕ) (lanes : List (List Bits)) (numbers : List ℕ) (e : length numbers ≡ 128) where
  abbrev number : ℕ → ℕ → ℕ
  number j = double_after (register_for kind (get_or lanes (j / 4) []) (j % 4))

  number_of : (lane k j : ℕ) → lane < 32 → k < 4 → j ≡ 4 * lane + k
      → get_or (numbers_after kind lanes numbers) j 0 ≡ double_after (register_for kind (get_or lanes lane []) k) (get_or numbers j 0)
  number_of lane k j h i p =
      let of_lane : j / 4 ≡ lane = omega (arith, p) in
      let of_field : j % 4 ≡ k = omega (arith, p) in
      let inside : j < 128 = omega (arith, p) in
      each_at number numbers j 0 (rw e inside)
      ∙ ap (λ (l : ℕ). double_after (register_for kind (get_or lanes l []) (j % 4)) (get_or numbers j 0)) of_lane
      ∙ ap (λ (f : ℕ). double_after (register_for kind (get_or lanes lane []) f) (get_or numbers j 0)) of_field

-- a double that is written is what it was
double_kept : (kind : ℕ) (r : Bits) (x : ℕ) → eqb kind 5 ≡ false → is_of_sort kind (read_as r) ≡ true → Double (double_after r x) ≡ r
double_kept kind Empty x f s = absurd (true≢false (sym s))
double_kept kind (Single y) x f s = absurd (true≢false (sym s ∙ f))
double_kept kind (Double y) x f s = refl

-- a register that is a field has what was written to it
field_has : {kind i : ℕ} → Field kind i → (lanes : List (List Bits)) (numbers : List ℕ) (lane : ℕ) → length numbers ≡ 128 → lane < 32
    → is_of_sort kind (read_as (entry Empty lanes lane i)) ≡ true → get_or (held_at kind (numbers_after kind lanes numbers) lane) i Empty ≡ entry Empty lanes lane i
field_has of_a lanes numbers lane e h s =
    ap Double (number_of 6 lanes numbers e lane 0 (4 * lane) h (omega arith) (omega arith)) ∙ double_kept 6 (entry Empty lanes lane 0) (get_or numbers (4 * lane) 0) refl s
field_has of_b lanes numbers lane e h s =
    ap Double (number_of 7 lanes numbers e lane 1 (4 * lane + 1) h (omega arith) refl) ∙ double_kept 7 (entry Empty lanes lane 0) (get_or numbers (4 * lane + 1) 0) refl s
field_has of_first lanes numbers lane e h s =
    ap Double (number_of 8 lanes numbers e lane 2 (4 * lane + 2) h (omega arith) refl) ∙ double_kept 8 (entry Empty lanes lane 0) (get_or numbers (4 * lane + 2) 0) refl s
field_has of_second lanes numbers lane e h s =
    ap Double (number_of 8 lanes numbers e lane 3 (4 * lane + 3) h (omega arith) refl) ∙ double_kept 8 (entry Empty lanes lane 1) (get_or numbers (4 * lane + 3) 0) refl s

module _ (kind c : ℕ) (tile : List (List Bits)) (numbers : List ℕ) where
  abbrev bare : List (List Bits)
  bare = dealt Empty kind c tile (empties 32)

  -- dealing leaves every number of a field that is not the kind's own
  pub dealing_to_holdings_leaves : length numbers ≡ 128 → (j : ℕ) → j < 128 → (kind ≡ kind_of (j % 4) → ⊥)
      → get_or (dealt_numbers kind c tile numbers) j 0 ≡ get_or numbers j 0
  dealing_to_holdings_leaves e j h d = by_answer (deal_holdings_answer kind c (registers_held tile)) refl
    where
      by_answer : (m : Result ⊤ Refusal) → deal_holdings_answer kind c (registers_held tile) ≡ m → get_or (filled m (numbers_after kind bare numbers) numbers) j 0 ≡ get_or numbers j 0
      by_answer (Err r) p = refl
      by_answer (Ok _) p =
          let later = ended_at (ltb 5 kind) p (λ q. apart (cc)) in
          let matrix = ended_at (is_matrix kind c) later.1 (λ q. apart (cc)) in
          let same : j ≡ 4 * (j / 4) + j % 4 = omega arith in
          number_of kind bare numbers e (j / 4) (j % 4) j (omega arith) (omega arith) same
          ∙ ap (λ (r : Bits). double_after r (get_or numbers j 0)) (nothing_for (first_field kind c later.0 matrix.0) (get_or bare (j / 4) []) (j % 4) (omega arith) d)

  -- bits that were dealt to holdings and are collected from them: every place of the matrix has the same bits, every other stays as given
  pub record BitsHeldGivenBack (into : List (List Bits)) : Type 0 where
    pub answer : collect_holdings_answer kind c ≡ no_refusal
    pub places : (row column : ℕ) → is_place kind (at c row column) ≡ true
        → entry Empty (collected_from_numbers kind c (dealt_numbers kind c tile numbers) into) row column ≡ entry Empty tile row column
    pub others : (row column : ℕ) → is_place kind (at c row column) ≡ false
        → entry Empty (collected_from_numbers kind c (dealt_numbers kind c tile numbers) into) row column ≡ entry Empty into row column

  pub bits_collected_as_dealt_to_holdings : (into : List (List Bits)) → length numbers ≡ 128 → IsTile into → deal_holdings_answer kind c (registers_held tile) ≡ no_refusal
      → BitsHeldGivenBack into
  bits_collected_as_dealt_to_holdings into e t p =
      let later = ended_at (ltb 5 kind) p (λ q. apart (cc)) in
      let matrix = ended_at (is_matrix kind c) later.1 (λ q. apart (cc)) in
      let accepted : collect_holdings_answer kind c ≡ no_refusal = rw (later.0, matrix.0) in
      let left : List ℕ = numbers_after kind bare numbers in
      let dealing : dealt_numbers kind c tile numbers ≡ left = ap (λ (m : Result ⊤ Refusal). filled m left numbers) p in
      let whole : collected_from_numbers kind c (dealt_numbers kind c tile numbers) into ≡ collected Empty kind c (lanes_from kind left) into =
      ap (λ (x : List ℕ). collected_from_numbers kind c x into) dealing
      ∙ ap (λ (m : Result ⊤ Refusal). filled m (collected Empty kind c (lanes_from kind left) into) into) accepted in
      let sorts = (judged_means kind c (λ lane i. in_tile NoValue (registers_held tile) (place kind lane i))).accepted matrix.1 in
      record {
        answer = accepted;
        places = λ row column q.
            let s : Slot = back kind (at c row column) in
            let o = led_to_own kind c row column q in
            let f = own_field kind c later.0 s.lane s.register o.0 in
            let has = dealt_own Empty kind c tile (empties 32) s.lane s.register (empties_shape 32) o.0 in
            let of_sort : is_of_sort kind (read_as (entry Empty bare s.lane s.register)) ≡ true =
            ap (λ (r : Bits). is_of_sort kind (read_as r)) has
            ∙ ap (is_of_sort kind) (sym (image_at read_as Empty tile (place kind s.lane s.register).row (place kind s.lane s.register).column))
            ∙ sorts s.lane s.register o.0 in
            ap (λ (x : List (List Bits)). entry Empty x row column) whole
            ∙ collected_place Empty kind c (lanes_from kind left) into row column t q
            ∙ ap (λ (l : List Bits). get_or l s.register Empty) (made_at 32 (held_at kind left) s.lane [] f.0)
            ∙ field_has f.1 bare numbers s.lane e f.0 of_sort
            ∙ has
            ∙ ap (in_tile Empty tile) o.1;
        others = λ row column q.
            ap (λ (x : List (List Bits)). entry Empty x row column) whole ∙ collected_other Empty kind c (lanes_from kind left) into row column q;
      }
