-- The numbers of a caller's holdings read as holdings: dealing to them and collecting from them fill, read, what the questions over holdings fill. A
-- register that is dealt to an empty lane leaves a field as one that is dealt to the holding's own registers. By cases on the fields.
use Rattle.std.specs.Prelude.{Result, ⊤, Err, Ok}
use mathlib.Core.Path.{◌≡◌, refl, sym, ap, ◌∙◌}
use mathlib.Core.Bool.{Bool, true, false, cond, ◌&&◌}
use mathlib.Core.List.{List, [], ◌∷◌, map}
use Prim.Native.Nat.{ℕ, zero, suc, ◌+◌, ◌*◌, ◌/◌, ◌%◌, ◌<◌}
use native.Mathlib.Omega.{arith}
use lib.Dec.{eqb, ltb}
use lib.Ieee.{Float, binary64, of_bits}
use lib.ListN.{length, get_or}
use lib.Seq.{ext_get_or}
use Rattle.answers.specs.Refusals.{no_refusal}
use Rattle.answers.specs.declared.Refusal.{Refusal}
use Rattle.laws.proofs.Rungs.{apart, ended_at}
use Rattle.fragment.specs.Kinds.{place}
use Rattle.fragment.specs.Fragment.{outside}
use Rattle.values.specs.declared.Register.{Register}
use Rattle.values.specs.declared.Register.TheVariants.{Empty as NoValue, Double as OneDouble}
use Rattle.values.specs.declared.Holding.{Holding}
use Rattle.values.specs.Rows.{each, entry}
use Rattle.values.specs.Values.{is_own, in_tile, dealt, collected}
use Rattle.values.specs.Registers.{is_matrix, collect_answer, filled}
use Rattle.values.specs.Holdings.{holding, registers_of, double_of, with_registers, deal_holdings_answer, collect_holdings_answer, dealt_holdings, collected_from_holdings}
use Rattle.values.proofs.Rows.{each_length, each_at, map_at}
use Rattle.values.proofs.Theorems.{dealt_own, dealt_other}
use Rattle.values.proofs.Holdings.{Field, of_a, of_b, of_first, of_second, first_field, are_lanes, no_wrong_sort}
use Rattle.c_bits.specs.declared.Bits.{Bits}
use Rattle.c_bits.specs.declared.Bits.TheVariants.{Empty, Single, Double}
use Rattle.c_bits.specs.Bits.{made, empties, double_after, read_as, registers_held, held_at, lanes_from, register_for, numbers_after, dealt_numbers, collected_bits, collected_from_numbers}
use Rattle.c_bits.proofs.Given.{made_at, made_length}
use Rattle.c_bits.proofs.Empties.{empties_at, empties_shape}
use Rattle.c_bits.proofs.Read.{image_at, read_collected}

-- the double that 64 bits stand for
abbrev value : ℕ → Float
value = of_bits binary64

-- a lane's four numbers, read: A, B, the two accumulators
abbrev pub holding_at : List ℕ → ℕ → Holding
holding_at numbers lane =
    holding (value (get_or numbers (4 * lane) 0)) (value (get_or numbers (4 * lane + 1) 0)) (value (get_or numbers (4 * lane + 2) 0)) (value (get_or numbers (4 * lane + 3) 0))

abbrev pub holdings_from : List ℕ → List Holding
holdings_from numbers = made 32 (holding_at numbers)

abbrev none : Holding
none = holding (value 0) (value 0) (value 0) (value 0)

-- a lane's registers, read, are those of its holding
lane_read : (kind : ℕ) (numbers : List ℕ) (lane : ℕ) → map read_as (held_at kind numbers lane) ≡ registers_of kind (holding_at numbers lane)
lane_read kind numbers lane = by_tests (eqb kind 6) (eqb kind 7) _ _ _
  where
    by_tests : (a b : Bool) (x y z : List Bits) → map read_as (cond a x (cond b y z)) ≡ cond a (map read_as x) (cond b (map read_as y) (map read_as z))
    by_tests true b x y z = refl
    by_tests false true x y z = refl
    by_tests false false x y z = refl

images_made : {A B C : Type 0} (f : A → C) (g : B → C) (p : ℕ → A) (q : ℕ → B) → ((k : ℕ) → f (p k) ≡ g (q k)) → (n : ℕ) → map f (made n p) ≡ map g (made n q)
unfolding made
images_made f g p q e zero = refl
images_made {A} {B} {C} f g p q e (suc n) =
    ap (λ (x : C). x ∷ map f (made n (λ k. p (suc k)))) (e 0) ∙ ap (λ (l : List C). g (q 0) ∷ l) (images_made f g (λ k. p (suc k)) (λ k. q (suc k)) (λ k. e (suc k)) n)

pub lanes_read : (kind : ℕ) (numbers : List ℕ) → registers_held (lanes_from kind numbers) ≡ map (registers_of kind) (holdings_from numbers)
lanes_read kind numbers = images_made (map read_as) (registers_of kind) (held_at kind numbers) (holding_at numbers) (lane_read kind numbers) 32

-- what is collected from the numbers, read
pub read_collected_from_holdings : (kind c : ℕ) (numbers : List ℕ) (tile : List (List Bits))
    → registers_held (collected_from_numbers kind c numbers tile) ≡ collected_from_holdings kind c (holdings_from numbers) (registers_held tile)
read_collected_from_holdings kind c numbers tile = by_answer (collect_holdings_answer kind c) refl
  where
    by_answer : (m : Result ⊤ Refusal) → collect_holdings_answer kind c ≡ m
        → registers_held (filled m (collected Empty kind c (lanes_from kind numbers) tile) tile)
        ≡ filled m (collected NoValue kind c (map (registers_of kind) (holdings_from numbers)) (registers_held tile)) (registers_held tile)
    by_answer (Err r) p = refl
    by_answer (Ok _) p =
        let above : ltb 5 kind ≡ true = by_test (ltb 5 kind) (is_matrix kind c) p in
        let accepted : collect_answer kind c (registers_held (lanes_from kind numbers)) ≡ no_refusal =
        ap (collect_answer kind c) (lanes_read kind numbers) ∙ no_wrong_sort kind c (holdings_from numbers) (made_length 32 (holding_at numbers)) above ∙ p in
        let bits : List (List Bits) = collected Empty kind c (lanes_from kind numbers) tile in
        ap registers_held (sym (ap (λ (m : Result ⊤ Refusal). filled m bits tile) accepted))
        ∙ read_collected kind c (lanes_from kind numbers) tile
        ∙ ap (λ (m : Result ⊤ Refusal). filled m (collected NoValue kind c (registers_held (lanes_from kind numbers)) (registers_held tile)) (registers_held tile)) accepted
        ∙ ap (λ (l : List (List Register)). collected NoValue kind c l (registers_held tile)) (lanes_read kind numbers)
      where
        by_test : (a b : Bool) → cond (a && b) no_refusal (Err outside) ≡ no_refusal → a ≡ true
        by_test true b q = refl
        by_test false b q = absurd (apart (cc))

-- a double written back, read
double_read : (r : Bits) (x : ℕ) → value (double_after r x) ≡ double_of (value x) (read_as r)
double_read Empty x = refl
double_read (Single y) x = refl
double_read (Double y) x = refl

same_holding : {a b x y a' b' x' y' : Float} → a ≡ a' → b ≡ b' → x ≡ x' → y ≡ y' → holding a b x y ≡ holding a' b' x' y'
same_holding {a} {b} {x} {y} {a'} {b'} {x'} {y'} p q r s =
    ap (λ (v : Float). holding v b x y) p ∙ ap (λ (v : Float). holding a' v x y) q ∙ ap (λ (v : Float). holding a' b' v y) r ∙ ap (λ (v : Float). holding a' b' x' v) s

module _ (c : ℕ) (tile : List (List Bits)) (numbers : List ℕ) (size : length numbers ≡ 128) where
  abbrev bare : ℕ → List (List Bits)
  bare kind = dealt Empty kind c tile (empties 32)

  abbrev whole : ℕ → List (List Register)
  whole kind = dealt NoValue kind c (registers_held tile) (map (registers_of kind) (holdings_from numbers))

  -- a register that is a field leaves it alike
  register_alike : (kind lane i x : ℕ) → lane < 32 → i < 8 → get_or (registers_of kind (holding_at numbers lane)) i NoValue ≡ OneDouble (value x)
      → value (double_after (entry Empty (bare kind) lane i) x) ≡ double_of (value x) (entry NoValue (whole kind) lane i)
  register_alike kind lane i x h k e = by_own (is_own kind c lane i) refl
    where
      by_own : (b : Bool) → is_own kind c lane i ≡ b → value (double_after (entry Empty (bare kind) lane i) x) ≡ double_of (value x) (entry NoValue (whole kind) lane i)
      by_own true o =
          let p = place kind lane i in
          let same : read_as (entry Empty (bare kind) lane i) ≡ entry NoValue (whole kind) lane i =
          ap read_as (dealt_own Empty kind c tile (empties 32) lane i (empties_shape 32) o)
          ∙ sym (image_at read_as Empty tile p.row p.column)
          ∙ sym (dealt_own NoValue kind c (registers_held tile) (map (registers_of kind) (holdings_from numbers)) lane i (are_lanes kind c (holdings_from numbers) (made_length 32 (holding_at numbers))) o) in
          double_read (entry Empty (bare kind) lane i) x ∙ ap (double_of (value x)) same
      by_own false o =
          let had : entry NoValue (whole kind) lane i ≡ OneDouble (value x) =
          dealt_other NoValue kind c (registers_held tile) (map (registers_of kind) (holdings_from numbers)) lane i o
          ∙ ap (λ (row : List Register). get_or row i NoValue)
          (sym (map_at (registers_of kind) (holdings_from numbers) lane none [] (rw (made_length 32 (holding_at numbers)) h))
          ∙ ap (registers_of kind) (made_at 32 (holding_at numbers) lane none h))
          ∙ e in
          ap (λ (r : Bits). value (double_after r x)) (dealt_other Empty kind c tile (empties 32) lane i o ∙ empties_at 32 lane i h k) ∙ sym (ap (double_of (value x)) had)

  -- number k of a lane after dealing, read
  number_read : (kind lane k j : ℕ) → lane < 32 → k < 4 → j ≡ 4 * lane + k
      → value (get_or (numbers_after kind (bare kind) numbers) j 0) ≡ value (double_after (register_for kind (get_or (bare kind) lane []) k) (get_or numbers j 0))
  number_read kind lane k j h i p =
      let of_lane : j / 4 ≡ lane = omega (arith, p) in
      let of_field : j % 4 ≡ k = omega (arith, p) in
      let inside : j < 128 = omega (arith, p) in
      ap value
      (each_at (λ n. double_after (register_for kind (get_or (bare kind) (n / 4) []) (n % 4))) numbers j 0 (rw size inside)
      ∙ ap (λ (l : ℕ). double_after (register_for kind (get_or (bare kind) l []) (j % 4)) (get_or numbers j 0)) of_lane
      ∙ ap (λ (f : ℕ). double_after (register_for kind (get_or (bare kind) lane []) f) (get_or numbers j 0)) of_field)

  abbrev Alike : ℕ → ℕ → Type 0
  Alike kind lane = holding_at (numbers_after kind (bare kind) numbers) lane ≡ with_registers kind (holding_at numbers lane) (get_or (whole kind) lane [])

  accumulators_alike : (lane : ℕ) → lane < 32 → Alike 8 lane
  accumulators_alike lane h =
      same_holding (number_read 8 lane 0 (4 * lane) h (omega arith) (omega arith)) (number_read 8 lane 1 (4 * lane + 1) h (omega arith) refl)
      (number_read 8 lane 2 (4 * lane + 2) h (omega arith) refl ∙ register_alike 8 lane 0 (get_or numbers (4 * lane + 2) 0) h (omega arith) refl)
      (number_read 8 lane 3 (4 * lane + 3) h (omega arith) refl ∙ register_alike 8 lane 1 (get_or numbers (4 * lane + 3) 0) h (omega arith) refl)

  holding_alike : {kind i : ℕ} → Field kind i → (lane : ℕ) → lane < 32 → Alike kind lane
  holding_alike of_a lane h =
      same_holding (number_read 6 lane 0 (4 * lane) h (omega arith) (omega arith) ∙ register_alike 6 lane 0 (get_or numbers (4 * lane) 0) h (omega arith) refl)
      (number_read 6 lane 1 (4 * lane + 1) h (omega arith) refl) (number_read 6 lane 2 (4 * lane + 2) h (omega arith) refl) (number_read 6 lane 3 (4 * lane + 3) h (omega arith) refl)
  holding_alike of_b lane h =
      same_holding (number_read 7 lane 0 (4 * lane) h (omega arith) (omega arith))
      (number_read 7 lane 1 (4 * lane + 1) h (omega arith) refl ∙ register_alike 7 lane 0 (get_or numbers (4 * lane + 1) 0) h (omega arith) refl)
      (number_read 7 lane 2 (4 * lane + 2) h (omega arith) refl) (number_read 7 lane 3 (4 * lane + 3) h (omega arith) refl)
  holding_alike of_first lane h = accumulators_alike lane h
  holding_alike of_second lane h = accumulators_alike lane h

  -- what is dealt to the numbers, read
  pub read_dealt_to_holdings : (kind : ℕ) → holdings_from (dealt_numbers kind c tile numbers) ≡ dealt_holdings kind c (registers_held tile) (holdings_from numbers)
  read_dealt_to_holdings kind = by_answer (deal_holdings_answer kind c (registers_held tile)) refl
    where
      by_answer : (m : Result ⊤ Refusal) → deal_holdings_answer kind c (registers_held tile) ≡ m
          → holdings_from (filled m (numbers_after kind (bare kind) numbers) numbers)
          ≡ filled m (each (λ lane g. with_registers kind g (get_or (whole kind) lane [])) (holdings_from numbers)) (holdings_from numbers)
      by_answer (Err r) p = refl
      by_answer (Ok _) p =
          let later = ended_at (ltb 5 kind) p (λ q. apart (cc)) in
          let matrix = ended_at (is_matrix kind c) later.1 (λ q. apart (cc)) in
          let f = first_field kind c later.0 matrix.0 in
          let left : List ℕ = numbers_after kind (bare kind) numbers in
          let rule : ℕ → Holding → Holding = λ lane g. with_registers kind g (get_or (whole kind) lane []) in
          ext_get_or none (holdings_from left) (each rule (holdings_from numbers))
          (made_length 32 (holding_at left) ∙ sym (each_length rule (holdings_from numbers) ∙ made_length 32 (holding_at numbers)))
          (λ lane h.
          let inside : lane < 32 = rw (made_length 32 (holding_at left)) at h in
          made_at 32 (holding_at left) lane none inside
          ∙ holding_alike f lane inside
          ∙ sym (each_at rule (holdings_from numbers) lane none (rw (made_length 32 (holding_at numbers)) inside) ∙ ap (rule lane) (made_at 32 (holding_at numbers) lane none inside)))
