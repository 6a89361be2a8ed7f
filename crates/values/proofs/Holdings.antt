-- A holding is its lane's registers for kinds 6 to 8: none is of the wrong sort, and made anew they are what they were made of, so that
-- dealing to holdings and collecting from them undo each other. By cases on the four fields.
use Rattle.std.specs.Prelude.{Err, Result, ⊤, Ok}
use mathlib.Core.Path.{◌≡◌, refl, sym, ap, ◌∙◌, subst}
use mathlib.Core.Bool.{Bool, true, false, cond, not, ◌&&◌, and-eq-true_iff, true≢false}
use mathlib.Core.List.{List, [], map}
use Prim.Native.Nat.{ℕ, ◌/◌, ◌%◌, ◌<◌}
use native.Mathlib.Decide.{ℕ_discrete}
use native.Mathlib.Omega.{arith}
use borrow.Author.Tests.{ltb-true}
use lib.Dec.{eqb, leb, ltb}
use lib.Ieee.{Float, nan}
use lib.ListN.{length, get_or, length-map}
use Rattle.answers.specs.Refusals.{no_refusal}
use Rattle.answers.specs.declared.Refusal.{Refusal}
use Rattle.laws.proofs.Rungs.{apart, ended_at}
use Rattle.fragment.specs.Kinds.{computations, at, place, registers}
use Rattle.fragment.specs.Fragment.{is_place, outside}
use Rattle.fragment.proofs.Inside.{slot_numbers}
use Rattle.fragment.proofs.Back.{back}
use Rattle.values.specs.declared.Register.{Register}
use Rattle.values.specs.declared.Register.TheVariants.{Empty, Single, Double}
use Rattle.values.specs.declared.Holding.{Holding}
use Rattle.values.specs.Rows.{each, entry}
use Rattle.values.specs.Values.{is_own, in_tile, dealt, collected}
use Rattle.values.specs.Registers.{is_matrix, is_of_sort, is_wrong, deal_answer, collect_answer, filled, collected_tile}
use Rattle.values.specs.Holdings.{holding, registers_of, double_of, with_registers, deal_holdings_answer, collect_holdings_answer, dealt_holdings, collected_from_holdings}
use Rattle.values.proofs.Rows.{each_length, each_at, each_equal, map_at}
use Rattle.values.proofs.Sorts.{judged_done}
use Rattle.values.proofs.Theorems.{IsTile, AreLanes, dealt_own, collected_place, collected_other, in_place, undo_each_other}
use Rattle.values.proofs.Holder.{own, led_to_own}
use Rattle.values.proofs.Answers.{AllOfSort, judged_means, dealt_as_collected}

-- the register of a kind that is a field of a holding: A, B and the two accumulators
pub data Field : ℕ → ℕ → Type 0 where
  of_a : Field 6 0
  of_b : Field 7 0
  of_first : Field 8 0
  of_second : Field 8 1

known : (kind i : ℕ) {m j : ℕ} → kind ≡ m → i ≡ j → Field m j → Field kind i
known kind i e f p = subst (λ (n : ℕ). Field n i) (sym e) (subst (Field _) (sym f) p)

only : {i : ℕ} → i < registers 6 → i ≡ 0
unfolding registers
only h = omega arith

only_b : {i : ℕ} → i < registers 7 → i ≡ 0
unfolding registers
only_b h = omega arith

other : {i : ℕ} → i < registers 8 → (i ≡ 0 → ⊥) → i ≡ 1
unfolding registers
other h z = omega arith

field : (kind i : ℕ) → 5 < kind → kind < 9 → i < registers kind → Field kind i
field kind i h k r = split (ℕ_discrete kind 6) (ℕ_discrete kind 7) (ℕ_discrete i 0)
  where
    below : {m : ℕ} → kind ≡ m → i < registers m
    below e = subst (λ (n : ℕ). i < registers n) e r

    split : Dec (kind ≡ 6) → Dec (kind ≡ 7) → Dec (i ≡ 0) → Field kind i
    split (yes e) q z = known kind i e (only (below e)) of_a
    split (no d) (yes e) z = known kind i e (only_b (below e)) of_b
    split (no d) (no f) (yes z) = known kind i (omega arith) z of_first
    split (no d) (no f) (no z) = let e : kind ≡ 8 = omega arith in known kind i e (other (below e) z) of_second

-- no register of a holding is of the wrong sort
of_sort : {kind i : ℕ} → Field kind i → (h : Holding) → is_of_sort kind (get_or (registers_of kind h) i Empty) ≡ true
of_sort of_a h = refl
of_sort of_b h = refl
of_sort of_first h = refl
of_sort of_second h = refl

-- a register of an .f64 kind's sort is the double that it has
double_back : (kind : ℕ) → eqb kind 5 ≡ false → (x : Float) (r : Register) → is_of_sort kind r ≡ true → Double (double_of x r) ≡ r
double_back kind d x Empty e = absurd (true≢false (sym e))
double_back kind d x (Single y) e = absurd (true≢false (sym e ∙ d))
double_back kind d x (Double y) e = refl

-- made anew from doubles, a holding has them as its registers
anew : {kind i : ℕ} → Field kind i → (h : Holding) (row : List Register) → is_of_sort kind (get_or row i Empty) ≡ true
    → get_or (registers_of kind (with_registers kind h row)) i Empty ≡ get_or row i Empty
anew of_a h row = double_back 6 refl h.a (get_or row 0 Empty)
anew of_b h row = double_back 7 refl h.b (get_or row 0 Empty)
anew of_first h row = double_back 8 refl h.first (get_or row 0 Empty)
anew of_second h row = double_back 8 refl h.second (get_or row 1 Empty)

-- made anew from its own registers, a holding is what it was
same_holding : {kind i : ℕ} → Field kind i → (h : Holding) → with_registers kind h (registers_of kind h) ≡ h
same_holding of_a h = refl
same_holding of_b h = refl
same_holding of_first h = refl
same_holding of_second h = refl

-- the fields that are not the kind's own stay
pub record OtherFieldsStay (kind : ℕ) (after before : Holding) : Type 0 where
  pub of_a : (kind ≡ 6 → ⊥) → after.a ≡ before.a
  pub of_b : (kind ≡ 7 → ⊥) → after.b ≡ before.b
  pub of_first : (kind ≡ 8 → ⊥) → after.first ≡ before.first
  pub of_second : (kind ≡ 8 → ⊥) → after.second ≡ before.second

fields_stay : {kind i : ℕ} → Field kind i → (h : Holding) (row : List Register) → OtherFieldsStay kind (with_registers kind h row) h
fields_stay of_a h row = record { of_a = λ d. absurd (d refl); of_b = λ d. refl; of_first = λ d. refl; of_second = λ d. refl }
fields_stay of_b h row = record { of_a = λ d. refl; of_b = λ d. absurd (d refl); of_first = λ d. refl; of_second = λ d. refl }
fields_stay of_first h row = record { of_a = λ d. refl; of_b = λ d. refl; of_first = λ d. absurd (d refl); of_second = λ d. absurd (d refl) }
fields_stay of_second h row = record { of_a = λ d. refl; of_b = λ d. refl; of_first = λ d. absurd (d refl); of_second = λ d. absurd (d refl) }

-- an .f64 kind has a first field
pub first_field : (kind c : ℕ) → ltb 5 kind ≡ true → is_matrix kind c ≡ true → Field kind 0
first_field kind c f m =
    let above = ltb-true 5 kind f in
    let below = ltb-true kind 9 ((and-eq-true_iff (leb 5 kind) (ltb kind 9)).0 ((and-eq-true_iff (leb 5 kind && ltb kind 9) (ltb c (computations kind))).0 m).0).1 in
    split above below (ℕ_discrete kind 6) (ℕ_discrete kind 7)
  where
    split : 5 < kind → kind < 9 → Dec (kind ≡ 6) → Dec (kind ≡ 7) → Field kind 0
    split a b (yes e) q = known kind 0 e refl of_a
    split a b (no d) (yes e) = known kind 0 e refl of_b
    split a b (no d) (no e) = known kind 0 (omega arith) refl of_first

-- some holding: what stands past the end does not count
abbrev none : Holding
none = holding nan nan nan nan

module _ (kind c : ℕ) where
  eight : (a b : Bool) (x y z : List Register) → length x ≡ 8 → length y ≡ 8 → length z ≡ 8 → length (cond a x (cond b y z)) ≡ 8
  eight true b x y z e f g = e
  eight false true x y z e f g = f
  eight false false x y z e f g = g

  registers_eight : (h : Holding) → length (registers_of kind h) ≡ 8
  registers_eight h = eight (eqb kind 6) (eqb kind 7) _ _ _ refl refl refl

  -- the holdings' registers are lanes
  pub are_lanes : (holdings : List Holding) → length holdings ≡ 32 → AreLanes (map (registers_of kind) holdings)
  are_lanes holdings e = record {
    of_rows = length-map holdings (registers_of kind) ∙ e;
    of_columns = λ r h. ap length (sym (map_at (registers_of kind) holdings r none [] (rw e h))) ∙ registers_eight (get_or holdings r none);
  }

  -- a register of the computation is a field
  pub own_field : ltb 5 kind ≡ true → (lane i : ℕ) → is_own kind c lane i ≡ true → (lane < 32) × Field kind i
  own_field f lane i o =
      let s = slot_numbers kind lane i (own kind c lane i o).slot in (s.of_lane, field kind i (ltb-true 5 kind f) s.known s.of_register)

  -- no register of a holding is of the wrong sort: collecting from holdings is collecting from their registers
  pub no_wrong_sort : (holdings : List Holding) → length holdings ≡ 32 → ltb 5 kind ≡ true
      → collect_answer kind c (map (registers_of kind) holdings) ≡ collect_holdings_answer kind c
  no_wrong_sort holdings e f =
      rw f (ap (λ (m : Result ⊤ Refusal). cond (is_matrix kind c) m (Err outside)) (judged_done kind c (entry Empty (map (registers_of kind) holdings)) none_wrong))
    where
      of_own : (k : ℕ) (b : Bool) → is_own kind c (k / 8) (k % 8) ≡ b → (b && not (is_of_sort kind (entry Empty (map (registers_of kind) holdings) (k / 8) (k % 8)))) ≡ false
      of_own k false o = refl
      of_own k true o =
          let p = own_field f (k / 8) (k % 8) o in
          let there = map_at (registers_of kind) holdings (k / 8) none [] (rw e p.0) in
          ap not (sym (ap (λ (row : List Register). is_of_sort kind (get_or row (k % 8) Empty)) there) ∙ of_sort p.1 (get_or holdings (k / 8) none))

      none_wrong : (k : ℕ) → k < 256 → is_wrong kind c (entry Empty (map (registers_of kind) holdings)) k ≡ false
      none_wrong k h = of_own k (is_own kind c (k / 8) (k % 8)) refl

  -- what was dealt to holdings and is collected from them: every place of the matrix has what it had, every other stays as given
  pub record HoldingsGiveBack (tile : List (List Register)) (holdings : List Holding) (into : List (List Register)) : Type 0 where
    pub answer : collect_holdings_answer kind c ≡ no_refusal
    pub places : (row column : ℕ) → is_place kind (at c row column) ≡ true
        → entry Empty (collected_from_holdings kind c (dealt_holdings kind c tile holdings) into) row column ≡ entry Empty tile row column
    pub others : (row column : ℕ) → is_place kind (at c row column) ≡ false
        → entry Empty (collected_from_holdings kind c (dealt_holdings kind c tile holdings) into) row column ≡ entry Empty into row column

  -- a holding made anew has in its registers what was dealt
  dealt_field : (tile : List (List Register)) (holdings : List Holding) → length holdings ≡ 32 → ltb 5 kind ≡ true
      → AllOfSort kind c (λ lane i. in_tile Empty tile (place kind lane i)) → (lane i : ℕ) → is_own kind c lane i ≡ true
      → let lanes = dealt Empty kind c tile (map (registers_of kind) holdings) in
      entry Empty (map (registers_of kind) (each (λ k h. with_registers kind h (get_or lanes k [])) holdings)) lane i ≡ in_tile Empty tile (place kind lane i)
  dealt_field tile holdings e f sorts lane i o =
      let lanes : List (List Register) = dealt Empty kind c tile (map (registers_of kind) holdings) in
      let made : ℕ → Holding → Holding = λ k h. with_registers kind h (get_or lanes k []) in
      let p = own_field f lane i o in
      let inside : lane < length holdings = rw e p.0 in
      let h : Holding = get_or holdings lane none in
      let has : entry Empty lanes lane i ≡ in_tile Empty tile (place kind lane i) = dealt_own Empty kind c tile (map (registers_of kind) holdings) lane i (are_lanes holdings e) o in
      ap (λ (row : List Register). get_or row i Empty) (sym (map_at (registers_of kind) (each made holdings) lane none [] (rw (each_length made holdings) inside)))
      ∙ ap (λ (g : Holding). get_or (registers_of kind g) i Empty) (each_at made holdings lane none inside)
      ∙ anew p.1 h (get_or lanes lane []) (ap (is_of_sort kind) has ∙ sorts lane i o)
      ∙ has

  pub collected_as_dealt_to_holdings : (tile : List (List Register)) (holdings : List Holding) (into : List (List Register)) → length holdings ≡ 32 → IsTile into
      → deal_holdings_answer kind c tile ≡ no_refusal → HoldingsGiveBack tile holdings into
  collected_as_dealt_to_holdings tile holdings into e t d =
      let later = ended_at (ltb 5 kind) d (λ q. apart (cc)) in
      let matrix = ended_at (is_matrix kind c) later.1 (λ q. apart (cc)) in
      let lanes : List (List Register) = dealt Empty kind c tile (map (registers_of kind) holdings) in
      let after : List Holding = each (λ k h. with_registers kind h (get_or lanes k [])) holdings in
      let dealing : dealt_holdings kind c tile holdings ≡ after = ap (λ (m : Result ⊤ Refusal). filled m after holdings) d in
      let accepted : collect_holdings_answer kind c ≡ no_refusal = rw (later.0, matrix.0) in
      let whole : collected_from_holdings kind c (dealt_holdings kind c tile holdings) into ≡ collected Empty kind c (map (registers_of kind) after) into =
      ap (λ (x : List Holding). collected_from_holdings kind c x into) dealing
      ∙ ap (λ (m : Result ⊤ Refusal). filled m (collected Empty kind c (map (registers_of kind) after) into) into) accepted in
      let sorts = (judged_means kind c (λ lane i. in_tile Empty tile (place kind lane i))).accepted matrix.1 in
      record {
        answer = accepted;
        places = λ row column p.
            let s = back kind (at c row column) in
            let o = led_to_own kind c row column p in
            ap (λ (x : List (List Register)). entry Empty x row column) whole
            ∙ collected_place Empty kind c (map (registers_of kind) after) into row column t p
            ∙ dealt_field tile holdings e later.0 sorts s.lane s.register o.0
            ∙ ap (in_tile Empty tile) o.1;
        others = λ row column p.
            ap (λ (x : List (List Register)). entry Empty x row column) whole ∙ collected_other Empty kind c (map (registers_of kind) after) into row column p;
      }

  -- what was collected from holdings and is dealt to others: the kind's registers have what they had; dealt back to the same they are as they were
  pub record HoldingsDealtBack (holdings : List Holding) (tile : List (List Register)) (into : List Holding) : Type 0 where
    pub answer : deal_holdings_answer kind c (collected_from_holdings kind c holdings tile) ≡ no_refusal
    pub registers : (lane i : ℕ) → is_own kind c lane i ≡ true
        → entry Empty (map (registers_of kind) (dealt_holdings kind c (collected_from_holdings kind c holdings tile) into)) lane i
        ≡ entry Empty (map (registers_of kind) holdings) lane i
    pub whole : dealt_holdings kind c (collected_from_holdings kind c holdings tile) holdings ≡ holdings

  -- holdings made anew from their own registers
  holdings_back : (holdings : List Holding) (lanes : List (List Register)) → Field kind 0 → lanes ≡ map (registers_of kind) holdings
      → each (λ k h. with_registers kind h (get_or lanes k [])) holdings ≡ holdings
  holdings_back holdings lanes f e =
      sym (each_equal none (λ k h. with_registers kind h (get_or lanes k [])) holdings holdings refl
      (λ k i.
      let h : Holding = get_or holdings k none in
      let row : get_or lanes k [] ≡ registers_of kind h = ap (λ (l : List (List Register)). get_or l k []) e ∙ sym (map_at (registers_of kind) holdings k none [] i) in
      sym (ap (with_registers kind h) row ∙ same_holding f h)))

  pub dealt_as_collected_from_holdings : (holdings : List Holding) (tile : List (List Register)) (into : List Holding) → length holdings ≡ 32 → length into ≡ 32
      → IsTile tile → collect_holdings_answer kind c ≡ no_refusal → HoldingsDealtBack holdings tile into
  dealt_as_collected_from_holdings holdings tile into e g t d =
      let both = (and-eq-true_iff (ltb 5 kind) (is_matrix kind c)).0 (ended_at (ltb 5 kind && is_matrix kind c) d (λ q. apart (cc))).0 in
      let had : List (List Register) = map (registers_of kind) holdings in
      let from : List (List Register) = collected_from_holdings kind c holdings tile in
      let collecting : from ≡ collected Empty kind c had tile = ap (λ (m : Result ⊤ Refusal). filled m (collected Empty kind c had tile) tile) d in
      let asked : collect_answer kind c had ≡ no_refusal = no_wrong_sort holdings e both.0 ∙ d in
      let same : from ≡ collected_tile kind c had tile = collecting ∙ sym (ap (λ (m : Result ⊤ Refusal). filled m (collected Empty kind c had tile) tile) asked) in
      let registers-accepted : deal_answer kind c from ≡ no_refusal = ap (deal_answer kind c) same ∙ (dealt_as_collected kind c had tile had t (are_lanes holdings e) asked).answer in
      let accepted : deal_holdings_answer kind c from ≡ no_refusal = ap (λ (b : Bool). cond b (deal_answer kind c from) (Err outside)) both.0 ∙ registers-accepted in
      let sorts = (judged_means kind c (λ lane i. in_tile Empty from (place kind lane i))).accepted (ended_at (is_matrix kind c) registers-accepted (λ q. apart (cc))).1 in
      let after : List Holding → List Holding = λ l. each (λ k h. with_registers kind h (get_or (dealt Empty kind c from (map (registers_of kind) l)) k [])) l in
      let dealing : (l : List Holding) → dealt_holdings kind c from l ≡ after l = λ l. ap (λ (m : Result ⊤ Refusal). filled m (after l) l) accepted in
      record {
        answer = accepted;
        registers = λ lane i o.
            ap (λ (l : List Holding). entry Empty (map (registers_of kind) l) lane i) (dealing into)
            ∙ dealt_field from into g both.0 sorts lane i o
            ∙ ap (λ (x : List (List Register)). in_tile Empty x (place kind lane i)) collecting
            ∙ in_place Empty kind c had tile t lane i o;
        whole =
            dealing holdings
            ∙ holdings_back holdings (dealt Empty kind c from had) (first_field kind c both.0 both.1)
            (ap (λ (x : List (List Register)). dealt Empty kind c x had) collecting
            ∙ (undo_each_other Empty kind c).lanes_back had tile (are_lanes holdings e) t);
      }

  -- dealing changes no field that is not the kind's own, refused or not
  pub other_fields_stay : (tile : List (List Register)) (holdings : List Holding) (lane : ℕ) → lane < length holdings
      → OtherFieldsStay kind (get_or (dealt_holdings kind c tile holdings) lane none) (get_or holdings lane none)
  other_fields_stay tile holdings lane h = by_answer (deal_holdings_answer kind c tile) refl
    where
      made : ℕ → Holding → Holding
      made k g = with_registers kind g (get_or (dealt Empty kind c tile (map (registers_of kind) holdings)) k [])

      by_answer : (m : Result ⊤ Refusal) → deal_holdings_answer kind c tile ≡ m
          → OtherFieldsStay kind (get_or (filled m (each made holdings) holdings) lane none) (get_or holdings lane none)
      by_answer (Err r) e = record { of_a = λ d. refl; of_b = λ d. refl; of_first = λ d. refl; of_second = λ d. refl }
      by_answer (Ok _) e =
          let later = ended_at (ltb 5 kind) e (λ q. apart (cc)) in
          let matrix = ended_at (is_matrix kind c) later.1 (λ q. apart (cc)) in
          subst (λ (g : Holding). OtherFieldsStay kind g (get_or holdings lane none)) (sym (each_at made holdings lane none h))
          (fields_stay (first_field kind c later.0 matrix.0) (get_or holdings lane none) (get_or (dealt Empty kind c tile (map (registers_of kind) holdings)) lane []))

-- two outcomes that the promises allow are equal, what is filled too
pub dealing_to_holdings_settled : (kind c : ℕ) (tile : List (List Register)) (holdings : List Holding) (g h : Result ⊤ Refusal) (x y : List Holding)
    → g ≡ deal_holdings_answer kind c tile → h ≡ deal_holdings_answer kind c tile → x ≡ dealt_holdings kind c tile holdings → y ≡ dealt_holdings kind c tile holdings
    → (g ≡ h) × (x ≡ y)
dealing_to_holdings_settled kind c tile holdings g h x y e f p q = (e ∙ sym f, p ∙ sym q)

pub collecting_from_holdings_settled : (kind c : ℕ) (holdings : List Holding) (tile : List (List Register)) (g h : Result ⊤ Refusal) (x y : List (List Register))
    → g ≡ collect_holdings_answer kind c → h ≡ collect_holdings_answer kind c → x ≡ collected_from_holdings kind c holdings tile
    → y ≡ collected_from_holdings kind c holdings tile → (g ≡ h) × (x ≡ y)
collecting_from_holdings_settled kind c holdings tile g h x y e f p q = (e ∙ sym f, p ∙ sym q)
