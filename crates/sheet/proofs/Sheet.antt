-- Every load of the sheet has its stated answer: one test that the checker computes over the whole table, and the law that turns it
-- into each load.
use Rattle.std.specs.Prelude.{Result, ⊤}
use mathlib.Core.Path.{◌≡◌, refl, sym, ap, ap₂}
use mathlib.Core.Bool.{Bool, true, false, ◌&&◌, and-eq-true_iff}
use mathlib.Core.List.{List, [], ◌∷◌, ◌++◌}
use Prim.Native.Nat.{ℕ, ◌<◌}
use borrow.Author.Tests.{eqb-true}
use lib.Dec.{eqb}
use lib.Count.{count_leading_zeros}
use lib.ListN.{length, get_or}
use Rattle.answers.specs.declared.Refusal.{Refusal}
use Rattle.judgement.specs.declared.Approved.{Approved}
use Rattle.laws.proofs.Table.{every, every_at}
use Rattle.laws.proofs.Rungs.{apart}
use Rattle.swizzle.specs.Swizzle.{swizzled}
use Rattle.swizzle.specs.Mode.{bit_length}
use Rattle.fragment.specs.Kinds.{computation, registers, place}
use Rattle.mma_kinds.specs.Kinds.{kind_table as kinds, kind_of}
use Rattle.descriptor.specs.Descriptor.{descriptor_of}
use Rattle.mask_pattern.specs.Pattern.{column, columns_number, mask_bytes, zeroed, first_used}
use Rattle.card.specs.Admission.{admission}
use Rattle.rules.specs.RowMajor.{position}
use Rattle.rules.specs.Rules.{coordinates, spot}
use Rattle.rules.specs.Reuse.{leader}
use Rattle.rules.specs.Copies.{copy_cells, outside_axis}
use Rattle.idle.specs.Run.{pair_of}
use Rattle.idle.specs.Admission.{full_admission}
use Rattle.placement_judged.specs.Placement.{placement_answer, placement_memory}
use Rattle.card.specs.declared.Card.{Card}
use Rattle.judgement.specs.Verdict.{table_after, VerdictPromise, owner_table_after, OwnerPromise, verdict_numbers, owner_numbers}
use Rattle.judgement.specs.Run.{judge, owner_run}
use Rattle.judgement.proofs.Run.{verdict_is_run, owner_is_run}
use Rattle.plans_judged.specs.Endings.{CheckPromise, PlanPromise, checked_numbers, planning_numbers}
use Rattle.plans_judged.proofs.Run.{check_is_run, plan_is_run}
use Rattle.sheet.specs.Questions.{verdict, owner, carry, plan, Reply, reply, replied_to}
use Rattle.sheet.specs.Loads.{Load, loads}

-- two replies are the same, tested
abbrev same_list : List ℕ → List ℕ → Bool
same_list [] [] = true
same_list [] (y ∷ ys) = false
same_list (x ∷ xs) [] = false
same_list (x ∷ xs) (y ∷ ys) = eqb x y && same_list xs ys

abbrev same : Reply → Reply → Bool
same p q =
    (eqb p.numbers.number q.numbers.number
    && eqb p.numbers.a q.numbers.a
    && eqb p.numbers.b q.numbers.b
    && eqb p.numbers.c q.numbers.c)
    && same_list p.values q.values

both : (a b : Bool) → (a && b) ≡ true → (a ≡ true) × (b ≡ true)
both a b e = (and-eq-true_iff a b).0 e

list_same : (xs ys : List ℕ) → same_list xs ys ≡ true → xs ≡ ys
list_same [] [] e = refl
list_same [] (y ∷ ys) e = absurd (apart (cc))
list_same (x ∷ xs) [] e = absurd (apart (cc))
list_same (x ∷ xs) (y ∷ ys) e =
    let t = both (eqb x y) (same_list xs ys) e in
    ap₂ (λ (a : ℕ) (l : List ℕ). a ∷ l) (eqb-true x y t.0) (list_same xs ys t.1)

reply_same : (p q : Reply) → same p q ≡ true → p ≡ q
reply_same p q e =
    let m = p.numbers in
    let n = q.numbers in
    let t = both (eqb m.number n.number && eqb m.a n.a && eqb m.b n.b && eqb m.c n.c) (same_list p.values q.values) e in
    let c = both (eqb m.number n.number && eqb m.a n.a && eqb m.b n.b) (eqb m.c n.c) t.0 in
    let b = both (eqb m.number n.number && eqb m.a n.a) (eqb m.b n.b) c.0 in
    let a = both (eqb m.number n.number) (eqb m.a n.a) b.0 in
    λ i. record {
      numbers = record {
        number = eqb-true m.number n.number a.0 i;
        a = eqb-true m.a n.a a.1 i;
        b = eqb-true m.b n.b b.1 i;
        c = eqb-true m.c n.c c.1 i;
      };
      values = list_same p.values q.values t.1 i;
    }

meets : ℕ → Load → Bool
meets k load = same (replied_to load.question) load.stated

-- the computed test
test : every meets 0 loads ≡ true
unfolding meets replied_to loads swizzled bit_length count_leading_zeros computation registers place kinds kind_of descriptor_of column columns_number mask_bytes zeroed first_used admission pair_of full_admission position coordinates spot leader copy_cells outside_axis placement_answer placement_memory
test = refl

-- every load of the sheet has its stated answer
pub sheet_holds : (other : Load) (k : ℕ) → k < length loads → replied_to (get_or loads k other).question ≡ (get_or loads k other).stated
unfolding meets
sheet_holds other k h =
    let load = get_or loads k other in
    reply_same (replied_to load.question) load.stated (every_at meets loads other test k h)

-- a load of the verdict is a load of its promise: whatever the promise allows has the numbers that the run computes, and leaves its table
pub verdict_carried : (card : Card) (before after : List ℕ) (v : Result Approved Refusal) → VerdictPromise card before after v
    → (replied_to (verdict card before) ≡ reply (verdict_numbers v) []) × (after ≡ table_after card (judge card (length before)) before)
unfolding replied_to
verdict_carried card before after v p =
    let run = verdict_is_run card before after v p in
    (ap (λ (w : Result Approved Refusal). reply (verdict_numbers w) []) (sym run.0), run.1)

-- and so is one of the owner
pub owner_carried : (card : Card) (coordinates before after : List ℕ) (o : Result ℕ Refusal) → OwnerPromise card coordinates before after o
    → (replied_to (owner card coordinates before) ≡ reply (owner_numbers o) [])
    × (after ≡ owner_table_after card (owner_run card coordinates (length before)) before)
unfolding replied_to
owner_carried card coordinates before after o p =
    let run = owner_is_run card coordinates before after o p in
    (ap (λ (w : Result ℕ Refusal). reply (owner_numbers w) []) (sym run.0), run.1)

-- and so is one of a plan that is checked, or written
pub check_carried : (one two : Card) (moves first second f s : List ℕ) (a : Result ⊤ Refusal) → CheckPromise one two moves first second f s a
    → replied_to (carry one two moves first second) ≡ reply (checked_numbers a) (f ++ s)
unfolding replied_to
check_carried one two moves first second f s a p =
    let run = check_is_run one two first second moves f s a p in
    ap₂ reply (ap checked_numbers (sym run.0)) (ap₂ (λ (l r : List ℕ). l ++ r) (sym run.1) (sym run.2))

pub plan_carried : (one two : Card) (memory first second m f s : List ℕ) (a : Result ℕ Refusal) → PlanPromise one two memory first second m f s a
    → replied_to (plan one two memory first second) ≡ reply (planning_numbers a) (m ++ (f ++ s))
unfolding replied_to
plan_carried one two memory first second m f s a p =
    let run = plan_is_run one two first second memory m f s a p in
    ap₂ reply (ap planning_numbers (sym run.0))
    (ap₂ (λ (l r : List ℕ). l ++ r) (sym run.1) (ap₂ (λ (l r : List ℕ). l ++ r) (sym run.2) (sym run.3)))
