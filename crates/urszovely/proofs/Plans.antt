-- Move plans for C: two outcomes are equal, memory and all four numbers, since the library's own answer is settled; and what is promised between two
-- cards is promised between equal ones.
use Rattle.std.specs.Prelude.{Result, ⊤}
use Prim.Native.Nat.{ℕ}
use mathlib.Core.Path.{◌≡◌, sym, ap, subst, ◌∙◌}
use mathlib.Core.List.{List}
use Rattle.answers.specs.declared.Refusal.{Refusal}
use Rattle.card.specs.declared.Card.{Card}
use Rattle.plans_judged.specs.Endings.{CheckSays, checked_numbers, planning_numbers}
use Rattle.plans_judged.proofs.Plain.{check_says_settled, plan_says_settled}
use Rattle.c_card.specs.Card.{card_from, four}
use Rattle.urszovely.specs.Plans.{AsCheck, AsPlan}

-- of a plan that is checked: both tables and the answer
pub as_check_settled : (one : List ℕ) (marks : ℕ) (two : List ℕ) (other-marks : ℕ) (plan first second f s f' s' x y : List ℕ)
    → AsCheck one marks two other-marks plan first second f s x → AsCheck one marks two other-marks plan first second f' s' y
    → (f ≡ f') × (s ≡ s') × (x ≡ y)
as_check_settled one marks two other-marks plan first second f s f' s' x y h k =
    let same = check_says_settled (card_from one marks) (card_from two other-marks) first second plan f s f' s' h.checked k.checked h.allowed k.allowed in
    (same.1, same.2, h.numbers ∙ ap (λ (c : Result ⊤ Refusal). four (checked_numbers c)) same.0 ∙ sym k.numbers)

-- and of one that is written: the plan's memory too
pub as_plan_settled : (one : List ℕ) (marks : ℕ) (two : List ℕ) (other-marks : ℕ) (memory first second m f s m' f' s' x y : List ℕ)
    → AsPlan one marks two other-marks memory first second m f s x → AsPlan one marks two other-marks memory first second m' f' s' y
    → (m ≡ m') × (f ≡ f') × (s ≡ s') × (x ≡ y)
as_plan_settled one marks two other-marks memory first second m f s m' f' s' x y h k =
    let same = plan_says_settled (card_from one marks) (card_from two other-marks) first second memory m f s m' f' s' h.written k.written h.allowed k.allowed in
    (same.1, same.2, same.3, h.numbers ∙ ap (λ (p : Result ℕ Refusal). four (planning_numbers p)) same.0 ∙ sym k.numbers)

-- what is promised between two cards is promised between the same two, made another way
pub check_between : (one two one' two' : Card) (plan first second f s : List ℕ) (r : Result ⊤ Refusal) → one ≡ one' → two ≡ two' → CheckSays one two plan first second f s r
    → CheckSays one' two' plan first second f s r
check_between one two one' two' plan first second f s r e k p =
    subst (λ (card : Card). CheckSays one' card plan first second f s r) k
    (subst (λ (card : Card). CheckSays card two plan first second f s r) e p)
