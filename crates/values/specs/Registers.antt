-- The questions on registers: which values are of the kind's sort, the answer, and what is filled.
use Rattle.std.specs.Prelude.{ℕ, ◌/◌, ◌%◌, Bool, false, cond, not, ◌&&◌, List, eqb, leb, ltb, Result, ⊤, Err, Ok}
use Rattle.answers.specs.declared.Refusal.{Refusal}
use Rattle.answers.specs.Refusals.{answer, refusal_numbers, numbers_of, just_zero, no_refusal}
use Rattle.answers.specs.declared.Numbers.{Numbers}
use Rattle.answers.specs.declared.Refusal.TheVariants.{Fragment}
use Rattle.fragment.specs.Kinds.{computations, place}
use Rattle.fragment.specs.Fragment.{outside}
use Rattle.values.specs.declared.Register.{Register}
use Rattle.values.specs.declared.Register.TheVariants.{Empty, Single, Double}
use Rattle.values.specs.Rows.{entry}
use Rattle.values.specs.Values.{is_own, first, in_tile, dealt, collected}

-- kinds 5 to 8, and their computations: others are 14
abbrev pub is_matrix : ℕ → ℕ → Bool
is_matrix kind c = leb 5 kind && ltb kind 9 && ltb c (computations kind)

-- a value of the kind's sort: a single for kind 5, a double for the .f64 kinds
abbrev pub is_of_sort : ℕ → Register → Bool
is_of_sort kind Empty = false
is_of_sort kind (Single x) = eqb kind 5
is_of_sort kind (Double x) = not (eqb kind 5)

-- of the values that the registers have or get: register n % 8 of lane n / 8 is the computation's and its value is of the wrong sort
abbrev pub is_wrong : ℕ → ℕ → (ℕ → ℕ → Register) → ℕ → Bool
is_wrong kind c value n = is_own kind c (n / 8) (n % 8) && not (is_of_sort kind (value (n / 8) (n % 8)))

-- refusal 14 with the smallest lane and register of the wrong sort, if there is one
unfoldable pub judged : ℕ → ℕ → (ℕ → ℕ → Register) → Result ⊤ Refusal
judged kind c value =
    let n = first (is_wrong kind c value) 256 in cond (ltb n 256) (Err (Fragment (n / 8) (n % 8))) no_refusal

-- dealing judges the places of the matrix, each by the register that it would go to
abbrev pub deal_answer : ℕ → ℕ → List (List Register) → Result ⊤ Refusal
deal_answer kind c tile =
    cond (is_matrix kind c) (judged kind c (λ lane i. in_tile Empty tile (place kind lane i))) (Err outside)

-- collecting judges the registers
abbrev pub collect_answer : ℕ → ℕ → List (List Register) → Result ⊤ Refusal
collect_answer kind c lanes = cond (is_matrix kind c) (judged kind c (entry Empty lanes)) (Err outside)

-- what was to be filled: filled, or as given where refused
abbrev pub filled : {A : Type 0} → Result ⊤ Refusal → A → A → A
filled (Ok _) new given = new
filled (Err refusal) new given = given

abbrev pub dealt_lanes : ℕ → ℕ → List (List Register) → List (List Register) → List (List Register)
dealt_lanes kind c tile lanes = filled (deal_answer kind c tile) (dealt Empty kind c tile lanes) lanes

abbrev pub collected_tile : ℕ → ℕ → List (List Register) → List (List Register) → List (List Register)
collected_tile kind c lanes tile = filled (collect_answer kind c lanes) (collected Empty kind c lanes tile) tile

-- at number 0 all details are 0
abbrev pub moved_numbers : Result ⊤ Refusal → Numbers
moved_numbers = numbers_of just_zero
