-- The questions on .f64 holdings: a lane's record is its registers of kinds 6 to 8, and dealing and collecting are those of registers.
use Rattle.std.specs.Prelude.{ℕ, cond, ◌&&◌, List, [], ◌∷◌, map, eqb, ltb, Float, get_or, Result, ⊤, Err, Ok}
use Rattle.answers.specs.Refusals.{no_refusal}
use Rattle.answers.specs.declared.Refusal.{Refusal}
use Rattle.fragment.specs.Fragment.{outside}
use Rattle.values.specs.declared.Register.{Register}
use Rattle.values.specs.declared.Register.TheVariants.{Empty, Single, Double}
use Rattle.values.specs.declared.Holding.{Holding}
use Rattle.values.specs.Rows.{each}
use Rattle.values.specs.Values.{dealt, collected}
use Rattle.values.specs.Registers.{is_matrix, deal_answer, filled}

abbrev pub holding : Float → Float → Float → Float → Holding
holding a b first second = record { a = a; b = b; first = first; second = second }

-- the eight registers of a lane for a kind: A for kind 6, B for kind 7, the two accumulators for kind 8; the others are empty
abbrev pub registers_of : ℕ → Holding → List Register
registers_of kind h =
    let others : List Register = Empty ∷ Empty ∷ Empty ∷ Empty ∷ Empty ∷ Empty ∷ [] in
    cond (eqb kind 6) (Double h.a ∷ Empty ∷ others)
    (cond (eqb kind 7) (Double h.b ∷ Empty ∷ others) (Double h.first ∷ Double h.second ∷ others))

-- the double that a register has; `other` if it has none
abbrev pub double_of : Float → Register → Float
double_of other Empty = other
double_of other (Single x) = other
double_of other (Double x) = x

-- the holding with its registers for a kind anew
abbrev pub with_registers : ℕ → Holding → List Register → Holding
with_registers kind h registers =
    let double : ℕ → Float → Float = λ i other. double_of other (get_or registers i Empty) in
    cond (eqb kind 6) (holding (double 0 h.a) h.b h.first h.second)
    (cond (eqb kind 7) (holding h.a (double 0 h.b) h.first h.second) (holding h.a h.b (double 0 h.first) (double 1 h.second)))

-- kind 5 has no holdings
abbrev pub deal_holdings_answer : ℕ → ℕ → List (List Register) → Result ⊤ Refusal
deal_holdings_answer kind c tile = cond (ltb 5 kind) (deal_answer kind c tile) (Err outside)

-- no register of a holding is of the wrong sort
abbrev pub collect_holdings_answer : ℕ → ℕ → Result ⊤ Refusal
collect_holdings_answer kind c = cond (ltb 5 kind && is_matrix kind c) no_refusal (Err outside)

abbrev pub dealt_holdings : ℕ → ℕ → List (List Register) → List Holding → List Holding
dealt_holdings kind c tile holdings =
    let lanes = dealt Empty kind c tile (map (registers_of kind) holdings) in
    filled (deal_holdings_answer kind c tile) (each (λ lane h. with_registers kind h (get_or lanes lane [])) holdings) holdings

abbrev pub collected_from_holdings : ℕ → ℕ → List Holding → List (List Register) → List (List Register)
collected_from_holdings kind c holdings tile =
    filled (collect_holdings_answer kind c) (collected Empty kind c (map (registers_of kind) holdings) tile) tile
