-- Loads of request 1 over the definitions, each computed by the checker: document 01's place of kind 5 and back, one place of each .f64 kind,
-- values of the wrong sort, and what is left as given.
use mathlib.Core.Path.{◌≡◌, refl}
use mathlib.Core.Bool.{false}
use mathlib.Core.List.{List, []}
use Prim.Native.Nat.{ℕ, ◌+◌, ◌*◌}
use lib.Ieee.{Float, fin}
use lib.IntN.{pos}
use lib.ListN.{get_or, set, replicate}
use Rattle.answers.specs.Refusals.{answer}
use Rattle.fragment.specs.Kinds.{rows, columns, computations, computation, registers, place}
use Rattle.values.specs.declared.Register.{Register}
use Rattle.values.specs.declared.Register.TheVariants.{Empty, Single, Double}
use Rattle.values.specs.Values.{holder_at}
use Rattle.values.specs.Rows.{each, entry, each_entry}
use Rattle.values.specs.Registers.{judged, deal_answer, collect_answer, dealt_lanes, collected_tile, moved_numbers}
use Rattle.values.specs.Holdings.{holding, deal_holdings_answer, collect_holdings_answer, dealt_holdings, collected_from_holdings}

-- a value of its own for each number
abbrev value : ℕ → Float
value n = fin false n (pos 0)

-- n rows of eight, numbered through
abbrev numbered : ℕ → (ℕ → Register) → List (List Register)
numbered n register = each_entry (λ row k given. register (8 * row + k)) (replicate n (replicate 8 Empty))

abbrev singles : List (List Register)
singles = numbered 8 (λ n. Single (value n))

abbrev doubles : List (List Register)
doubles = numbered 8 (λ n. Double (value n))

-- what is to be filled, each entry unlike any that is moved
abbrev lanes : List (List Register)
lanes = numbered 32 (λ n. Single (value (1000 + n)))

abbrev tile : List (List Register)
tile = numbered 8 (λ n. Double (value (2000 + n)))

-- the tile with one place empty
abbrev without : ℕ → ℕ → List (List Register) → List (List Register)
without row column t = set t row (set (get_or t row []) column Empty)

-- a record of every load
pub record Loads : Type 0 where
  -- kind 5, computation 1, row 3, column 4 goes to lane 5, register 6, and comes back from there
  pub accumulator_dealt : entry Empty (dealt_lanes 5 1 singles lanes) 5 6 ≡ Single (value 28)
  pub accumulator_back : entry Empty (collected_tile 5 1 (dealt_lanes 5 1 singles lanes) tile) 3 4 ≡ Single (value 28)
  -- lane 18, register 3 is computation 0, row 6, column 3
  pub accumulator_high : entry Empty (dealt_lanes 5 0 singles lanes) 18 3 ≡ Single (value 51)
  -- a lane of another computation, and a register past the kind's count, stay as given
  pub other_lane : entry Empty (dealt_lanes 5 1 singles lanes) 18 3 ≡ entry Empty lanes 18 3
  pub other_register : entry Empty (dealt_lanes 8 0 doubles lanes) 23 2 ≡ entry Empty lanes 23 2
  -- A .f64 row 2, column 3; B .f64 row 3, column 2; C .f64 row 5, columns 6 and 7
  pub a_dealt : entry Empty (dealt_lanes 6 0 doubles lanes) 11 0 ≡ Double (value 19)
  pub b_dealt : entry Empty (dealt_lanes 7 0 doubles lanes) 11 0 ≡ Double (value 26)
  pub c_dealt : entry Empty (dealt_lanes 8 0 doubles lanes) 23 1 ≡ Double (value 47)
  -- a place outside an 8 by 4 matrix stays as given
  pub other_place : entry Empty (collected_tile 6 0 (dealt_lanes 6 0 doubles lanes) tile) 2 4 ≡ Double (value 2020)
  -- the same by holdings: only the kind's own fields are written
  pub holdings_dealt : get_or (dealt_holdings 8 0 doubles (replicate 32 (holding (value 1) (value 2) (value 3) (value 4)))) 23 (holding (value 0) (value 0) (value 0) (value 0))
      ≡ holding (value 1) (value 2) (value 46) (value 47)
  pub holdings_back : entry Empty (collected_from_holdings 7 0 (replicate 32 (holding (value 1) (value 2) (value 3) (value 4))) tile) 3 2 ≡ Double (value 2)
  -- two places of the wrong sort: the one of the smaller lane is named, though its row is the larger; and what was to be filled is as given
  pub two_wrong : moved_numbers (deal_answer 5 1 (without 3 4 (without 1 7 singles))) ≡ answer 14 5 6 0
  pub two_wrong_lanes : dealt_lanes 5 1 (without 3 4 (without 1 7 singles)) lanes ≡ lanes
  -- a double where a single is due, and a single where a double is
  pub double_for_single : moved_numbers (collect_answer 5 1 (numbered 32 (λ n. Double (value n)))) ≡ answer 14 4 0 0
  pub single_for_double : moved_numbers (deal_holdings_answer 7 0 singles) ≡ answer 14 0 0 0
  -- kinds, and computations, that there are not
  pub unknown : moved_numbers (deal_answer 4 0 singles) ≡ answer 14 0 0 0
  pub no_computation : moved_numbers (collect_answer 8 1 (numbered 32 (λ n. Double (value n)))) ≡ answer 14 0 0 0
  pub no_holdings : moved_numbers (collect_holdings_answer 5 0) ≡ answer 14 0 0 0

pub loads : Loads
unfolding rows columns computations computation registers place holder_at each judged
loads = record {
  accumulator_dealt = refl;
  accumulator_back = refl;
  accumulator_high = refl;
  other_lane = refl;
  other_register = refl;
  a_dealt = refl;
  b_dealt = refl;
  c_dealt = refl;
  other_place = refl;
  holdings_dealt = refl;
  holdings_back = refl;
  two_wrong = refl;
  two_wrong_lanes = refl;
  double_for_single = refl;
  single_for_double = refl;
  unknown = refl;
  no_computation = refl;
  no_holdings = refl;
}
