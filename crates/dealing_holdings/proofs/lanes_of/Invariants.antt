-- The lanes before this one are made anew: each by what `registers_of` gives.
use Rattle.std.proofs.Common.{List, [], ℕ, map, get_or, replicate}
use Rattle.values.specs.declared.Register.{Register}
use Rattle.values.specs.declared.Register.TheVariants.{Empty}
use Rattle.values.specs.declared.Holding.{Holding}
use Rattle.values.specs.Holdings.{registers_of}
use Rattle.values.proofs.Rows.{Anew}
use Rattle.dealing_holdings.proofs.lanes_of.Given as goal

abbrev pub empty : List (List Register)
empty = replicate 32 (replicate 8 Empty)

abbrev pub lane_of : ℕ → List Holding → ℕ → List Register → List Register
lane_of kind holdings k r = get_or (map (registers_of kind) holdings) k []

abbrev pub invariant-loop-lane : goal.invariant-loop-lane
invariant-loop-lane l = Anew 32 (lane_of l.kind l.holdings) empty l.lanes l.lane
