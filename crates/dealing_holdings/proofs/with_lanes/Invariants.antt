-- The holdings before this one are made anew: each by what `with_registers` gives.
use Rattle.std.proofs.Common.{[], get_or}
use Rattle.values.specs.Holdings.{with_registers}
use Rattle.values.proofs.Rows.{Anew}
use Rattle.dealing_holdings.proofs.with_lanes.Given as goal

abbrev pub invariant-loop-lane : goal.invariant-loop-lane
invariant-loop-lane l = Anew 32 (λ k h. with_registers l.kind h (get_or l.lanes k [])) l.given l.holdings l.lane
