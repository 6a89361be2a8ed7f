-- One turn makes one holding anew, by what `with_registers` gives of it and of its lane.
use Rattle.std.proofs.Common.{[], get_or, rules}
use lib.Ieee.{nan}
use Rattle.laws.proofs.Lists.{length_of}
use Rattle.values.specs.declared.Holding.{Holding}
use Rattle.values.specs.Holdings.{holding, with_registers}
use Rattle.values.proofs.Rows.{anew_none, anew_next, anew_all}
use Rattle.dealing_holdings.proofs.with_lanes.Goals as goal

-- some holding: what stands past the end does not count
none : Holding
none = holding nan nan nan nan

pub loop-lane-init : goal.loop-lane-init
loop-lane-init c = anew_none none 32 _ c.args.given (search (rules, length_of))

pub loop-lane-preserved : goal.loop-lane-preserved
loop-lane-preserved c =
    let a = c.args in
    let l = c.loop-lane in
    anew_next _ 32 (λ k h. with_registers a.kind h (get_or a.lanes k [])) a.given l.holdings l.lane c.with_registers.result l.invariant
    c.loop-lane-test.true c.with_registers.ensures

pub returns : goal.returns
returns c =
    let a = c.args in
    let l = c.loop-lane in
    anew_all none 32 (λ k h. with_registers a.kind h (get_or a.lanes k [])) a.given l.holdings l.lane l.invariant c.loop-lane-test.false
