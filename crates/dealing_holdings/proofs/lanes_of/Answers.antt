-- One turn makes one lane anew, by what `registers_of` gives of its holding.
use Rattle.std.proofs.Common.{◌≡◌, refl, sym, ◌∙◌, [], map, length, replicate, rules, arith}
use Rattle.std.proofs.Math.ListN.{length-map, length-replicate}
use Rattle.laws.proofs.Lists.{length_of}
use Rattle.values.specs.declared.Register.TheVariants.{Empty}
use Rattle.values.specs.Holdings.{registers_of}
use Rattle.values.proofs.Rows.{anew_none, anew_next, anew_all, each_equal, map_at}
use Rattle.dealing_holdings.proofs.lanes_of.Invariants.{empty, lane_of}
use Rattle.dealing_holdings.proofs.lanes_of.Goals as goal

pub loop-lane-init : goal.loop-lane-init
loop-lane-init c = anew_none [] 32 (lane_of c.args.kind c.args.holdings) empty (length-replicate 32 (replicate 8 Empty))

pub loop-lane-preserved : goal.loop-lane-preserved
loop-lane-preserved c =
    let a = c.args in
    let l = c.loop-lane in
    let long : length a.holdings ≡ 32 = search (rules, length_of) in
    anew_next [] 32 (lane_of a.kind a.holdings) empty l.lanes l.lane c.registers_of.result l.invariant c.loop-lane-test.true
    (c.registers_of.ensures ∙ map_at (registers_of a.kind) a.holdings l.lane _ [] (omega arith))

pub returns : goal.returns
returns c =
    let a = c.args in
    let l = c.loop-lane in
    let long : length a.holdings ≡ 32 = search (rules, length_of) in
    anew_all [] 32 (lane_of a.kind a.holdings) empty l.lanes l.lane l.invariant c.loop-lane-test.false
    ∙ sym (each_equal [] (lane_of a.kind a.holdings) empty (map (registers_of a.kind) a.holdings) (length-map a.holdings (registers_of a.kind) ∙ long) (λ k h. refl))
