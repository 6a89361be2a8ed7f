-- What dealing to empty lanes gives is judged: each register of the computation has what its place has.
use Rattle.std.proofs.Common.{ap, ◌∙◌, cond, Err}
use Rattle.fragment.specs.Fragment.{outside}
use Rattle.values.specs.declared.Register.TheVariants.{Empty}
use Rattle.values.specs.Registers.{is_matrix, collect_answer}
use Rattle.values.proofs.Sorts.{judged_dealt, lanes_alike}
use Rattle.dealing.proofs.judge_dealing.Goals as goal

pub returns : goal.returns
returns c =
    let a = c.args in
    c.judge_collecting.ensures
    ∙ ap (collect_answer a.kind a.computation) c.dealt_lanes-lanes.ensures
    ∙ ap (λ told. cond (is_matrix a.kind a.computation) told (Err outside)) (judged_dealt a.kind a.computation a.tile _ (lanes_alike Empty))
