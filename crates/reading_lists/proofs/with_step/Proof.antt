-- `reading_lists::with_step` is the definition: the value and the axis are the callees' own.
use borrow.Author.Rules.{rules}
use Rattle.reading_lists.proofs.Signed.{as_written}
use Rattle.reading_lists.proofs.with_step.Statement.{statement}
use Rattle.reading_lists.proofs.with_step.Tie as tie

returns : tie.Need-returns
returns c =
    let a = c in
    let t = a.args.step in
    let stride = as_written t.negative t.size a.requires c.value-stride.result c.value-stride.ensures in
    λ j. record { extent = a.args.iter.extent; stride = stride j; axis = a.axis_of-axis.ensures j }

pub with_step_spec : {M : Type 1} → statement M
with_step_spec = tie.close (tie.spec (λ c κs. search rules) (λ c κs. search rules) returns)
