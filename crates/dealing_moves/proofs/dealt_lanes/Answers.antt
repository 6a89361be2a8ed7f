-- Each register by its source.
use Rattle.std.proofs.Common.{rules}
use Rattle.values.specs.declared.Register.TheVariants.{Empty}
use Rattle.values.specs.Values.{dealt_entry}
use Rattle.dealing_moves.proofs.Sources.{dealt_from}
use Rattle.dealing_moves.proofs.dealt_lanes.Goals as goal

pub returns : goal.returns
returns c =
    let a = c.args in
    c.moved.ensures (dealt_entry Empty a.kind a.computation a.tile) (λ lane i s x h k e. dealt_from Empty a.kind a.computation a.tile lane i x s (search rules))
