-- Each place by its holder.
use Rattle.std.proofs.Common.{rules}
use Rattle.values.specs.declared.Register.TheVariants.{Empty}
use Rattle.values.specs.Values.{collected_entry}
use Rattle.dealing_moves.proofs.Sources.{collected_from}
use Rattle.dealing_moves.proofs.collected_tile.Goals as goal

pub returns : goal.returns
returns c =
    let a = c.args in
    c.moved.ensures (collected_entry Empty a.kind a.computation a.lanes) (λ row column s x h k e. collected_from Empty a.kind a.computation a.lanes row column x s (search rules))
