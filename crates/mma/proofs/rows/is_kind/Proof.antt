-- `mma::rows::is_kind` names the numbers of the table and of the accumulators.
use mathlib.Core.Path.{ap, ◌∙◌}
use mathlib.Core.Bool.{Bool, ◌||◌, ◌&&◌}
use lib.Dec.{leb, ltb}
use borrow.Author.Rules.{rules}
use Rattle.mma.proofs.KnownKinds.{kind_known}
use Rattle.mma.proofs.rows.is_kind.Statement.{statement}
use Rattle.mma.proofs.rows.is_kind.Tie as tie

returns : tie.Need-returns
returns c =
    let k = c.args.kind in
    ap (λ (b : Bool). b || (leb 9 k && ltb k 46)) c.is_accumulator.ensures ∙ kind_known k

pub is_kind_spec : {M : Type 1} → statement M
is_kind_spec = tie.close (tie.spec (λ c κs. search rules) (λ c. search rules) returns)
