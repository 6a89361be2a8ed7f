-- `idle_search::are_equal` compares the two lists: equality of lists decides whether they are the same.
use Rattle.std.proofs.Common.{sym, ◌∙◌}
use mathlib.Core.Bool.{false≢true}
use Rattle.std.proofs.lemmas.Bool.Decides.{Decides-int_eq}
use Rattle.std.proofs.lemmas.Slice.Eq.{slice_eq-Decides}
use Rattle.idle_search.proofs.are_equal.Goals as goal

pub returns : goal.returns
returns c =
    let same = slice_eq-Decides Decides-int_eq c.args.one.now c.args.other.now c.eq.result c.eq.ensures in
    record { yes_holds = same.0; no_fails = λ f e. false≢true (sym f ∙ same.1 e) }
