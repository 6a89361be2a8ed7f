-- Whether the marks below the count contain a set one is the search among them, mark by mark.
use Rattle.std.proofs.Common.{rules, ◌≡◌, refl, ap, ◌∙◌, Bool, true, false, List, [], ◌∷◌, length, take}
use mathlib.Core.Bool.{beq}
use Rattle.std.specs.List.{list_any}
use Rattle.laws.proofs.Lists.{take_min}
use Rattle.plans_judged.specs.Pair.{any_mark}
use Rattle.plans_second.proofs.any_mark.Goals as goal

contains_set : (marks : List Bool) → list_any (λ (mark : Bool). beq mark true) marks ≡ any_mark marks
contains_set [] = refl
contains_set (true ∷ marks) = refl
contains_set (false ∷ marks) = contains_set marks

pub returns : goal.returns
returns c =
    let eight : length c.args.marks ≡ 8 = search rules in
    let below : take c.min.result c.args.marks ≡ take c.args.count c.args.marks = rw c.min.ensures (take_min c.args.count 8 c.args.marks eight) in
    c.contains.ensures.value ∙ contains_set (take c.min.result c.args.marks) ∙ ap any_mark below
