-- `idle_search::admit_packed` is checks 1 to 6 and then 17: in each arm the answer is what the check makes of the finding.
use Rattle.std.proofs.Common.{◌≡◌, sym, ◌∙◌, subst, Some, None}
use Rattle.std.proofs.lemmas.Result.{err_from_is_err_and}
use Rattle.card.specs.Packed.{card_of}
use Rattle.idle.specs.Idle.{Finds}
use Rattle.idle.specs.Admission.{full_admission}
use Rattle.idle.proofs.Theorems.{refused_before, then_idle}
use Rattle.idle_search.proofs.admit_packed.Goals as goal

pub returns-in_err-admit_packed : goal.returns-in_err-admit_packed
returns-in_err-admit_packed c =
    let p = err_from_is_err_and c.from_residual.result c.from_residual.ensures.1 in
    rw (p.1, p.2) (sym (refused_before (card_of c.args.numbers.now c.args.strides.now) (sym c.admit_packed.ensures ∙ c.in_err-admit_packed.was)))

pub find_pair-requires : goal.find_pair-requires
find_pair-requires c = record { whole = c.requires; admitted = sym c.admit_packed.ensures ∙ c.in_ok-admit_packed.was }

pub returns-in-Some : goal.returns-in-Some
returns-in-Some c =
    let card = card_of c.args.numbers.now c.args.strides.now in
    sym
    (then_idle card (Some (c.in-Some.a, c.in-Some.b)) (sym c.admit_packed.ensures ∙ c.in_ok-admit_packed.was)
    (subst (Finds card.replica) c.in-Some.is c.find_pair.ensures))

pub returns-in-None : goal.returns-in-None
returns-in-None c =
    let card = card_of c.args.numbers.now c.args.strides.now in
    sym (then_idle card None (sym c.admit_packed.ensures ∙ c.in_ok-admit_packed.was) (subst (Finds card.replica) c.in-None.is c.find_pair.ensures))
