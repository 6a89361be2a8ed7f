-- `urszovely::urszovely_admit` answers what the library's question answers of the card that it packs, in its four numbers.
use mathlib.Core.Path.{sym}
use borrow.Author.Rules.{rules}
use Rattle.idle.proofs.Theorems.{admission_exactly}
use Rattle.urszovely.proofs.urszovely_admit.Statement.{statement}
use Rattle.urszovely.proofs.urszovely_admit.Tie as tie

returns : tie.Need-returns
returns c =
    let a = c in
    record {
      admission = a.admit_packed-admission.result;
      allowed = rw (sym a.pack.ensures.same_card) ((admission_exactly _ _).1 a.admit_packed-admission.ensures);
      numbers = rw (c.four.ensures, c.in_numbers-told.ensures);
    }

pub urszovely_admit_spec : {M : Type 1} → statement M
urszovely_admit_spec = tie.close (tie.spec (λ c κs. search rules) (λ c κs. search rules) (λ c κs. search rules) (λ c κs. search rules) returns)
