-- `stretch::stretch` is the stretch of the lent table: where the answer is one, it lies within the cells, and these within the table.
use mathlib.Core.Path.{◌≡◌, refl, sym, ◌∙◌}
use native.Mathlib.Nat.{add-sub_cancel_left}
use lib.ListN.{length}
use Rattle.stretch_judged.specs.Stretch.{stretch_answer, stretch_with}
use Rattle.stretch_judged.proofs.Checks.{StretchWithin, answer_within}
use native.Mathlib.Omega.{arith}
use borrow.Author.Rules.{rules}
use Rattle.stretch.proofs.stretch.Statement.{statement}
use Rattle.stretch.proofs.stretch.Tie as tie

-- the answer, and that the stretch lies within the table
found : (c : tie.In-Ok) →
    let s = c in
    let v = c.in-Ok.found in
    stretch_answer s.args.lengths s.args.axis s.args.coordinates (length s.args.table.now) ≡ stretch_with v.first v.length
found c = sym c.locate_stretch-located.ensures ∙ c.in-Ok.is

within : (c : tie.In-Ok) →
    let s = c in
    let v = c.in-Ok.found in
    StretchWithin s.args.lengths (length s.args.table.now) v.first.0 v.length
within c =
    let s = c in
    let v = c.in-Ok.found in
    answer_within s.args.lengths s.args.axis s.args.coordinates (length s.args.table.now) v.first v.length (found c)

returns : tie.Need-returns-in-Ok
returns c =
    let v = c.in-Ok.found in
    rw (found c.before, add-sub_cancel_left v.first.0 v.length) (refl, (refl, omega arith))

returns_2 : tie.Need-returns-in-Err
returns_2 c = rw (sym c.locate_stretch-located.ensures ∙ c.in-Err.is) (refl, (refl, omega arith))

pub stretch_spec : {M : Type 1} → statement M
stretch_spec =
    tie.close
    (tie.spec (λ c κs. search rules) (λ c. search rules) (λ c. let w = within c in omega arith) (λ c. let w = within c in omega arith)
    (λ c. search rules) (λ c. search rules) (λ c. let w = within c in omega arith) (λ c. search rules) (λ c. search rules) (λ c. search rules)
    (λ c. search rules) returns returns_2)
