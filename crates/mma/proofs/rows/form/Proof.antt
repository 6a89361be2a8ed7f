-- `mma::rows::form` has the numbers of a row, or of an accumulator by N.
use mathlib.Core.Path.{◌≡◌, sym, ◌∙◌, subst}
use mathlib.Core.Bool.{true, false}
use native.Mathlib.Omega.{arith}
use borrow.Author.Rules.{rules}
use Rattle.mma_kinds.specs.Kinds.{is_accumulator}
use Rattle.mma_cards.specs.Clauses.{FormSound}
use Rattle.mma.proofs.KnownKinds.{accumulator_form, accumulator_sound, form_sound, has_row}
use Rattle.mma.proofs.rows.form.Statement.{statement}
use Rattle.mma.proofs.rows.form.Tie as tie

is_one : (c : tie.Then-is_accumulator) → is_accumulator c.args.kind ≡ true
is_one c = sym c.is_accumulator.ensures ∙ c.if-is_accumulator.true

is_none : (c : tie.Else-is_accumulator) → is_accumulator c.args.kind ≡ false
is_none c = sym c.is_accumulator.ensures ∙ c.if-is_accumulator.false

returns : tie.Need-returns-then-is_accumulator
returns c =
    let k = c.args.kind in
    let same = accumulator_form k (is_one c) in
    (same, subst FormSound (sym same) (form_sound k c.requires))

returns_2 : tie.Need-returns
returns_2 c =
    let k = c.args.kind in
    let same = c.row-digits.ensures in
    (same, subst FormSound (sym same) (form_sound k c.requires))

pub form_spec : {M : Type 1} → statement M
form_spec =
    tie.close
    (tie.spec (λ c κs. search rules) (λ c. omega (arith, (accumulator_sound c.args.kind (is_one c)).0)) returns
    (λ c κs. has_row c.args.kind c.requires (is_none c)) returns_2)
