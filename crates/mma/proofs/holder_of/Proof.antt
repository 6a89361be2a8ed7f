-- `mma::holder_of` climbs the definition's ladder: no such kind, no such place of its form, else the register of the place's digits.
use mathlib.Core.Path.{◌≡◌, sym, ap, ◌∙◌}
use mathlib.Core.Bool.{true, false}
use borrow.Author.Rules.{rules}
use borrow.Author.Tests.{not-true, not-false}
use Rattle.mma_kinds.specs.Kinds.{mma_at}
use Rattle.mma.specs.Clauses.{place_in}
use Rattle.mma.proofs.Laws.{holder_no_kind, no_such_place, holder_there, place_small, holder_turned, holder_straight}
use Rattle.mma.proofs.holder_of.Statement.{statement}
use Rattle.mma.proofs.holder_of.Tie as tie

returns : tie.Need-returns-then-not-is_kind
returns c =
    let a = c.args in
    (holder_no_kind a.kind (mma_at a.matrix a.row a.column) (sym c.is_kind.ensures ∙ c.if-not-is_kind.true), c.outside.ensures)

returns_2 : tie.Need-returns-then-not-is_place
returns_2 c =
    let a = c.args in
    (no_such_place a.kind _ c.form-f.ensures.0 (mma_at a.matrix a.row a.column) (sym c.is_place.ensures ∙ c.if-not-is_place.true), c.outside-then-not-is_place.ensures)

there : (c : tie.Else-not-is_place) → place_in c.form-f.result (mma_at c.args.matrix c.args.row c.args.column) ≡ true
there c = sym c.is_place.ensures ∙ c.if-not-is_place.false

few_matrices : tie.Need-slot_holding-requires
few_matrices c κs =
    let a = c.args in
    let s = c.form-f.ensures.1 in
    (s, place_small c.form-f.result s (mma_at a.matrix a.row a.column) (there c.before))

few_matrices_2 : tie.Need-slot_holding-requires-2
few_matrices_2 c κs =
    let a = c.args in
    let s = c.form-f.ensures.1 in
    (s, place_small c.form-f.result s (mma_at a.matrix a.row a.column) (there c.before))

returns_3 : tie.Need-returns-then-f
returns_3 c =
    let a = c.args in
    holder_there a.kind _ c.form-f.ensures.0 (mma_at a.matrix a.row a.column) _ (there c.before.before)
    (c.slot_holding.ensures ∙ holder_turned c.form-f.result a.matrix a.column a.row c.if-f.true)

returns_4 : tie.Need-returns
returns_4 c =
    let a = c.args in
    holder_there a.kind _ c.form-f.ensures.0 (mma_at a.matrix a.row a.column) _ (there c.before.before)
    (c.slot_holding-2.ensures ∙ holder_straight c.form-f.result a.matrix a.row a.column c.if-f.false)

pub holder_of_spec : {M : Type 1} → statement M
holder_of_spec =
    tie.close
    (tie.spec (λ c κs. search rules) (λ c κs. search rules) returns (λ c κs. sym c.is_kind.ensures ∙ c.if-not-is_kind.false) (λ c κs. search rules)
    (λ c κs. search rules) returns_2 few_matrices returns_3 few_matrices_2 returns_4)
