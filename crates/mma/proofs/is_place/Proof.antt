-- `mma::is_place` compares with the form's own sizes, turned or not.
use borrow.Author.Rules.{rules}
use Rattle.mma.proofs.Laws.{place_turned, place_straight}
use Rattle.mma.proofs.is_place.Statement.{statement}
use Rattle.mma.proofs.is_place.Tie as tie

returns : tie.Need-returns-then-f
returns c =
    let a = c.args in
    place_turned a.f a.matrix _ _ c.if-f.true a.row a.column c.length_down-down.ensures c.length_across-across.ensures

returns_2 : tie.Need-returns
returns_2 c =
    let a = c.args in
    place_straight a.f a.matrix _ _ c.if-f.false a.row a.column c.length_down-down.ensures c.length_across-across.ensures

pub is_place_spec : {M : Type 1} → statement M
is_place_spec = tie.close (tie.spec (λ c κs. search rules) (λ c κs. search rules) returns returns_2)
