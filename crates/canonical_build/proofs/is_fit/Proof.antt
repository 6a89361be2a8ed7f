-- `canonical_build::is_fit` joins the tests as the definition does.
use borrow.Author.Rules.{rules}
use Rattle.canonical_build.proofs.is_fit.Statement.{statement}
use Rattle.canonical_build.proofs.is_fit.Tie as tie

returns : tie.Need-returns
returns c = rw (c.uses_lbo.ensures, c.stride_fits.ensures, c.stride_fits-2.ensures)

pub is_fit_spec : {M : Type 1} → statement M
is_fit_spec = tie.close (tie.spec (λ c κs. search rules) (λ c κs. search rules) (λ c κs. search rules) returns)
