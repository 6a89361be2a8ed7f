-- `mma::slot_holding` is the register of the place's digits.
use borrow.Author.Rules.{rules}
use Rattle.mma.proofs.Laws.{holder_of_parts}
use Rattle.mma.proofs.slot_holding.Statement.{statement}
use Rattle.mma.proofs.slot_holding.Tie as tie

returns : tie.Need-returns
returns c =
    let a = c.args in
    holder_of_parts a.f a.matrix a.down a.across _ _ _ c.digit-warp.ensures.0 c.digit-thread.ensures.0 c.register_of-register.ensures

pub slot_holding_spec : {M : Type 1} → statement M
slot_holding_spec =
    tie.close
    (tie.spec (λ c. search rules) (λ c κs. search rules) (λ c κs. search rules) (λ c κs. search rules) (λ c. search rules) (λ c. search rules) returns)
