-- `owners::claim_row` claims a row: the entry met decides, and a row that meets nobody occupies some cell newly.
use mathlib.Core.Path.{◌≡◌, sym, ◌∙◌}
use native.Mathlib.Omega.{arith}
use native.Mathlib.Nat.{pos_of_ne-zero}
use Rattle.claims.proofs.Steps.{claim_none, claim_all}
use borrow.Author.Rules.{rules}
use Rattle.owners.proofs.claim_row.Statement.{statement}
use Rattle.owners.proofs.claim_row.Tie as tie
use Rattle.owners.proofs.claim_row.Lts as lts

-- the answers stand apart from `close`, so that they are read where a callee is not proved
answered : {M : Type 1} → lts.Closed tie.the-claims tie.handed_pre tie.handed_post M
answered =
    tie.spec (λ c κs. search rules) (λ c. search rules) (λ c.
    let a = c.args in
    claim_none a.row.now a.flat.0 a.table.now (pos_of_ne-zero (λ e. omega (arith, c.entry_met.ensures ∙ e)))) (λ c κs. search rules) (λ c. search rules) (λ c.
    let s = c in
    let a = s.args in
    let write = c.write_row in
    let none : c.entry_met.result ≡ 0 = omega arith in
    let free = sym c.entry_met.ensures ∙ none in
    claim_all a.row.now a.flat.0 write.result a.table.now write.new.table s.requires.0 s.requires.1.0 free write.ensures.0 write.ensures.1)

pub claim_row_spec : {M : Type 1} → statement M
claim_row_spec = tie.close answered
