-- `urszovely::urszovely_mask` answers what the library's question answers, in its four numbers.
use mathlib.Core.Path.{sym}
use borrow.Author.Rules.{rules}
use Rattle.urszovely.proofs.urszovely_mask.Statement.{statement}
use Rattle.urszovely.proofs.urszovely_mask.Tie as tie

returns : tie.Need-returns
returns c =
    let n = c in
    let g = n in
    (rw (c.four.ensures, n.in_numbers-numbers.ensures, g.generate_mask-generated.ensures.0), rw (sym g.generate_mask-generated.ensures.0) g.generate_mask-generated.ensures.1)

pub urszovely_mask_spec : {M : Type 1} → statement M
urszovely_mask_spec = tie.close (tie.spec (λ c κs. search rules) (λ c κs. search rules) (λ c κs. search rules) (λ c. search rules) returns)
