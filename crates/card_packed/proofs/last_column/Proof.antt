-- `card_packed::last_column` has the counts, M, B, S and the sizes: each product is capped.
use mathlib.Core.Path.{◌≡◌, ap, ◌∙◌}
use Prim.Native.Nat.{min}
use borrow.Author.Rules.{rules}
use lib.ListN.{take}
use Rattle.laws.proofs.Lists.{take_whole}
use Rattle.card.specs.Lists.{product}
use Rattle.card.specs.Packed.{beyond}
use Rattle.card_packed.proofs.last_column.Statement.{statement}
use Rattle.card_packed.proofs.last_column.Tie as tie

whole : (s : tie.Start) → take 8 s.args.card.lengths ≡ s.args.card.lengths
whole s = take_whole 8 s.args.card.lengths (search rules)

returns : tie.Need-returns
returns c =
    let t = c in
    let s = t in
    rw (s.size.ensures, t.size-2.ensures, c.product.ensures ∙ ap (λ l. min (product l) beyond) (whole s.before.before.before.before.before.before))

pub last_column_spec : {M : Type 1} → statement M
last_column_spec = tie.close (tie.spec (λ c κs. search rules) (λ c κs. search rules) (λ c κs. search rules) returns)
