-- `canonical_build::card_of` has the parts of the card.
use borrow.Author.Rules.{rules}
use Rattle.swizzle.proofs.Theorems.{mode_told}
use Rattle.canonical_build.proofs.card_of.Statement.{statement}
use Rattle.canonical_build.proofs.card_of.Tie as tie

returns : tie.Need-returns
returns c =
    let s = c in
    rw (c.shard.ensures, c.empty-none.ensures, (mode_told s.args.a.bits s.args.a.mode s.args.swizzle s.requires.1).1)

pub card_of_spec : {M : Type 1} → statement M
card_of_spec = tie.close (tie.spec (λ c κs. search rules) (λ c κs. c.requires.0) returns)
