-- `c_card::card` reads each part of the card at its place.
use borrow.Author.Rules.{rules}
use Rattle.c_card.proofs.card.Statement.{statement}
use Rattle.c_card.proofs.card.Tie as tie

returns : tie.Need-returns
returns c =
    let l = c in
    let m = l in
    rw (m.shard.ensures, m.marks.ensures, l.replica.ensures, l.offset.ensures, l.lengths.ensures)

pub card_spec : {M : Type 1} → statement M
card_spec = tie.close (tie.spec (λ c κs. search rules) (λ c κs. search rules) (λ c κs. search rules) (λ c κs. search rules) (λ c κs. search rules) (λ c. search rules) (λ c. search rules) (λ c. search rules) (λ c. search rules) (λ c. search rules) (λ c. search rules) (λ c. search rules) returns)
