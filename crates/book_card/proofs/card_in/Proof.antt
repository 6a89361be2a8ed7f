-- `book_card::card_in` reads part after part.
use Rattle.book.specs.Book.{card_in}
use native.Mathlib.Omega.{arith}
use borrow.Author.Rules.{rules}
use Rattle.book_card.proofs.card_in.Statement.{statement}
use Rattle.book_card.proofs.card_in.Tie as tie

returns : tie.Need-returns
unfolding card_in
returns c = rw (c.one-s.ensures.0, c.one-b.ensures.0, c.one-m.ensures.0, c.lengths_in-lengths.ensures, c.offset_in-offset.ensures, c.iters_in-replica.ensures, c.marks_in-marks.ensures, c.iters_in-shard.ensures, c.one-replica_count.ensures.0, c.one-shard_count.ensures.0)

pub card_in_spec : {M : Type 1} → statement M
card_in_spec = tie.close (tie.spec (λ c κs. search rules) (λ c κs. search rules) (λ c κs. search rules) (λ c κs. search rules) (λ c κs. search rules) (λ c κs. search rules) (λ c κs. search rules) (λ c κs. search rules) (λ c κs. search rules) (λ c κs. search rules) returns)
