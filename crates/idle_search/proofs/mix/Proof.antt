-- `idle_search::mix` is a key with one sum more: a sum that is not below zero is a word.
use borrow.Author.Rules.{rules}
use mir.Syntax.{w64}
use mir.Facts.{to_z-of_z, Fits-nat_abs}
use Rattle.idle_search.proofs.mix.Statement.{statement}
use Rattle.idle_search.proofs.mix.Tie as tie

cast_result : tie.Need-overflow_cast-result
cast_result c = rw (to_z-of_z c.ranges.sum) (c.requires, Fits-nat_abs {w = w64} tt c.ranges.sum)

pub mix_spec : {M : Type 1} → statement M
mix_spec = tie.close (tie.spec cast_result (λ c. search rules))
