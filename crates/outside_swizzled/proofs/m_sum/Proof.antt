-- `outside_swizzled::m_sum` is m after a walk from zero.
use mathlib.Core.Path.{ap, ◌∙◌}
use mathlib.Core.List.{List}
use borrow.Author.Rules.{rules}
use lib.IntN.{ℤ, pos}
use lib.ListN.{get_or}
use mir.Syntax.{w64}
use mir.Facts.{to_z-of_z}
use Rattle.card.specs.Limits.{last_axis}
use Rattle.card.specs.Packed.{iters_of}
use Rattle.copies_runs.proofs.Cards.{zero_sums}
use Rattle.outside_swizzled.proofs.Laws.{m_walked}
use Rattle.outside_swizzled.proofs.m_sum.Statement.{statement}
use Rattle.outside_swizzled.proofs.m_sum.Tie as tie

returns : tie.Need-returns
returns c =
    let s = c in
    let sums = c.walk.new.sums in
    to_z-of_z {w = w64} {z = get_or sums last_axis (pos 0)} (record { sfits = c.result-1.given })
    ∙ ap (λ (l : List ℤ). get_or l last_axis (pos 0)) c.walk.ensures
    ∙ m_walked (iters_of s.args.numbers.now s.args.strides.now s.args.list) s.args.index

pub m_sum_spec : {M : Type 1} → statement M
m_sum_spec = tie.close (tie.spec (λ c κs. (c.requires, zero_sums)) (λ c. search rules) returns)
