-- `outside_ends::ends` has the sums of the copies at both far ends: each list is spread over the offset.
use mathlib.Core.Path.{◌≡◌, sym, ap, ◌∙◌, subst}
use mathlib.Core.Bool.{Bool, true, false}
use mathlib.Core.List.{List}
use lib.IntN.{ℤ, pos, ◌+ℤ◌, +ℤ_comm}
use lib.ListN.{get_or}
use Rattle.card.specs.Packed.{card_of}
use Rattle.card.specs.declared.Card.{Card}
use Rattle.rules.specs.Rules.{part}
use Rattle.rules.specs.Walked.{walked}
use Rattle.rules.proofs.Base.{walked_at, walked_eight}
use Rattle.copies_sums.specs.Walks.{Sums}
use Rattle.copies.proofs.Cards.{walkable_shard, walkable_replica, offset_sums, ready}
use Rattle.outside_reach.specs.Ends.{end_index}
use Rattle.outside_ends.specs.Clauses.{Moves, EndSums}
use Rattle.outside_ends.proofs.ends.Statement.{statement}
use Rattle.outside_ends.proofs.ends.Tie as tie

abbrev card : tie.Start → Card
card s = card_of s.args.numbers.now s.args.strides.now

abbrev start : tie.After-spread → tie.Start
start w = w.before.before.before

-- the sums over the shard
shard_low : (w : tie.After-spread) → let s = start w in w.spread.new.low ≡ walked (card s).shard (end_index false (card s).shard) (card s).offset
shard_low w = let s = start w in w.spread.ensures.0 ∙ ap (walked (card s).shard (end_index false (card s).shard)) s.requires.1

shard_high : (w : tie.After-spread) → let s = start w in w.spread.new.high ≡ walked (card s).shard (end_index true (card s).shard) (card s).offset
shard_high w = let s = start w in w.spread.ensures.1 ∙ ap (walked (card s).shard (end_index true (card s).shard)) s.requires.2

-- over the offset, and over these
spread_requires : tie.Need-spread-requires
spread_requires c κs =
    let s = c in
    let a = s.args in
    let small = offset_sums a.numbers.now a.strides.now s.requires.0 in
    (walkable_shard a.numbers.now a.strides.now s.requires.0, subst Sums (sym s.requires.1) small, subst Sums (sym s.requires.2) small)

spread_requires_2 : tie.Need-spread-requires-2
spread_requires_2 c κs =
    let w = c in
    let s = start w.before.before in
    let a = s.args in
    let small : (up : Bool) → Sums (walked (card s).shard (end_index up (card s).shard) (card s).offset) = λ up. (ready a.numbers.now a.strides.now s.requires.0 (end_index up (card s).shard)).sums in
    (walkable_replica a.numbers.now a.strides.now s.requires.0, subst Sums (sym (shard_low w.before.before)) (small false), subst Sums (sym (shard_high w.before.before)) (small true))

-- over both lists, the sums of the copy there
both : (card : Card) (up : Bool) {before after : List ℤ} → before ≡ walked card.shard (end_index up card.shard) card.offset → Moves up card.replica before after → EndSums card up after
both card up {before} {after} e m =
    let flat = end_index up card.shard in
    let combination = end_index up card.replica in
    let base = walked card.shard flat card.offset in
    rw (m ∙ ap (walked card.replica combination) e) (record {
      eight = walked_eight card.replica combination base;
      there = λ axis h.
          walked_at card.replica combination base axis h
          ∙ ap (λ (z : ℤ). z +ℤ part card.replica combination axis)
          (walked_at card.shard flat card.offset axis h ∙ +ℤ_comm (get_or card.offset axis (pos 0)) (part card.shard flat axis));
    })

returns : tie.Need-returns
returns c =
    let w = c in
    let k = card (start w.before.before.before) in
    (both k false (shard_low w.before.before.before) c.spread-2.ensures.0, both k true (shard_high w.before.before.before) c.spread-2.ensures.1)

pub ends_spec : {M : Type 1} → statement M
ends_spec = tie.close (tie.spec spread_requires spread_requires_2 returns)
