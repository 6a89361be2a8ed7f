-- `idle_search::find_pair` tries the second of a pair one by one: the keys of those tried stand in their places, and none of them has a twin.
use Rattle.std.proofs.Common.{arith, subst, ◌≡◌, ◌≤◌, ◌<◌, ℕ, List, get_or}
use lib.IntN.{ℤ}
use Rattle.card.specs.Limits.{most_copies}
use Rattle.card.specs.Card.{size}
use Rattle.card.specs.Packed.{iters_of, card_of, Admits}
use Rattle.card.proofs.Admitted.{sized, measured}
use Rattle.copies.proofs.Cards.{walkable_replica}
use Rattle.idle.specs.Clauses.{NoneBefore}
use Rattle.idle.proofs.Twins.{none_before_one, none_before_more, pair_found}
use Rattle.idle_search.proofs.find_pair.Goals as goal

-- the copies are few, so they are counted whole
counted : (numbers : List ℕ) (strides : List ℤ) → Admits numbers strides → (get_or numbers 46 0 ≡ size (iters_of numbers strides 1)) × (size (iters_of numbers strides 1) ≤ most_copies)
counted numbers strides w = ((measured numbers strides w).copies_are, (sized (card_of numbers strides) w.admitted).most_copies_lem)

few : (numbers : List ℕ) (strides : List ℤ) → Admits numbers strides → (b : ℕ) → b < get_or numbers 46 0 → b < 64
few numbers strides w b h = let n = counted numbers strides w in omega (arith, n.0, n.1)

pub returns-then-copies-lt2 : goal.returns-then-copies-lt2
returns-then-copies-lt2 c = λ x y less below. absurd (omega (arith, (counted c.args.numbers.now c.args.strides.now c.requires).0, c.if-copies-lt2.true))

pub loop-b-init : goal.loop-b-init
loop-b-init c =
    let replica = iters_of c.args.numbers.now c.args.strides.now 1 in record {
      keyed = c.put_first_key.ensures replica;
      none = none_before_one replica;
    }

pub put_key-requires : goal.put_key-requires
put_key-requires c =
    let a = c.args in
    let l = c.loop-b in
    (walkable_replica a.numbers.now a.strides.now c.requires, l.invariant.keyed, few a.numbers.now a.strides.now c.requires l.b (omega arith))

pub find_twin-a-requires : goal.find_twin-a-requires
find_twin-a-requires c =
    let a = c.args in
    (walkable_replica a.numbers.now a.strides.now c.requires, c.put_key.ensures, few a.numbers.now a.strides.now c.requires c.loop-b.b (omega arith))

pub returns-then-a-b : goal.returns-then-a-b
returns-then-a-b c =
    let a = c.args in
    let l = c.loop-b in
    pair_found (iters_of a.numbers.now a.strides.now 1) l.b c.find_twin-a.result (omega (arith, (counted a.numbers.now a.strides.now c.requires).0)) c.if-a-b.true
    c.find_twin-a.ensures l.invariant.none

pub loop-b-preserved : goal.loop-b-preserved
loop-b-preserved c =
    let l = c.loop-b in record {
      keyed = c.put_key.ensures;
      none =
          none_before_more (iters_of c.args.numbers.now c.args.strides.now 1) l.b c.find_twin-a.result (omega arith) c.find_twin-a.ensures l.invariant.none;
    }

pub returns : goal.returns
returns c =
    let a = c.args in
    let l = c.loop-b in
    let replica = iters_of a.numbers.now a.strides.now 1 in
    let end : l.b ≡ size replica = omega (arith, (counted a.numbers.now a.strides.now c.requires).0) in
    subst (NoneBefore replica) end l.invariant.none
