-- `claiming_turns::run_from` looks for the last extent that is not 1: all iters passed have extent 1.
use Rattle.std.proofs.Common.{arith, ◌≡◌, ◌∙◌, ◌-◌, ◌≤◌, ◌<◌, ℕ, suc, List, sym, subst, length, get_or, drop}
use lib.IntN.{ℤ}
use Rattle.rules_linear.specs.Runs.{run_length}
use Rattle.claiming_turns.specs.Turns.{shard_iters, iter_extents, size_from}
use Rattle.claiming_turns.proofs.Ways.{iters_count, extent_at}
use Rattle.claiming_turns.proofs.Slow.{all_ones, ones_more, slower_run}
use Rattle.claiming_turns.proofs.run_from.Goals as goal

-- the iter that a turn passes
module _ (numbers : List ℕ) (strides : List ℤ) (few : get_or numbers 40 0 ≤ 8) (k : ℕ) (some : 0 < k) (most : k ≤ get_or numbers 40 0) where
  below : k - 1 < length (shard_iters numbers strides)
  below = omega (arith, iters_count numbers strides few)

  before_it : (run_length (drop k (shard_iters numbers strides)) ≡ 1) × (size_from k (shard_iters numbers strides) ≡ 1)
      → (run_length (drop (suc (k - 1)) (shard_iters numbers strides)) ≡ 1) × (size_from (suc (k - 1)) (shard_iters numbers strides) ≡ 1)
  before_it ones =
      let same : k ≡ suc (k - 1) = omega arith in
      subst (λ (n : ℕ). (run_length (drop n (shard_iters numbers strides)) ≡ 1) × (size_from n (shard_iters numbers strides) ≡ 1)) same ones

  extent_is : get_or (iter_extents (shard_iters numbers strides)) (k - 1) 0 ≡ get_or numbers (k - 1) 0
  extent_is = extent_at numbers strides (k - 1) few (omega arith)

pub loop-k-init : goal.loop-k-init
loop-k-init c strides =
    let numbers = c.args.numbers.now in all_ones (shard_iters numbers strides) (get_or numbers 40 0) (omega (arith, iters_count numbers strides c.requires.few))

pub returns-then-numbers-k-ne1 : goal.returns-then-numbers-k-ne1
returns-then-numbers-k-ne1 c strides =
    let numbers = c.args.numbers.now in
    let k = c.loop-k.k in
    slower_run (shard_iters numbers strides) (k - 1) (below numbers strides c.requires.few k (omega arith) (omega arith))
    (before_it numbers strides c.requires.few k (omega arith) (omega arith) (c.loop-k.invariant strides))
    (λ e. omega (arith, sym (extent_is numbers strides c.requires.few k (omega arith) (omega arith)) ∙ e))

pub loop-k-preserved : goal.loop-k-preserved
loop-k-preserved c strides =
    let numbers = c.args.numbers.now in
    let k = c.loop-k.k in
    ones_more (shard_iters numbers strides) (k - 1) (below numbers strides c.requires.few k (omega arith) (omega arith))
    (before_it numbers strides c.requires.few k (omega arith) (omega arith) (c.loop-k.invariant strides))
    (omega (arith, extent_is numbers strides c.requires.few k (omega arith) (omega arith)))

pub returns : goal.returns
returns c strides =
    let end : c.loop-k.k ≡ 0 = omega arith in
    let all = rw end at (c.loop-k.invariant strides) in
    record { most = omega arith; a_run = all.1 ∙ sym all.0 }
