-- `book_unused::is_all_used` joins its tests: together they hold exactly when the block is that of what it holds.
use Prim.Native.Nat.{ℕ, ◌≤◌, ◌<◌}
use mathlib.Core.Path.{◌≡◌}
use native.Mathlib.Omega.{arith}
use borrow.Author.Rules.{rules}
use borrow.Author.Tests.{lt-leb}
use lib.ListN.{get_or}
use Rattle.book.specs.Block.{most_note}
use Rattle.book.specs.Book.{noted_in}
use Rattle.book_unused.proofs.Laws.{both, is_zero, used_is}
use Rattle.book_unused.proofs.is_all_used.Statement.{statement}
use Rattle.book_unused.proofs.is_all_used.Tie as tie

returns : tie.Need-returns-then-noted-gt-MOST_NOTE
returns c =
    let n = c in
    let block = n.args.block.now in
    let long : most_note < noted_in block = rw n.noted_in-noted.ensures.0 at c.if-noted-gt-MOST_NOTE.true in
    rw (lt-leb (noted_in block) most_note long)

returns_2 : tie.Need-returns
returns_2 c =
    let past = c in
    let shard_past = past in
    let replica = shard_past in
    let shard = replica in
    let second = shard in
    let first = second in
    let short = first in
    let n = short in
    let known = n in
    let s = known in
    let block = s.args.block.now in
    let few : noted_in block ≤ most_note = rw n.noted_in-noted.ensures.0 at short.if-noted-gt-MOST_NOTE.false in
    used_is block first.one-shard_count.result second.one-replica_count.result n.noted_in-noted.result (λ i. omega (arith, known.shared_slice_known-1.given i)) s.requires.0 s.requires.1 s.requires.2
    s.requires.3 first.one-shard_count.ensures.0 second.one-replica_count.ensures.0 n.noted_in-noted.ensures.0 few _
    (both (both (both (both (both (is_zero (get_or block 5 0)) shard.are_ends.ensures) replica.are_ends-2.ensures) shard_past.are_zeros.ensures) past.are_zeros-2.ensures)
    c.are_zeros-3.ensures)

pub is_all_used_spec : {M : Type 1} → statement M
is_all_used_spec =
    tie.close
    (tie.spec (λ c κs. search rules) returns (λ c κs. search rules) (λ c κs. search rules) (λ c. search rules) (λ c κs. search rules) (λ c κs. search rules) (λ c. search rules)
    (λ c. search rules) (λ c κs. search rules) (λ c. search rules) (λ c. search rules) (λ c κs. search rules) (λ c. search rules) (λ c κs. search rules) returns_2)
