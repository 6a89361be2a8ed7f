-- `storing::read_block` goes down the ladder of a read.
use Prim.Native.Nat.{ℕ, ◌≤◌, ◌<◌}
use mathlib.Core.Path.{◌≡◌, refl, sym, ap, ◌∙◌}
use mathlib.Core.Bool.{Bool, true, false, ◌&&◌}
use borrow.Author.Tests.{lt-ltb, le-ltb, not-true, not-false}
use lib.Dec.{leb, ltb}
use lib.ListN.{length}
use Rattle.answers.specs.declared.Refusal.TheVariants.{Counts, TooShort, WrongCheck, Unused}
use Rattle.card.specs.Admission.{counts_fit}
use Rattle.book.specs.Bytes.{field}
use Rattle.book.specs.Block.{block_length}
use Rattle.book.specs.Book.{card_in, check_right}
use Rattle.book.proofs.Theorems.{at_eleven, at_nineteen, at_one, at_twenty, answered}
use Rattle.storing.proofs.Laws.{page_refused, page_done, counts_in, few_in}
use native.Mathlib.Omega.{arith}
use borrow.Author.Rules.{rules}
use Rattle.storing.proofs.read_block.Statement.{statement}
use Rattle.storing.proofs.read_block.Tie as tie

-- long enough
enough : (c : tie.Else-block-lt-BLOCK) → ltb (length c.args.block.now) block_length ≡ false
enough c = le-ltb _ _ c.if-block-lt-BLOCK.false

right : (c : tie.Else-not-is_check_right) → check_right c.args.block.now ≡ true
right c = sym c.is_check_right.ensures ∙ c.if-not-is_check_right.false

-- the counts, as they are tested
tested : (c : tie.After-one-replica_count) → let block = c.args.block.now in
    counts_fit (card_in block) ≡ (leb 1 c.one-shard_count.result && leb c.one-shard_count.result 8 && leb c.one-replica_count.result 4)
tested c = let block = c.args.block.now in rw (c.one-shard_count.ensures.0, c.one-replica_count.ensures.0) (counts_in block)

few : (c : tie.Else-not-shard_count-replica_count) → counts_fit (card_in c.args.block.now) ≡ true
few c = tested c.before ∙ c.if-not-shard_count-replica_count.false

-- the counts that the crates below ask for
counts : (c : tie.Else-not-shard_count-replica_count) → let block = c.args.block.now in (field 1 0 block ≤ 8) × (field 1 1 block ≤ 4)
counts c =
    let block = c.args.block.now in
    few_in (field 1 0 block) (field 1 1 block) (sym (counts_in block) ∙ few c)

returns : tie.Need-returns-then-block-lt-BLOCK
returns c =
    let t = c in
    let block = t.args.block.now in
    c.refused.ensures ∙ page_refused block (TooShort block_length) (at_eleven block (lt-ltb (length block) block_length t.if-block-lt-BLOCK.true))

returns_2 : tie.Need-returns-then-not-is_check_right
returns_2 c =
    let t = c in
    let r = t in
    let block = r.args.block.now in
    c.refused-then-not-is_check_right.ensures ∙ page_refused block WrongCheck (at_nineteen block (enough r.before.before.before) (sym r.is_check_right.ensures ∙ t.if-not-is_check_right.true))

returns_3 : tie.Need-returns-then-not-shard_count-replica_count
returns_3 c =
    let t = c in
    let e = t in
    let block = e.args.block.now in
    c.refused-then-not-shard_count-replica_count.ensures ∙ page_refused block Counts (at_one block (enough e.before.before.before.before.before.before) (right e.before.before.before.before) (tested t.before.before ∙ t.if-not-shard_count-replica_count.true))

is_all_used_requires : tie.Need-is_all_used-requires
is_all_used_requires c κs =
    let few-both = counts c in
    (c.if-block-lt-BLOCK.false, right c.before.before.before, few-both.0, few-both.1)

returns_4 : tie.Need-returns-then-not-is_all_used
returns_4 c =
    let t = c in
    let u = t in
    let f = u in
    let e = f in
    let block = e.args.block.now in
    c.refused-then-not-is_all_used.ensures ∙ page_refused block Unused (at_twenty block (enough e.before.before.before.before.before.before.before.before) (right e.before.before.before.before.before.before) (few f.before.before.before) (sym u.is_all_used.ensures ∙ t.if-not-is_all_used.true))

card_in_requires : tie.Need-card_in-card-requires
card_in_requires c κs =
    let f = c in
    let few-both = counts f.before.before in
    (omega (arith, f.if-block-lt-BLOCK.false), few-both.0, few-both.1)

returns_5 : tie.Need-returns
returns_5 c =
    let t = c in
    let u = t in
    let f = u in
    let e = f in
    let block = e.args.block.now in
    rw c.card_in-card.ensures (page_done block (answered block (enough e.before.before.before.before.before.before.before.before) (right e.before.before.before.before.before.before) (few f.before.before.before) (sym u.is_all_used.ensures ∙ t.if-not-is_all_used.false)))

pub read_block_spec : {M : Type 1} → statement M
read_block_spec = tie.close (tie.spec (λ c κs. search rules) returns (λ c κs. search rules) (λ c κs. search rules) returns_2 (λ c κs. search rules) (λ c κs. search rules) (λ c κs. search rules) returns_3 is_all_used_requires (λ c κs. search rules) returns_4 card_in_requires returns_5)
