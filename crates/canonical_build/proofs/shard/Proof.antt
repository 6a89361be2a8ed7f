-- `canonical_build::shard` has the iters of the rule.
use mathlib.Core.Path.{◌≡◌}
use Prim.Native.Nat.{ℕ, ◌*◌, ◌/◌, ◌%◌, ◌^◌, ◌≤◌}
use native.Mathlib.Omega.{arith}
use borrow.Author.Rules.{rules}
use borrow.Author.Tests.{eq-eqb, ne_eqb}
use Rattle.swizzle.proofs.Widths.{bits_positive}
use Rattle.canonical_build.specs.Clauses.{longest, StridesShort}
use Rattle.canonical_build.proofs.Laws.{T_few, pieces_few, wide_short}
use Rattle.canonical_build.proofs.shard.Statement.{statement}
use Rattle.canonical_build.proofs.shard.Tie as tie

-- the width as the code has it
wide : (c : tie.Start) → (1 * 2 ^ c.args.a.mode % 2 ^ 64) * (128 / c.args.a.bits) ≤ 256
wide c = rw (pieces_few c.args.a.mode c.requires.its_mode) (wide_short c.args.a.bits c.args.a.mode c.requires.its_bits c.requires.its_mode)

mul_wide : tie.Need-overflow_mul-wide
mul_wide c = omega (arith, wide c.before.before)

short : (s : tie.Start) (rows columns : ℕ) → rows ≤ longest → columns ≤ longest
    → StridesShort s.args.a.k (128 / s.args.a.bits) ((1 * 2 ^ s.args.a.mode % 2 ^ 64) * (128 / s.args.a.bits)) rows columns
short s rows columns r c =
    record {
      few = s.requires.few_columns;
      short_T = omega (arith, T_few s.args.a.bits s.requires.its_bits);
      short_wide = omega (arith, wide s);
      short_rows = r;
      short_columns = c;
    }

k_shard_requires : tie.Need-k_shard-requires
k_shard_requires c κs =
    let o = c in
    let r = o in
    short r.before.before.before.before.before.before r.across_rows-rows.result o.across_columns-columns.result r.across_rows-rows.ensures.1 o.across_columns-columns.ensures.1

mn_shard_requires : tie.Need-mn_shard-requires
mn_shard_requires c κs =
    let o = c in
    let r = o in
    short r.before.before.before.before.before.before r.across_rows-rows.result o.across_columns-columns.result r.across_rows-rows.ensures.1 o.across_columns-columns.ensures.1

returns : tie.Need-returns-then-a-eq0
returns c =
    let o = c in
    let r = o in
    let s = r in
    let is_k = eq-eqb s.args.a.major 0 c.if-a-eq0.true in
    rw is_k (rw (pieces_few s.args.a.mode s.requires.its_mode, r.across_rows-rows.ensures.0, o.across_columns-columns.ensures.0, is_k) at c.k_shard.ensures)

returns_2 : tie.Need-returns-else-a-eq0
returns_2 c =
    let o = c in
    let r = o in
    let s = r in
    let isMN = ne_eqb s.args.a.major 0 c.if-a-eq0.false in
    rw isMN (rw (pieces_few s.args.a.mode s.requires.its_mode, r.across_rows-rows.ensures.0, o.across_columns-columns.ensures.0, isMN) at c.mn_shard.ensures)

pub shard_spec : {M : Type 1} → statement M
shard_spec = tie.close (tie.spec (λ c. bits_positive c.args.a.bits c.requires.its_bits) (λ c. search rules) mul_wide (λ c κs. search rules) (λ c κs. search rules) k_shard_requires mn_shard_requires returns returns_2)
