-- `swizzle_table::place_of_byte` is the swizzle of any byte: the pattern repeats from block to block, and an entry stays in its row of 128.
use mathlib.Core.Path.{ap, ◌∙◌}
use Prim.Native.Nat.{ℕ, ◌/◌}
use native.Mathlib.Omega.{arith}
use borrow.Author.Rules.{rules}
use Rattle.swizzle.proofs.Laws.{swizzled_block}
use Rattle.swizzle_table.proofs.Laws.{pattern_repeats}
use Rattle.swizzle_table.proofs.place_of_byte.Statement.{statement}
use Rattle.swizzle_table.proofs.place_of_byte.Tie as tie

add_result : tie.Need-overflow_add-result
add_result c = omega (arith, ap (λ (z : ℕ). z / 128) c.entry.ensures ∙ swizzled_block 4 3 3 _)

returns : tie.Need-returns
returns c = omega (arith, c.entry.ensures, pattern_repeats c.args.byte)

pub place_of_byte_spec : {M : Type 1} → statement M
place_of_byte_spec = tie.close (tie.spec (λ c. search rules) (λ c κs. search rules) (λ c. search rules) add_result returns)
