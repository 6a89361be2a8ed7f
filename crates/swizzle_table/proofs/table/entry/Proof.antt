-- `swizzle_table::table::entry` is the swizzle of a byte of the pattern: one test over the whole table, and the law that turns it into the rule at an entry.
use mathlib.Core.Path.{◌≡◌}
use mathlib.Core.Bool.{Bool, true}
use mathlib.Core.List.{List}
use Prim.Native.Nat.{ℕ, ◌<◌}
use native.Mathlib.Omega.{arith}
use borrow.Author.Rules.{rules}
use borrow.Author.Tests.{eqb-true}
use lib.Dec.{eqb}
use lib.ListN.{length, get_or}
use Rattle.laws.proofs.Table.{every, every_at}
use Rattle.swizzle.specs.Swizzle.{swizzled}
use Rattle.swizzle_table.proofs.table.entry.Statement.{statement}
use Rattle.swizzle_table.proofs.table.entry.Tie as tie

abbrev test : ℕ → ℕ → Bool
test i x = eqb x (swizzled 4 3 3 i)

at_entry : (table : List ℕ) → every test 0 table ≡ true → (i : ℕ) → i < length table → get_or table i 0 ≡ swizzled 4 3 3 i
at_entry table all i h = eqb-true (get_or table i 0) (swizzled 4 3 3 i) (every_at test table 0 all i h)

-- the search finds the table in what is to be shown, and computes its test
returns : tie.Need-returns
unfolding swizzled
returns c =
    let inside : c.args.byte < 1024 = c.requires in
    search at_entry

pub entry_spec : {M : Type 1} → statement M
entry_spec = tie.close (tie.spec (λ c. search rules) (λ c. search rules) returns)
