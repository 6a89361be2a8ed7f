-- `fragment::accumulator::entry` is the rule of kind 5: one test over the whole table, and the law that turns it into the rule at an entry.
use mathlib.Core.Path.{◌≡◌, ap₂, ◌∙◌}
use mathlib.Core.Bool.{Bool, true}
use mathlib.Core.List.{List}
use Prim.Native.Nat.{ℕ, ◌+◌, ◌*◌, ◌/◌, ◌%◌, ◌<◌}
use native.Mathlib.Omega.{arith}
use borrow.Author.Rules.{rules}
use borrow.Author.Tests.{eqb-true}
use lib.Dec.{eqb}
use lib.ListN.{length, get_or}
use Rattle.laws.proofs.Table.{every, every_at}
use Rattle.fragment.specs.Kinds.{computation, place}
use Rattle.fragment.specs.Table.{packed}
use Rattle.fragment.proofs.accumulator.entry.Statement.{statement}
use Rattle.fragment.proofs.accumulator.entry.Tie as tie

-- entry k is that of lane k / 8 and register k % 8
abbrev rule : ℕ → ℕ
rule k = packed (place 5 (k / 8) (k % 8))

abbrev test : ℕ → ℕ → Bool
test k x = eqb x (rule k)

at_entry : (table : List ℕ) → every test 0 table ≡ true → (lane i : ℕ) → 8 * lane + i < length table → i < 8 → get_or table (8 * lane + i) 0 ≡ packed (place 5 lane i)
at_entry table all lane i h small =
    let k : ℕ = 8 * lane + i in
    let same-lane : k / 8 ≡ lane = omega arith in
    let same-register : k % 8 ≡ i = omega arith in
    eqb-true (get_or table k 0) (rule k) (every_at test table 0 all k h)
    ∙ ap₂ (λ (l j : ℕ). packed (place 5 l j)) same-lane same-register

-- the search finds the table in what is to be shown, and computes its test
returns : tie.Need-returns
unfolding computation place
returns c =
    let small : c.args.i < 8 = c.requires.1 in
    let inside : 8 * c.args.lane + c.args.i < 256 = omega arith in
    search at_entry

pub entry_spec : {M : Type 1} → statement M
entry_spec = tie.close (tie.spec (λ c. search rules) (λ c. search rules) (λ c. search rules) (λ c. search rules) returns)
