-- `plans_pair::open_pair` is the ladder: the space, the two tables, and then both verdicts.
use mathlib.Core.Path.{◌≡◌, sym, ap₂, ◌∙◌}
use mathlib.Core.Bool.{Bool, true, false, ◌&&◌, ◌||◌, and-eq-true_iff}
use Prim.Native.Nat.{ℕ, ◌≤◌}
use native.Mathlib.Omega.{arith}
use lib.ListN.{length}
use lib.Dec.{ltb}
use borrow.Author.Tests.{not-true, not-false, ltb-false}
use Rattle.card.specs.Card.{cells}
use Rattle.card.specs.Admission.{space_fits}
use Rattle.card.specs.Lists.{same}
use Rattle.plans_judged.specs.Pair.{one_space}
use Rattle.plans_judged.proofs.Theorems.{neither}
use Rattle.plans_pair.proofs.Openings.{cells_whole, no_space, no_room}
use borrow.Author.Rules.{rules}
use Rattle.plans_pair.proofs.open_pair.Statement.{statement}
use Rattle.plans_pair.proofs.open_pair.Tie as tie

eight : (s : tie.Start) → length s.args.one.lengths ≡ 8
eight s = search rules

abbrev start : tie.Else-not-same_lengths-space_fits → tie.Start
start c = c.before.before.before.before.before.before.before

-- one space
space : (c : tie.Else-not-same_lengths-space_fits) → one_space (start c).args.one.lengths (start c).args.two.lengths ≡ true
space c =
    sym (ap₂ (λ (a b : Bool). a && b) c.same_lengths.ensures c.space_fits.ensures) ∙ c.if-not-same_lengths-space_fits.false

-- the cells
cells_are : (c : tie.After-product-cells) → c.product-cells.result ≡ cells (start c.before).args.one
cells_are c =
    let s = start c.before in
    cells_whole s.args.one.lengths c.product-cells.result (eight s)
    ((and-eq-true_iff (same s.args.one.lengths s.args.two.lengths) (space_fits s.args.one.lengths)).0 (space c.before)).1
    c.product-cells.ensures

returns : tie.Need-returns-then-not-same_lengths-space_fits
returns c =
    let s = c in
    no_space s.args.one s.args.two s.args.first.now s.args.second.now
    (sym (ap₂ (λ (a b : Bool). a && b) c.same_lengths.ensures c.space_fits.ensures) ∙ c.if-not-same_lengths-space_fits.true)

returns_2 : tie.Need-returns-then-is_one_short
returns_2 c =
    let p = c in
    let s = start p.before.before.before in
    no_room s.args.one s.args.two s.args.first.now s.args.second.now (space p.before.before.before) (cells_are p.before.before)
    (sym c.is_one_short.ensures ∙ c.if-is_one_short.true)

settle_both_requires : tie.Need-settle_both-requires
settle_both_requires c κs =
    let k = c in
    let p = k in
    let s = start p.before.before.before.before.before in
    let enough =
    neither (ltb (length s.args.first.now) p.product-cells.result) (ltb (length s.args.second.now) p.product-cells.result)
    (sym k.is_one_short.ensures ∙ k.if-is_one_short.false) in
    (space p.before.before.before.before.before, (cells_are p.before.before.before.before, ltb-false _ _ enough.0, ltb-false _ _ enough.1))

pub open_pair_spec : {M : Type 1} → statement M
open_pair_spec =
    tie.close
    (tie.spec (λ c κs. search rules) (λ c κs. search rules) returns (λ c κs. search rules) (λ c κs. search rules) returns_2 settle_both_requires
    (λ c. search rules) (λ c. search rules) (λ c. search rules))
