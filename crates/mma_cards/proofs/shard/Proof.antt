-- `mma_cards::shard` pushes the iters of the matrix, then of the row, then of the column.
use native.Mathlib.Omega.{arith}
use borrow.Author.Rules.{rules}
use mathlib.Core.Path.{◌≡◌, ap, subst, sym}
use mathlib.Core.List.{[], ◌∷◌}
use Prim.Native.Nat.{ℕ, ◌*◌, ◌≤◌}
use Rattle.card.specs.declared.Iters.{Iters}
use Rattle.fragment_layouts.specs.Layouts.{register}
use Rattle.mma_cards.specs.Clauses.{Follows}
use Rattle.mma_cards.proofs.Pushed.{shard_turned, shard_straight}
use Rattle.mma_cards.proofs.shard.Statement.{statement}
use Rattle.mma_cards.proofs.shard.Tie as tie

few : (c : tie.After-push-matrix) → c.push-matrix.result.count ≤ 1
few c =
    let none = ap (λ (i : Iters). i.count) c.empty.ensures in
    omega (arith, none, c.push-matrix.ensures.0)

first : (c : tie.After-push-matrix)
    → Follows c.empty.result c.push-matrix.result (register c.args.f.matrices (c.args.f.repeats * (c.args.f.halves * c.args.f.next)) ∷ [])
first c =
    subst (λ (n : ℕ). Follows c.empty.result c.push-matrix.result (register c.args.f.matrices n ∷ []))
    c.requires.1.2 c.push-matrix.ensures.1

returns : tie.Need-returns-then-f
returns c =
    shard_turned c.args.f _ _ _ c.empty.result c.empty.ensures c.if-f.true (first c.before.before.before) c.push_across.ensures.1 c.push_down.ensures.1

returns_2 : tie.Need-returns
returns_2 c =
    shard_straight c.args.f _ _ _ c.empty.result c.empty.ensures c.if-f.false (first c.before.before.before) c.push_down-2.ensures.1 c.push_across-2.ensures.1

pub shard_spec : {M : Type 1} → statement M
shard_spec =
    tie.close
    (tie.spec (λ c κs. search rules)
    (λ c κs. let none = ap (λ (i : Iters). i.count) c.empty.ensures in (omega (arith, none), omega (arith, c.requires.1.3)))
    (λ c κs. let s = c.requires in (s.0, (omega (arith, few c.before), s.1.0, s.1.1)))
    (λ c κs. (c.requires.0, omega (arith, few c.before.before, c.push_across.ensures.0)))
    returns
    (λ c κs. (c.requires.0, omega (arith, few c.before)))
    (λ c κs. let s = c.requires in (s.0, (omega (arith, few c.before.before, c.push_down-2.ensures.0), s.1.0, s.1.1)))
    returns_2)
