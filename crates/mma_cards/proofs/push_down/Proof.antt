-- `mma_cards::push_down` pushes three iters.
use native.Mathlib.Omega.{arith}
use borrow.Author.Rules.{rules}
use mathlib.Core.List.{[], ◌∷◌}
use Rattle.fragment_layouts.specs.Layouts.{lane, register}
use Rattle.mma_kinds.specs.Layouts.{warp}
use Rattle.mma_cards.proofs.Pushed.{follows_more}
use Rattle.mma_cards.proofs.push_down.Statement.{statement}
use Rattle.mma_cards.proofs.push_down.Tie as tie

returns : tie.Need-returns
returns c =
    let f = c.args.f in (
      omega (arith, c.push.ensures.0, c.push-two.ensures.0, c.push-one.ensures.0),
      follows_more _ _ _ (warp f.warps 1 ∷ []) (register f.halves f.next ∷ lane 8 4 ∷ []) c.push-one.ensures.1
          (follows_more _ _ _ (register f.halves f.next ∷ []) (lane 8 4 ∷ []) c.push-two.ensures.1 c.push.ensures.1),
    )

pub push_down_spec : {M : Type 1} → statement M
push_down_spec =
    tie.close
    (tie.spec (λ c κs. search rules)
    (λ c κs. let s = c.requires in (omega (arith, c.push-one.ensures.0, s.1), omega (arith, s.0.few_next)))
    (λ c κs. let s = c.requires in (omega (arith, c.push-two.ensures.0, c.push-one.ensures.0, s.1), omega arith))
    returns)
