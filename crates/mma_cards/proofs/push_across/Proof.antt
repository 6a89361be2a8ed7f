-- `mma_cards::push_across` pushes three iters.
use native.Mathlib.Omega.{arith}
use borrow.Author.Rules.{rules}
use mathlib.Core.Path.{ap, subst, sym}
use mathlib.Core.List.{[], ◌∷◌}
use Prim.Native.Nat.{ℕ, ◌*◌}
use Rattle.fragment_layouts.specs.Layouts.{lane, register}
use Rattle.mma_cards.specs.Clauses.{Follows}
use Rattle.mma_cards.proofs.Pushed.{follows_more}
use Rattle.mma_cards.proofs.push_across.Statement.{statement}
use Rattle.mma_cards.proofs.push_across.Tie as tie

returns : tie.Need-returns
returns c =
    let f = c.args.f in
    let same = c.requires.1.1 in (
      omega (arith, c.push.ensures.0, c.push-two.ensures.0, c.push-one.ensures.0),
      follows_more _ _ _ (register f.repeats (f.halves * f.next) ∷ []) (lane 4 1 ∷ register f.next 1 ∷ [])
          (subst (λ (n : ℕ). Follows c.args.iters c.push-one.result (register f.repeats n ∷ [])) same c.push-one.ensures.1)
          (follows_more _ _ _ (lane 4 1 ∷ []) (register f.next 1 ∷ []) c.push-two.ensures.1 c.push.ensures.1),
    )

pub push_across_spec : {M : Type 1} → statement M
push_across_spec =
    tie.close
    (tie.spec (λ c κs. let s = c.requires in (omega (arith, s.1.0), omega (arith, s.1.2)))
    (λ c κs. let s = c.requires in (omega (arith, c.push-one.ensures.0, s.1.0), omega arith))
    (λ c κs. let s = c.requires in (omega (arith, c.push-two.ensures.0, c.push-one.ensures.0, s.1.0), omega arith))
    returns)
