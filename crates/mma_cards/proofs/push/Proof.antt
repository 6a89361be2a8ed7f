-- `mma_cards::push` writes the first empty slot, or nothing.
use mathlib.Core.Path.{sym, ap, subst}
use mathlib.Core.List.{[], ◌∷◌}
use Prim.Native.Nat.{◌+◌}
use lib.ListN.{set}
use native.Mathlib.Omega.{arith}
use borrow.Author.Rules.{rules}
use lib.IntN.{pos}
use Rattle.card.specs.declared.Iter.{Iter}
use Rattle.mma_cards.specs.Clauses.{Follows}
use Rattle.mma_cards.proofs.Pushed.{follows_one, follows_none}
use Rattle.mma_cards.proofs.push.Statement.{statement}
use Rattle.mma_cards.proofs.push.Tie as tie

pub push_spec : {M : Type 1} → statement M
push_spec =
    tie.close (tie.spec (λ c.
    let a = c.args in
    (omega arith, follows_none a.iters (record { extent = a.extent; stride = pos a.stride; axis = a.axis }) (omega arith))) (λ c κs. search rules) (λ c. search rules) (λ c. search rules) (λ c. search rules) (λ c.
    let a = c.args in
    let x : Iter = record { extent = a.extent; stride = pos a.stride; axis = a.axis } in (
      omega arith,
      subst (λ (y : Iter). Follows a.iters (record { at = set a.iters.at a.iters.count y; count = a.iters.count + 1 }) (x ∷ []))
          (sym c.iter.ensures) (follows_one a.iters x (λ e. omega arith)),
    )))
