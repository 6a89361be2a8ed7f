-- `fragment::computations` is the list of the kinds' computations: past its end stands 0.
use mathlib.Core.Path.{◌≡◌, sym}
use mathlib.Core.List.{[], ◌∷◌}
use Prim.Native.Nat.{ℕ, ◌≤◌}
use borrow.Author.Rules.{rules}
use lib.ListN.{get_or-eq_default}
use Rattle.fragment.specs.Kinds.{computations}
use Rattle.fragment.proofs.computations.Statement.{statement}
use Rattle.fragment.proofs.computations.Tie as tie

of_unknown : (kind : ℕ) → 9 ≤ kind → computations kind ≡ 0
unfolding computations
of_unknown kind h = get_or-eq_default (4 ∷ 4 ∷ 4 ∷ 4 ∷ 4 ∷ 4 ∷ 1 ∷ 1 ∷ 1 ∷ []) 0 h

pub computations_spec : {M : Type 1} → statement M
unfolding computations
computations_spec =
    tie.close (tie.spec (λ c. search rules) (λ c. search rules) (λ c. search rules) (λ c. sym (of_unknown c.args.kind c.if-kind-lt-KINDS.false)))
