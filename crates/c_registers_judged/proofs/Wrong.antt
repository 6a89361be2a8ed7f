-- A move that is not refused is of a kind with values. By cases on the tests.
use mathlib.Core.Path.{◌≡◌, refl}
use mathlib.Core.Bool.{Bool, true, false}
use mathlib.Core.List.{List}
use Prim.Native.Nat.{ℕ, ◌<◌}
use native.Mathlib.Omega.{arith}
use borrow.Author.Tests.{ltb-true}
use lib.Dec.{ltb}
use Rattle.answers.specs.Refusals.{no_refusal}
use Rattle.laws.proofs.Rungs.{apart}
use Rattle.values.specs.declared.Register.{Register}
use Rattle.values.specs.Registers.{is_matrix, deal_answer}
use Rattle.dealing.proofs.Wrong.{matrix_kind}
use Rattle.values.specs.Holdings.{deal_holdings_answer}

module _ (kind c : ℕ) (tile : List (List Register)) where
  pub dealt_kind : deal_answer kind c tile ≡ no_refusal → 4 < kind
  dealt_kind = by (is_matrix kind c) refl
    where
      by : (b : Bool) → is_matrix kind c ≡ b → deal_answer kind c tile ≡ no_refusal → 4 < kind
      by true e d = matrix_kind kind c e
      by false e d = let told = rw e at d in absurd (apart (cc))

  pub dealt_holdings_kind : deal_holdings_answer kind c tile ≡ no_refusal → 4 < kind
  dealt_holdings_kind = by (ltb 5 kind) refl
    where
      by : (b : Bool) → ltb 5 kind ≡ b → deal_holdings_answer kind c tile ≡ no_refusal → 4 < kind
      by true e d = omega (arith, ltb-true 5 kind e)
      by false e d = let told = rw e at d in absurd (apart (cc))
