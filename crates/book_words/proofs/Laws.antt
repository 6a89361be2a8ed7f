-- A list filled place by place.
use Prim.Native.Nat.{ℕ, ◌+◌, ◌<◌}
use mathlib.Core.Path.{◌≡◌, ◌∙◌}
use mathlib.Core.List.{List}
use native.Mathlib.Omega.{arith}
use native.Mathlib.Decide.{ℕ_discrete}
use lib.ListN.{length, get_or, set}
use lib.Seq.{get_or-set_same, get_or-set_other}

-- a list filled place by place: one more
pub filled_more : {A : Type 0} (f : ℕ → A) (other : A) (l : List A) (k : ℕ) (v : A) → k < length l → v ≡ f k → ((j : ℕ) → j < k → get_or l j other ≡ f j)
    → (j : ℕ) → j < k + 1 → get_or (set l k v) j other ≡ f j
filled_more f other l k v room e before j h =
    elim (ℕ_discrete j k) [
      | yes same ↦ rw same (get_or-set_same l k v other room ∙ e)
      | no apart ↦ get_or-set_other l k j v other apart ∙ before j (omega arith)
    ]
