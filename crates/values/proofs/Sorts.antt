-- The first value of the wrong sort: what the search over the registers comes to, and what it means in plain for-alls.
use Rattle.std.specs.Prelude.{Result, ⊤, Err, Ok}
use mathlib.Core.Path.{◌≡◌, refl, ap, ◌∙◌}
use mathlib.Core.Bool.{Bool, true, false, cond, not, ◌&&◌}
use mathlib.Core.List.{List, []}
use Prim.Native.Nat.{ℕ, ◌/◌, ◌%◌, ◌<◌}
use borrow.Author.Tests.{lt-ltb}
use lib.Dec.{ltb}
use lib.ListN.{length, replicate, length-replicate, get_or-replicate}
use Rattle.answers.specs.Refusals.{no_refusal}
use Rattle.answers.specs.declared.Refusal.{Refusal}
use Rattle.fragment.specs.Kinds.{place}
use Rattle.answers.specs.declared.Refusal.TheVariants.{Fragment}
use Rattle.values.specs.declared.Register.{Register}
use Rattle.values.specs.declared.Register.TheVariants.{Empty}
use Rattle.values.specs.Rows.{entry}
use Rattle.values.specs.Values.{is_own, in_tile, dealt}
use Rattle.values.specs.Registers.{is_of_sort, is_wrong, judged}
use Rattle.values.proofs.First.{NoneBefore, is_first, none_passes, same_first}
use Rattle.values.proofs.Theorems.{AreLanes, dealt_own}

-- what is answered where the search ends at n
abbrev at : ℕ → Result ⊤ Refusal
at n = cond (ltb n 256) (Err (Fragment (n / 8) (n % 8))) no_refusal

module _ (kind c : ℕ) where
  pub judged_at : (value : ℕ → ℕ → Register) (n : ℕ) → n < 256 → NoneBefore (is_wrong kind c value) n → is_wrong kind c value n ≡ true
      → judged kind c value ≡ Err (Fragment (n / 8) (n % 8))
  unfolding judged
  judged_at value n h none e = ap at (is_first (is_wrong kind c value) 256 n h none e) ∙ rw (lt-ltb n 256 h)

  pub judged_done : (value : ℕ → ℕ → Register) → NoneBefore (is_wrong kind c value) 256 → judged kind c value ≡ no_refusal
  unfolding judged
  judged_done value none = ap at (none_passes (is_wrong kind c value) 256 none)

  -- only the values of the computation's own registers count
  pub judged_same : (value other : ℕ → ℕ → Register) → ((lane i : ℕ) → is_own kind c lane i ≡ true → value lane i ≡ other lane i)
      → judged kind c value ≡ judged kind c other
  unfolding judged
  judged_same value other same =
      ap at (same_first (is_wrong kind c value) (is_wrong kind c other) 256 (λ k h. wrong (is_own kind c (k / 8) (k % 8)) (same (k / 8) (k % 8))))
    where
      wrong : (b : Bool) {x y : Register} → (b ≡ true → x ≡ y) → (b && not (is_of_sort kind x)) ≡ (b && not (is_of_sort kind y))
      wrong true e = ap (λ (r : Register). not (is_of_sort kind r)) (e refl)
      wrong false e = refl

  -- what was dealt is judged as it is to be dealt
  pub judged_dealt : (tile lanes : List (List Register)) → AreLanes lanes
      → judged kind c (entry Empty (dealt Empty kind c tile lanes)) ≡ judged kind c (λ lane i. in_tile Empty tile (place kind lane i))
  judged_dealt tile lanes l =
      judged_same (entry Empty (dealt Empty kind c tile lanes)) (λ lane i. in_tile Empty tile (place kind lane i))
      (λ lane i e. dealt_own Empty kind c tile lanes lane i l e)

-- lanes whose registers are all alike
pub lanes_alike : {A : Type 0} (x : A) → AreLanes (replicate 32 (replicate 8 x))
lanes_alike {A} x = record {
  of_rows = length-replicate 32 (replicate 8 x);
  of_columns = λ r h. ap length (get_or-replicate 32 r (replicate 8 x) [] h) ∙ length-replicate 8 x;
}
