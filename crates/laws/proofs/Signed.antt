-- Whole numbers: how far from zero a sum and a product lie, and when a number fits a signed word.
use mathlib.Core.Path.{◌≡◌, refl, ap, ◌∙◌}
use mathlib.Core.Bool.{Bool, true, false, cond, and-eq-true_iff, ◌&&◌}
use Prim.Native.Nat.{ℕ, zero, suc, ◌+◌, ◌*◌, ◌-◌, ◌^◌, ◌≤◌, ◌<◌}
use native.Mathlib.Nat.{le_refl}
use native.Mathlib.Omega.{arith}
use borrow.Author.Tests.{ltb-true, leb-true}
use lib.Dec.{ltb, leb}
use lib.IntN.{ℤ, pos, negsuc, neg_ℤ, nat_abs, sub_ℕ, ◌+ℤ◌, ◌*ℤ◌, +ℤ_assoc, +ℤ_comm}
use lib.Signed.{mag, le_z}
use mir.Syntax.{w64}
use mir.Val.{SFits}

negated : (n : ℕ) → nat_abs (neg_ℤ (pos n)) ≡ n
negated zero = refl
negated (suc n) = refl

sub_far : (a b : ℕ) → nat_abs (sub_ℕ a b) ≤ a + b
sub_far a b = split (ltb a b) refl
  where
    split : (c : Bool) → ltb a b ≡ c → nat_abs (cond c (negsuc (b - suc a)) (pos (a - b))) ≤ a + b
    split true t = let h = ltb-true a b t in omega arith
    split false t = omega arith

-- a sum is no further from zero than its parts together
pub sum_far : (x y : ℤ) → nat_abs (x +ℤ y) ≤ nat_abs x + nat_abs y
sum_far (pos a) (pos b) = le_refl (a + b)
sum_far (pos a) (negsuc b) = sub_far a (suc b)
sum_far (negsuc a) (pos b) = let h = sub_far b (suc a) in omega arith
sum_far (negsuc a) (negsuc b) = omega arith

-- a number of times as far
pub times_far : (n : ℕ) (x : ℤ) → nat_abs (pos n *ℤ x) ≡ n * nat_abs x
times_far n (pos b) = refl
times_far n (negsuc b) = negated (n * suc b)

-- less than half the words from zero is a signed word
pub far_fits : {x : ℤ} → nat_abs x < 2 ^ 63 → SFits w64 x
far_fits {x} h = record { sfits = near x h }
  where
    near : (x : ℤ) → nat_abs x < 2 ^ 63 → mag x < 2 ^ 63
    near (pos n) h = h
    near (negsuc n) h = omega arith

-- between a number below zero and one above
pub between_far : (most : ℕ) (x : ℤ) → (le_z (neg_ℤ (pos (suc most))) x && le_z x (pos most)) ≡ true → nat_abs x ≤ suc most
between_far most (pos n) t = let h = leb-true n most t in omega arith
between_far most (negsuc n) t = let h = leb-true n most ((and-eq-true_iff (leb n most) true).0 t).0 in omega arith

-- one more in front of what is added
pub add_in_front : (a b c : ℤ) → a +ℤ b +ℤ c ≡ a +ℤ (c +ℤ b)
add_in_front a b c = +ℤ_assoc a b c ∙ ap (λ (s : ℤ). a +ℤ s) (+ℤ_comm b c)
