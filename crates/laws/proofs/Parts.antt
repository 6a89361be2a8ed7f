-- Whole numbers as two parts, how far above zero and how far below, of which one is 0: what sums, products and the order say of the parts. `omega whole` then
-- reads and proves the order of whole numbers; of each sum in sight it wants `parts_sum`, of each product `parts_times`.
use mathlib.Core.Path.{◌≡◌, refl, sym, ap, ◌∙◌}
use mathlib.Core.Bool.{Bool, true, false, cond, false≢true}
use Prim.Native.Nat.{ℕ, zero, suc, ◌+◌, ◌*◌, ◌-◌, ◌≤◌, ◌<◌}
use native.Mathlib.Nat.{mul-zero}
use native.Mathlib.Omega.{arith}
use lib.Dec.{T, ltb, leb→le, le→leb, ltb→lt, lt→ltb}
use lib.IntN.{ℤ, pos, negsuc, neg_ℤ, sub_ℕ, ◌+ℤ◌, ◌*ℤ◌}
use lib.Signed.{◌≤ℤ◌, ◌<ℤ◌, le_z, lt_z, le_z_yes, lt_z_yes, lt_z_no}
use borrow.Author.Tests.{ltb-true, ltb-false, leb-false}

abbrev pub up : ℤ → ℕ
up (pos n) = n
up (negsuc n) = 0

abbrev pub down : ℤ → ℕ
down (pos n) = 0
down (negsuc n) = suc n

parts_sub : (a b : ℕ) → up (sub_ℕ a b) + b ≡ down (sub_ℕ a b) + a
parts_sub a b = split (ltb a b) refl
  where
    split : (t : Bool) → ltb a b ≡ t → up (cond t (negsuc (b - suc a)) (pos (a - b))) + b ≡ down (cond t (negsuc (b - suc a)) (pos (a - b))) + a
    split true e = omega (arith, ltb-true a b e)
    split false e = omega (arith, ltb-false a b e)

pub parts_sum : (a b : ℤ) → up (a +ℤ b) + (down a + down b) ≡ down (a +ℤ b) + (up a + up b)
parts_sum (pos a) (pos b) = omega arith
parts_sum (pos a) (negsuc b) = omega (arith, parts_sub a (suc b))
parts_sum (negsuc a) (pos b) = omega (arith, parts_sub b (suc a))
parts_sum (negsuc a) (negsuc b) = omega arith

pub parts_neg : (z : ℤ) → (up (neg_ℤ z) ≡ down z) × (down (neg_ℤ z) ≡ up z)
parts_neg (pos zero) = (refl, refl)
parts_neg (pos (suc n)) = (refl, refl)
parts_neg (negsuc n) = (refl, refl)

pub parts_times : (n : ℕ) (z : ℤ) → (up (pos n *ℤ z) ≡ n * up z) × (down (pos n *ℤ z) ≡ n * down z)
parts_times n (pos m) = (refl, sym (mul-zero n))
parts_times n (negsuc m) = ((parts_neg (pos (n * suc m))).0 ∙ sym (mul-zero n), (parts_neg (pos (n * suc m))).1)

pub parts_eq : (a b : ℤ) → up a + down b ≡ up b + down a → a ≡ b
parts_eq (pos a) (pos b) h = ap pos (omega arith)
parts_eq (pos a) (negsuc b) h = absurd (omega arith)
parts_eq (negsuc a) (pos b) h = absurd (omega arith)
parts_eq (negsuc a) (negsuc b) h = ap negsuc (omega arith)

pub eq_parts : {a b : ℤ} → a ≡ b → up a + down b ≡ up b + down a
eq_parts {a} {b} e = ap (λ (z : ℤ). up z + down b) e ∙ ap (λ (z : ℤ). up b + down z) (sym e)

pub parts_le : (a b : ℤ) → up a + down b ≤ up b + down a → a ≤ℤ b
parts_le (pos a) (pos b) h = le_z_yes (le→leb a b (omega arith))
parts_le (pos a) (negsuc b) h = absurd (omega arith)
parts_le (negsuc a) (pos b) h = le_z_yes tt
parts_le (negsuc a) (negsuc b) h = le_z_yes (le→leb b a (omega arith))

le_parts' : (a b : ℤ) → T (le_z a b) → up a + down b ≤ up b + down a
le_parts' (pos a) (pos b) t = omega (arith, leb→le a b t)
le_parts' (pos a) (negsuc b) t = absurd t
le_parts' (negsuc a) (pos b) t = omega arith
le_parts' (negsuc a) (negsuc b) t = omega (arith, leb→le b a t)

pub le_parts : {a b : ℤ} → a ≤ℤ b → up a + down b ≤ up b + down a
le_parts {a} {b} h = le_parts' a b h.le

pub parts_lt : (a b : ℤ) → up a + down b < up b + down a → a <ℤ b
parts_lt (pos a) (pos b) h = lt_z_yes (lt→ltb a b (omega arith))
parts_lt (pos a) (negsuc b) h = absurd (omega arith)
parts_lt (negsuc a) (pos b) h = lt_z_yes tt
parts_lt (negsuc a) (negsuc b) h = lt_z_yes (lt→ltb b a (omega arith))

lt_parts' : (a b : ℤ) → T (lt_z a b) → up a + down b < up b + down a
lt_parts' (pos a) (pos b) t = omega (arith, ltb→lt a b t)
lt_parts' (pos a) (negsuc b) t = absurd t
lt_parts' (negsuc a) (pos b) t = omega arith
lt_parts' (negsuc a) (negsuc b) t = omega (arith, ltb→lt b a t)

pub lt_parts : {a b : ℤ} → a <ℤ b → up a + down b < up b + down a
lt_parts {a} {b} h = lt_parts' a b h.lt

pub ruleset whole = (arith, le_parts, parts_le, lt_parts, parts_lt, eq_parts, parts_eq)

-- tests
pub le_z_true : (a b : ℤ) → le_z a b ≡ true → a ≤ℤ b
le_z_true a b e = le_z_yes (rw e tt)

pub lt_z_true : (a b : ℤ) → lt_z a b ≡ true → a <ℤ b
lt_z_true a b e = lt_z_yes (rw e tt)

pub le_z_false : (a b : ℤ) → le_z a b ≡ false → b <ℤ a
le_z_false (pos a) (pos b) e = lt_z_yes (lt→ltb b a (leb-false a b e))
le_z_false (pos a) (negsuc b) e = lt_z_yes tt
le_z_false (negsuc a) (pos b) e = absurd (false≢true (sym e))
le_z_false (negsuc a) (negsuc b) e = lt_z_yes (lt→ltb a b (leb-false b a e))

pub lt_z_false : (a b : ℤ) → lt_z a b ≡ false → b ≤ℤ a
lt_z_false a b e = lt_z_no (rw e tt)
