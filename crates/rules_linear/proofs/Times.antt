-- Times a natural number, over whole numbers: a sum, a number more, so many steps from where one began, and what a component moves.
use mathlib.Core.Path.{◌≡◌, refl, sym, ap, ap₂, ◌∙◌}
use mathlib.Core.Bool.{Bool, true, false, cond}
use Prim.Native.Nat.{ℕ, ◌+◌, ◌*◌}
use native.Mathlib.Omega.{arith}
use native.Mathlib.Nat.{mul-add, add-mul}
use lib.IntN.{ℤ, pos, ◌+ℤ◌, ◌*ℤ◌, +ℤ_idl, +ℤ_idr, +ℤ_assoc, zero-*ℤ, *ℤ-zero}
use Rattle.laws.proofs.Parts.{whole, up, down, parts_sum, parts_times}

pub times_sum : (n : ℕ) (a b : ℤ) → pos n *ℤ (a +ℤ b) ≡ pos n *ℤ a +ℤ pos n *ℤ b
times_sum n a b =
    let many : n * (up (a +ℤ b) + (down a + down b)) ≡ n * (down (a +ℤ b) + (up a + up b)) = ap (λ (k : ℕ). n * k) (parts_sum a b) in
    omega (
      whole,
      many,
      mul-add n (up (a +ℤ b)) (down a + down b),
      mul-add n (down a) (down b),
      mul-add n (down (a +ℤ b)) (up a + up b),
      mul-add n (up a) (up b),
      parts_times n (a +ℤ b),
      parts_times n a,
      parts_times n b,
      parts_sum (pos n *ℤ a) (pos n *ℤ b),
    )

pub times_more : (n : ℕ) (a : ℤ) → pos (n + 1) *ℤ a ≡ pos n *ℤ a +ℤ a
times_more n a = omega (whole, parts_times (n + 1) a, parts_times n a, parts_sum (pos n *ℤ a) a, add-mul n 1 (up a), add-mul n 1 (down a))

pub times_one : (a : ℤ) → pos 1 *ℤ a ≡ a
times_one a = omega (whole, parts_times 1 a)

-- no step is where it began, and one step more
pub no_step : (x y : ℤ) → x ≡ x +ℤ pos 0 *ℤ y
no_step x y = sym (ap (λ (z : ℤ). x +ℤ z) (zero-*ℤ y) ∙ +ℤ_idr x)

pub stepped : (start step now : ℤ) (c : ℕ) → now ≡ start +ℤ pos c *ℤ step → now +ℤ step ≡ start +ℤ pos (c + 1) *ℤ step
stepped start step now c e =
    ap (λ (z : ℤ). z +ℤ step) e ∙ +ℤ_assoc start (pos c *ℤ step) step ∙ ap (λ (z : ℤ). start +ℤ z) (sym (times_more c step))

-- what a component moves
abbrev pub moved : Bool → ℕ → ℤ → ℤ
moved b c stride = cond b (pos c *ℤ stride) (pos 0)

pub moved_none : (b : Bool) (stride : ℤ) → moved b 0 stride ≡ pos 0
moved_none true stride = zero-*ℤ stride
moved_none false stride = refl

-- c times what one moves
pub moved_times : (b : Bool) (c : ℕ) (stride : ℤ) → moved b c stride ≡ pos c *ℤ moved b 1 stride
moved_times true c stride = sym (ap (λ (z : ℤ). pos c *ℤ z) (times_one stride))
moved_times false c stride = sym (*ℤ-zero (pos c))
