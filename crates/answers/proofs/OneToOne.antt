-- Pinning the numbers pins the answer: a left inverse reads a refusal, and with it an answer, back from number and details.
use mathlib.Core.Path.{◌≡◌, refl, sym, ap, ◌∙◌}
use mathlib.Core.Bool.{Bool, true, false, cond}
use Prim.Native.Nat.{ℕ}
use native.Mathlib.Omega.{arith}
use lib.Dec.{eqb, ltb}
use borrow.Author.Tests.{ltb-true, ne_eqb}
use Rattle.std.specs.Prelude.{Result, Ok, Err}
use Rattle.answers.specs.Refusals.{refusal_numbers, numbers_of}
use Rattle.answers.specs.Pinned.{ReadBack}
use Rattle.answers.specs.declared.Numbers.{Numbers}
use Rattle.answers.specs.declared.Refusal.{Refusal}
use Rattle.answers.specs.declared.Refusal.TheVariants.{Counts, Limits, Axis, Space, TooMany, Swizzle, CopyOutside, Shared, Shape, Coordinate, TooShort, CellOutside, MaskSize, Fragment, Reserved, Shift, Idle, Notation, WrongCheck, Unused, Plan, Canonical, Overlap}

-- the refusal that has this number, then with these details
abbrev refusal_of : ℕ → Numbers → Refusal
refusal_of n r =
    cond (eqb n 1) Counts
    (cond (eqb n 2) Limits
    (cond (eqb n 3) Axis
    (cond (eqb n 4) Space
    (cond (eqb n 5) TooMany
    (cond (eqb n 6) Swizzle
    (cond (eqb n 7) (CopyOutside (record { 0 = r.a }) r.b)
    (cond (eqb n 8) (Shared (record { 0 = r.a }) (record { 0 = r.b }) (record { 0 = r.c }))
    (cond (eqb n 9) Shape
    (cond (eqb n 10) Coordinate
    (cond (eqb n 11) (TooShort r.a)
    (cond (eqb n 12) (CellOutside r.a)
    (cond (eqb n 13) MaskSize
    (cond (eqb n 14) (Fragment r.a r.b)
    (cond (eqb n 15) Reserved
    (cond (eqb n 16) (Shift r.a)
    (cond (eqb n 17) (Idle r.a r.b)
    (cond (eqb n 18) (Notation r.a)
    (cond (eqb n 19) WrongCheck
    (cond (eqb n 20) Unused
    (cond (eqb n 21) (Plan r.a (record { 0 = r.b }))
    (cond (eqb n 22) Canonical
    (Overlap (record { 0 = r.a })))))))))))))))))))))))

-- the left inverse reads each refusal back, and no refusal has number 0
back : (p : Refusal) → (refusal_of (refusal_numbers p).number (refusal_numbers p) ≡ p) × (ltb 0 (refusal_numbers p).number ≡ true)
back Counts = (refl, refl)
back Limits = (refl, refl)
back Axis = (refl, refl)
back Space = (refl, refl)
back TooMany = (refl, refl)
back Swizzle = (refl, refl)
back (CopyOutside flat axis) = (refl, refl)
back (Shared x y cell) = (refl, refl)
back Shape = (refl, refl)
back Coordinate = (refl, refl)
back (TooShort needed) = (refl, refl)
back (CellOutside axis) = (refl, refl)
back MaskSize = (refl, refl)
back (Fragment lane register) = (refl, refl)
back Reserved = (refl, refl)
back (Shift limit) = (refl, refl)
back (Idle a b) = (refl, refl)
back (Notation beginning) = (refl, refl)
back WrongCheck = (refl, refl)
back Unused = (refl, refl)
back (Plan copy cell) = (refl, refl)
back Canonical = (refl, refl)
back (Overlap cell) = (refl, refl)

pub refusal_one_to_one : (p q : Refusal) → refusal_numbers p ≡ refusal_numbers q → p ≡ q
refusal_one_to_one p q e = sym (back p).0 ∙ ap (λ (r : Numbers). refusal_of r.number r) e ∙ (back q).0

-- an answer at number 0 is no refusal
pub refusal_not_zero : (p : Refusal) → eqb (refusal_numbers p).number 0 ≡ false
refusal_not_zero p =
    ne_eqb (refusal_numbers p).number 0 (λ e. omega (arith, ltb-true 0 (refusal_numbers p).number (back p).1))

-- no refusal has number 0
zero_apart : (p : Refusal) → (refusal_numbers p).number ≡ 0 → ⊥
zero_apart p e = omega (arith, ltb-true 0 (refusal_numbers p).number (back p).1)

-- An answer is a value, with number 0, or a refusal: it is read back from its numbers, by the question's way to read a value back
module _ {A : Type 0} (value : Numbers → A) (refused : Refusal → A) where
  abbrev pub read_back : Numbers → A
  read_back r = cond (eqb r.number 0) (value r) (refused (refusal_of r.number r))

  pub refused_back : (p : Refusal) → read_back (refusal_numbers p) ≡ refused p
  refused_back p = rw (refusal_not_zero p) (ap refused (back p).0)

  -- what is read back from its numbers is pinned by them
  pub pinned : (numbers : A → Numbers) → ((p : A) → read_back (numbers p) ≡ p) → (p q : A) → numbers p ≡ numbers q → p ≡ q
  pinned numbers reads p q e = sym (reads p) ∙ ap read_back e ∙ reads q

-- what goes by a check: its numbers go by the same check, and what holds both ways holds
pub rung : {A B : Type 0} (numbers : A → B) (check : Bool) {x y : A} {m n : B} → numbers x ≡ m → numbers y ≡ n → numbers (cond check x y) ≡ cond check m n
rung numbers true e f = e
rung numbers false e f = f

pub either : {A : Type 0} (holds : A → Type 0) (check : Bool) {x y : A} → holds x → holds y → holds (cond check x y)
either holds true p q = p
either holds false p q = q

-- two answers with the same numbers are equal, whatever the question, where its values are read back from theirs
pub numbers_one_to_one : {A : Type 0} (as_numbers : A → Numbers) → ReadBack as_numbers
    → (p q : Result A Refusal) → numbers_of as_numbers p ≡ numbers_of as_numbers q → p ≡ q
numbers_one_to_one as_numbers reads (Ok x) (Ok y) e = ap Ok (sym (reads.1 x).1 ∙ ap reads.0 e ∙ (reads.1 y).1)
numbers_one_to_one as_numbers reads (Ok x) (Err r) e = absurd (zero_apart r (ap (λ (n : Numbers). n.number) (sym e) ∙ (reads.1 x).0))
numbers_one_to_one as_numbers reads (Err r) (Ok y) e = absurd (zero_apart r (ap (λ (n : Numbers). n.number) e ∙ (reads.1 y).0))
numbers_one_to_one as_numbers reads (Err r) (Err s) e = ap Err (refusal_one_to_one r s e)
