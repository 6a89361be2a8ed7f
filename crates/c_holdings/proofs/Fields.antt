-- The registers that a lane's holding is, and the register that a field of it is dealt, by its number: by cases on the tests.
use mathlib.Core.Path.{◌≡◌, refl, sym, ap, ◌∙◌}
use mathlib.Core.Bool.{Bool, true, false, cond}
use mathlib.Core.List.{List, [], ◌∷◌}
use Prim.Native.Nat.{ℕ, zero, suc, ◌+◌, ◌*◌, ◌/◌, ◌%◌, ◌≤◌, ◌<◌}
use native.Mathlib.Omega.{arith}
use borrow.Author.Tests.{lt-ltb, le-ltb}
use lib.Dec.{eqb, ltb}
use lib.ListN.{get_or}
use Rattle.values.specs.Rows.{entry}
use Rattle.c_bits.specs.declared.Bits.{Bits}
use Rattle.c_bits.specs.declared.Bits.TheVariants.{Empty}
use Rattle.c_bits.specs.Bits.{held_at, lanes_from, register_for, register_number}
use Rattle.c_bits.proofs.Given.{made_at}

-- a register of the lanes that holdings are
pub held_entry : (kind : ℕ) (numbers : List ℕ) (lane i : ℕ) → lane < 32 → entry Empty (lanes_from kind numbers) lane i ≡ get_or (held_at kind numbers lane) i Empty
held_entry kind numbers lane i h = ap (λ (row : List Bits). get_or row i Empty) (made_at 32 (held_at kind numbers) lane [] h)

-- past its first two a lane's registers are empty
pub others_empty : (x y : Bits) (i : ℕ) → 1 < i → get_or (x ∷ y ∷ Empty ∷ Empty ∷ Empty ∷ Empty ∷ Empty ∷ Empty ∷ []) i Empty ≡ Empty
others_empty x y zero h = absurd (omega arith)
others_empty x y (suc zero) h = absurd (omega arith)
others_empty x y (suc (suc zero)) h = refl
others_empty x y (suc (suc (suc zero))) h = refl
others_empty x y (suc (suc (suc (suc zero)))) h = refl
others_empty x y (suc (suc (suc (suc (suc zero))))) h = refl
others_empty x y (suc (suc (suc (suc (suc (suc zero)))))) h = refl
others_empty x y (suc (suc (suc (suc (suc (suc (suc zero))))))) h = refl
others_empty x y (suc (suc (suc (suc (suc (suc (suc (suc i)))))))) h = refl

-- and past its first one where the second is empty
pub but_first_empty : (x : Bits) (i : ℕ) → (i ≡ 0 → ⊥) → get_or (x ∷ Empty ∷ Empty ∷ Empty ∷ Empty ∷ Empty ∷ Empty ∷ Empty ∷ []) i Empty ≡ Empty
but_first_empty x zero h = absurd (h refl)
but_first_empty x (suc zero) h = refl
but_first_empty x (suc (suc i)) h = others_empty x Empty (suc (suc i)) (omega arith)

-- the register of a field, by its number: by cases on the tests
abbrev number : Bool → Bool → Bool → Bool → Bool → Bool → ℕ
number a b p q r s = cond a (cond {A = ℕ} p 0 8) (cond b (cond {A = ℕ} q 0 8) (cond {A = ℕ} r 0 (cond {A = ℕ} s 1 8)))

by_tests : (registers : List Bits) (a b p q r s : Bool)
    → let first : Bits = get_or registers 0 Empty in
    cond a (cond p first Empty) (cond b (cond q first Empty) (cond r first (cond s (get_or registers 1 Empty) Empty)))
    ≡ cond (ltb (number a b p q r s) 8) (get_or registers (number a b p q r s) Empty) Empty
by_tests registers true b true q r s = refl
by_tests registers true b false q r s = refl
by_tests registers false true p true r s = refl
by_tests registers false true p false r s = refl
by_tests registers false false p q true s = refl
by_tests registers false false p q false true = refl
by_tests registers false false p q false false = refl

pub field_register : (kind : ℕ) (registers : List Bits) (k : ℕ)
    → register_for kind registers k ≡ cond (ltb (register_number kind k) 8) (get_or registers (register_number kind k) Empty) Empty
field_register kind registers k = by_tests registers (eqb kind 6) (eqb kind 7) (eqb k 0) (eqb k 1) (eqb k 2) (eqb k 3)

pub field_there : (kind : ℕ) (registers : List Bits) (k i : ℕ) → i ≡ register_number kind k → i < 8 → register_for kind registers k ≡ get_or registers i Empty
field_there kind registers k i e h =
    field_register kind registers k ∙ ap (λ (n : ℕ). cond (ltb n 8) (get_or registers n Empty) Empty) (sym e) ∙ rw (lt-ltb i 8 h)

pub field_nothing : (kind : ℕ) (registers : List Bits) (k i : ℕ) → i ≡ register_number kind k → 8 ≤ i → register_for kind registers k ≡ Empty
field_nothing kind registers k i e h =
    field_register kind registers k ∙ ap (λ (n : ℕ). cond (ltb n 8) (get_or registers n Empty) Empty) (sym e) ∙ rw (le-ltb i 8 h)

-- a register counted through the lanes
pub counted : (rows : List (List Bits)) (lane i : ℕ) → i < 8 → entry Empty rows ((8 * lane + i) / 8) ((8 * lane + i) % 8) ≡ entry Empty rows lane i
counted rows lane i h =
    let row : (8 * lane + i) / 8 ≡ lane = omega arith in
    let place : (8 * lane + i) % 8 ≡ i = omega arith in
    rw (row, place)
