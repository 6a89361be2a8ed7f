-- The check notices every single changed byte: 65,521 is prime, and no weight times a difference of two bytes reaches it twice.
use Rattle.std.specs.Prelude.{Ok, Err}
use Prim.Native.Nat.{ℕ, zero, suc, ◌+◌, ◌*◌, ◌-◌, ◌%◌, ◌≤◌, ◌<◌}
use mathlib.Core.Path.{◌≡◌, refl, sym, ap, ◌∙◌}
use mathlib.Core.Bool.{Bool, true, false, cond, not, ◌||◌, true≢false}
use mathlib.Core.Logic.{◌⊎◌, inl, inr}
use mathlib.Core.List.{List, [], ◌∷◌}
use native.Mathlib.Omega.{arith}
use native.Mathlib.Nat.{not-suc-le-zero, mul-add, mul-mod_right, mul-le-mul, one-le-mul, add_assoc}
use borrow.Author.Tests.{ltb-false, eq-eqb, ne_eqb, eqb-true, not-false, le-ltb, lt-leb}
use lib.Dec.{leb, eqb, ltb}
use lib.ListN.{length, get_or, set, take, drop, length-set, length-drop}
use lib.Seq.{take-set-lt, take-set-le, drop-set-lt, drop-set-add, get_or-take, get_or-drop, length-take-le}
use Rattle.answers.specs.Refusals.{no_refusal}
use Rattle.answers.specs.declared.Refusal.{Refusal}
use Rattle.answers.specs.declared.Refusal.TheVariants.{TooShort, WrongCheck}
use Rattle.laws.proofs.Below.{below, below_at}
use Rattle.laws.proofs.Order.{le_or_lt}
use Rattle.laws.proofs.Rungs.{apart, passed_by}
use Rattle.book.specs.Bytes.{number, field}
use Rattle.book.specs.Block.{weighed, modulus, check_of, block_length}
use Rattle.book.specs.Book.{check_right, read_answer}

-- one byte set: its weight times the new one comes in the place of its weight times the old one
pub weighed_set : (l : List ℕ) (j i v : ℕ) → i < length l
    → weighed j (set l i v) + (j + i + 1) * get_or l i 0 ≡ weighed j l + (j + i + 1) * v
weighed_set [] j i v h = absurd (not-suc-le-zero h)
weighed_set (b ∷ bs) j zero v h = omega arith
weighed_set (b ∷ bs) j (suc i) v h =
    let weight : j + 1 + i + 1 ≡ j + suc i + 1 = omega arith in
    let rest : weighed (j + 1) (set bs i v) + (j + suc i + 1) * get_or bs i 0 ≡ weighed (j + 1) bs + (j + suc i + 1) * v =
    rw weight at (weighed_set bs (j + 1) i v (omega arith)) in
    omega (arith, rest)

-- no number from 2 to 508 divides 65,521: one test
divides_none : below (λ (k : ℕ). leb k 1 || not (eqb (modulus % k) 0)) 509 ≡ true
divides_none = refl

-- so no weight times a difference of two bytes is 65,521
never : (k d : ℕ) → k ≤ 508 → d ≤ 255 → k * d ≡ modulus → ⊥
never zero d small few e = absurd (omega arith)
never (suc zero) d small few e = absurd (omega arith)
never (suc (suc k)) d small few e =
    let t = below_at (λ (k : ℕ). leb k 1 || not (eqb (modulus % k) 0)) 509 divides_none (suc (suc k)) (omega arith) in
    let none : modulus % suc (suc k) ≡ 0 = rw e at (mul-mod_right (suc (suc k)) d) in
    let f : false ≡ true = rw (lt-leb (suc (suc k)) 1 (omega arith), eq-eqb _ _ none) at t in
    true≢false (sym f)

-- nor is such a product a multiple of it
pub moved : (a k d : ℕ) → 1 ≤ k → k ≤ 508 → 1 ≤ d → d ≤ 255 → (a + k * d) % modulus ≡ a % modulus → ⊥
moved a k d some small more few e =
    let product : k * d ≤ 508 * 255 = mul-le-mul small few in
    let least : 1 ≤ k * d = one-le-mul some more in
    never k d small few (omega arith)

-- a changed byte changes the sum, modulo 65,521
pub sum_changed : (l : List ℕ) (i v : ℕ) → i < length l → length l ≤ 508 → get_or l i 0 < 256 → v < 256 → (v ≡ get_or l i 0 → ⊥)
    → check_of (set l i v) ≡ check_of l → ⊥
sum_changed l i v h long old new other e =
    let moves = weighed_set l 0 i v h in
    let w : ℕ = 0 + i + 1 in
    split (le_or_lt v (get_or l i 0)) moves
  where
    split : (v ≤ get_or l i 0) ⊎ (get_or l i 0 < v) → weighed 0 (set l i v) + (0 + i + 1) * get_or l i 0 ≡ weighed 0 l + (0 + i + 1) * v → ⊥
    split (inl less) moves =
        let d : ℕ = get_or l i 0 - v in
        let parted : (0 + i + 1) * get_or l i 0 ≡ (0 + i + 1) * v + (0 + i + 1) * (get_or l i 0 - v) = ap (λ (x : ℕ). (0 + i + 1) * x) (omega arith) ∙ mul-add (0 + i + 1) v (get_or l i 0 - v) in
        moved (weighed 0 (set l i v)) (0 + i + 1) (get_or l i 0 - v) (omega arith) (omega arith) (omega (arith, other)) (omega arith)
        (sym (ap (λ (x : ℕ). x % modulus) {x = weighed 0 l} (omega arith)) ∙ sym e)
    split (inr more) moves =
        let parted : (0 + i + 1) * v ≡ (0 + i + 1) * get_or l i 0 + (0 + i + 1) * (v - get_or l i 0) = ap (λ (x : ℕ). (0 + i + 1) * x) (omega arith) ∙ mul-add (0 + i + 1) (get_or l i 0) (v - get_or l i 0) in
        moved (weighed 0 l) (0 + i + 1) (v - get_or l i 0) (omega arith) (omega arith) (omega arith) (omega arith)
        (sym (ap (λ (x : ℕ). x % modulus) {x = weighed 0 (set l i v)} (omega arith)) ∙ e)

-- a changed byte changes the number that bytes hold
pub number_changed : (l : List ℕ) (j v : ℕ) → j < length l → number (set l j v) ≡ number l → v ≡ get_or l j 0
number_changed [] j v h e = absurd (not-suc-le-zero h)
number_changed (b ∷ bs) zero v h e = omega arith
number_changed (b ∷ bs) (suc j) v h e = number_changed bs j v (omega arith) (omega arith)

-- any single changed byte of a block turns a right check wrong
pub check_notices : (block : List ℕ) (i v : ℕ) → length block ≡ 512 → i < 512 → get_or block i 0 < 256 → v < 256 → (v ≡ get_or block i 0 → ⊥)
    → check_right block ≡ true → check_right (set block i v) ≡ false
check_notices block i v long h old new other right =
    ne_eqb (field 4 508 (set block i v)) (check_of (take 508 (set block i v))) (λ e. split (le_or_lt 508 i) e)
  where
    was : field 4 508 block ≡ check_of (take 508 block)
    was = eqb-true (field 4 508 block) (check_of (take 508 block)) right

    split : (508 ≤ i) ⊎ (i < 508) → field 4 508 (set block i v) ≡ check_of (take 508 (set block i v)) → ⊥
    split (inl late) e =
        let j : i ≡ 508 + (i - 508) = omega arith in
        let l : List ℕ = take 4 (drop 508 block) in
        let there : take 4 (drop 508 (set block i v)) ≡ set (take 4 (drop 508 block)) (i - 508) v =
        ap (λ (x : ℕ). take 4 (drop 508 (set block x v))) j
        ∙ ap (λ (x : List ℕ). take 4 x) (drop-set-add 508 block (i - 508) v)
        ∙ take-set-lt 4 (drop 508 block) (i - 508) v (omega arith) in
        let same_sum = take-set-le 508 block i v late in
        let at : get_or (take 4 (drop 508 block)) (i - 508) 0 ≡ get_or block i 0 =
        get_or-take 4 (drop 508 block) (i - 508) 0 (omega arith) ∙ get_or-drop 508 block (i - 508) 0 ∙ ap (λ (x : ℕ). get_or block x 0) (sym j) in
        other
        (number_changed (take 4 (drop 508 block)) (i - 508) v
        (omega (arith, length-take-le 4 (drop 508 block) (omega (arith, length-drop 508 block))))
        (ap number (sym there) ∙ e ∙ ap check_of same_sum ∙ sym was)
        ∙ at)
    split (inr early) e =
        let same-field : field 4 508 (set block i v) ≡ field 4 508 block = ap (λ (x : List ℕ). number (take 4 x)) (drop-set-lt 508 block i v early) in
        let at : get_or (take 508 block) i 0 ≡ get_or block i 0 = get_or-take 508 block i 0 early in
        let short = length-take-le 508 block (omega arith) in
        sum_changed (take 508 block) i v (omega arith) (omega arith) (omega arith) new (λ q. other (q ∙ at))
        (ap check_of (sym (take-set-lt 508 block i v early)) ∙ sym e ∙ same-field ∙ was)

-- so of a block that was read it is refused, 19
pub byte_noticed : (block : List ℕ) (i v : ℕ) → length block ≡ 512 → i < 512 → get_or block i 0 < 256 → v < 256 → (v ≡ get_or block i 0 → ⊥)
    → read_answer block ≡ no_refusal → read_answer (set block i v) ≡ Err WrongCheck
unfolding read_answer
byte_noticed block i v long h old new other done =
    let eleven = passed_by (ltb (length block) block_length) done (λ q. apart (cc)) in
    let nineteen = passed_by (not (check_right block)) eleven.1 (λ q. apart (cc)) in
    let wrong = check_notices block i v long h old new other (not-false (check_right block) nineteen.0) in
    let same_length : ltb (length (set block i v)) block_length ≡ false = le-ltb (length (set block i v)) block_length (omega (arith, length-set block i v)) in
    rw (same_length, wrong)
