-- Numbers written one after another into a list, slot by slot: after k of eight slots those of the first k are there; and a whole card written so.
use Prim.Native.Nat.{ℕ, zero, suc, ◌+◌, ◌*◌, ◌<◌}
use mathlib.Core.Path.{◌≡◌, refl, sym, ap, ◌∙◌}
use mathlib.Core.List.{List, [], ◌∷◌, ◌++◌, append-nil, append_assoc}
use native.Mathlib.Omega.{arith}
use lib.IntN.{ℤ, pos}
use lib.ListN.{length, get_or, set, take, drop, length-append, drop_of_length-le}
use lib.Seq.{sets, sets-eq, drop-cons, length-take-le}
use Rattle.card.specs.declared.Iter.{Iter}
use Rattle.card.specs.Card.{none}
use Rattle.notation.specs.declared.Layout.{Layout}
use Rattle.c_card.specs.Card.{eight}
use Rattle.c_layout.specs.Layout.{bits_of, iter_numbers, offsets_of, card_with}

-- one list after another
sets_more : (xs ys l : List ℕ) (i : ℕ) → sets l i (xs ++ ys) ≡ sets (sets l i xs) (i + length xs) ys
sets_more [] ys l i = ap (λ (n : ℕ). sets l n ys) (omega arith)
sets_more (x ∷ xs) ys l i = sets_more xs ys (set l i x) (suc i) ∙ ap (λ (n : ℕ). sets (sets (set l i x) (suc i) xs) n ys) (omega arith)

pub three : (l : List ℕ) (p a b c : ℕ) → set (set (set l p a) (p + 1) b) (p + 2) c ≡ sets l p (a ∷ b ∷ c ∷ [])
three l p a b c = let e : p + 1 ≡ suc p = omega arith in let f : p + 2 ≡ suc (suc p) = omega arith in λ j. set (set (set l p a) (e j) b) (f j) c

first_more : (k : ℕ) → k < 8 → take (k + 1) eight ≡ take k eight ++ (k ∷ [])
first_more zero h = refl
first_more (suc zero) h = refl
first_more (suc (suc zero)) h = refl
first_more (suc (suc (suc zero))) h = refl
first_more (suc (suc (suc (suc zero)))) h = refl
first_more (suc (suc (suc (suc (suc zero))))) h = refl
first_more (suc (suc (suc (suc (suc (suc zero)))))) h = refl
first_more (suc (suc (suc (suc (suc (suc (suc zero))))))) h = refl
first_more (suc (suc (suc (suc (suc (suc (suc (suc k)))))))) h = absurd (omega arith)

-- the numbers of some slots, each with as many
abbrev pub written : (ℕ → List ℕ) → List ℕ → List ℕ
written f [] = []
written f (k ∷ ks) = f k ++ written f ks

module _ (f : ℕ → List ℕ) (width : ℕ) (wide : (k : ℕ) → length (f k) ≡ width) where
  written_long : (ks : List ℕ) → length (written f ks) ≡ width * length ks
  written_long [] = omega arith
  written_long (k ∷ ks) = length-append (f k) (written f ks) ∙ omega (arith, wide k, written_long ks)

  written_more : (ks : List ℕ) (k : ℕ) → written f (ks ++ (k ∷ [])) ≡ written f ks ++ f k
  written_more [] k = append-nil (f k)
  written_more (i ∷ ks) k = ap (λ (t : List ℕ). f i ++ t) (written_more ks k) ∙ sym (append_assoc (f i) (written f ks) (f k))

  pub slots_more : (l : List ℕ) (i k : ℕ) → k < 8 → sets (sets l i (written f (take k eight))) (i + width * k) (f k) ≡ sets l i (written f (take (k + 1) eight))
  slots_more l i k h =
      let first = written f (take k eight) in
      let long : length first ≡ width * k = written_long (take k eight) ∙ ap (λ (n : ℕ). width * n) (length-take-le k eight (omega arith)) in
      ap (λ (n : ℕ). sets (sets l i first) (i + n) (f k)) (sym long)
      ∙ sym (sets_more first (f k) l i)
      ∙ ap (λ (t : List ℕ). sets l i t) (sym (written_more (take k eight) k))
      ∙ ap (λ (ks : List ℕ). sets l i (written f ks)) (sym (first_more k h))

-- an iter's three numbers, an offset's one
abbrev pub of_iter : List Iter → ℕ → List ℕ
of_iter at k = (get_or at k none).extent ∷ bits_of (get_or at k none).stride ∷ (get_or at k none).axis ∷ []

abbrev pub of_offset : List ℤ → ℕ → List ℕ
of_offset offset k = bits_of (get_or offset k (pos 0)) ∷ []

-- what stands behind a place
abbrev gets : List ℕ → ℕ → ℕ → List ℕ
gets l j zero = []
gets l j (suc n) = get_or l j 0 ∷ gets l (suc j) n

rest : (n j : ℕ) (l : List ℕ) → length l ≡ j + n → drop j l ≡ gets l j n
rest zero j l e = drop_of_length-le l {i = j} (omega (arith, e))
rest (suc n) j l e = drop-cons l j 0 (omega (arith, e)) ∙ ap (λ (t : List ℕ). get_or l j 0 ∷ t) (rest n (suc j) l (omega (arith, e)))

-- shard, replica and offset written, one after the other, are the card with the layout
pub all_written : (l : Layout) (numbers : List ℕ) → length numbers ≡ 57
    → sets (sets (sets numbers 0 (l.shard.count ∷ iter_numbers l.shard (take 8 eight))) 25 (l.replica.count ∷ iter_numbers l.replica (take 4 eight))) 38 (offsets_of l.offset) ≡ card_with l numbers
all_written l numbers e =
    let shard = l.shard.count ∷ iter_numbers l.shard eight in
    let replica = l.replica.count ∷ iter_numbers l.replica (take 4 eight) in
    let offset = offsets_of l.offset in
    sym (sets_more shard (replica ++ offset) numbers 0 ∙ sets_more replica offset (sets numbers 0 shard) 25)
    ∙ sets-eq (shard ++ (replica ++ offset)) numbers 0 (omega (arith, e))
    ∙ ap (λ (t : List ℕ). shard ++ (replica ++ offset) ++ t) (rest 11 46 numbers (omega (arith, e)))
