-- The two directions belong together: the card that the numbers then are has the layout that was read, its marks with it, and the lengths and the swizzle
-- that stood there. Slot by slot a list of eight is read back as it was put.
use Rattle.std.specs.Prelude.{Result, ⊤, Ok, Err}
use Prim.Native.Nat.{ℕ, zero, suc, ◌+◌, ◌-◌, ◌*◌, ◌/◌, ◌%◌, ◌^◌, ◌≤◌, ◌<◌}
use mathlib.Core.Path.{◌≡◌, refl, sym, ap, ◌∙◌}
use mathlib.Core.Bool.{Bool, true, false, cond}
use mathlib.Core.List.{List, [], ◌∷◌, ◌++◌, map}
use native.Mathlib.Omega.{arith}
use borrow.Author.Tests.{lt-ltb, le-ltb, eq-eqb, ne_eqb}
use lib.Dec.{eqb, ltb}
use lib.IntN.{ℤ, pos, negsuc, neg_ℤ}
use lib.ListN.{length, get_or, set, replicate, length-append, length-map, length-replicate, length-set}
use Rattle.answers.specs.declared.Refusal.{Refusal}
use Rattle.laws.proofs.Order.{le_or_lt}
use mathlib.Core.Logic.{◌⊎◌, inl, inr}
use Rattle.card.specs.Lists.{padded}
use Rattle.card.specs.Card.{none}
use Rattle.card.specs.declared.Iter.{Iter}
use Rattle.card.specs.declared.Card.{Card}
use Rattle.card.proofs.ReadBack.{eight_slots}
use Rattle.notation.specs.Text.{axis_meant, Notation, Each, Sound, Plain, Within}
use Rattle.notation.specs.Meaning.{value_of, iters_said, mark_of, laid, no_offset, layout_of}
use Rattle.notation.specs.Promise.{no_layout, Comes, Answered}
use Rattle.notation.specs.declared.Step.{Step}
use Rattle.notation.specs.declared.Layout.{Layout}
use Rattle.notation.specs.declared.Reading.{Reading}
use Rattle.notation.proofs.Lists.{each_append}
use Rattle.c_card.specs.Card.{signed64, eight, lengths_from, marks_from, card_from}
use Rattle.c_layout.specs.Layout.{bits_of, mark_bits, card_with}

-- a number that 64 bits hold
abbrev pub Held : ℤ → Type 0
Held (pos n) = n < 2 ^ 63
Held (negsuc n) = n < 2 ^ 63

pub signed_back : (z : ℤ) → Held z → signed64 (bits_of z) ≡ z
signed_back (pos n) h = rw (lt-ltb n (2 ^ 63) h)
signed_back (negsuc n) h =
    let high : 2 ^ 63 ≤ 2 ^ 64 - (n + 1) = omega arith in
    let back : 2 ^ 64 - (2 ^ 64 - (n + 1) + 1) ≡ n = omega arith in
    rw (le-ltb (2 ^ 64 - (n + 1)) (2 ^ 63) high, back)

-- a layout as numbers can hold it: eight slots each, of the replica's the last four empty
pub record Fits (l : Layout) : Type 0 where
  pub shard : length l.shard.at ≡ 8
  pub strides : (k : ℕ) → Held (get_or l.shard.at k none).stride
  pub marks : length l.marks ≡ 8
  pub replica : length l.replica.at ≡ 8
  pub replica_strides : (k : ℕ) → Held (get_or l.replica.at k none).stride
  pub four : (k : ℕ) → 4 ≤ k → get_or l.replica.at k none ≡ none
  pub offset : length l.offset ≡ 8
  pub offsets : (k : ℕ) → Held (get_or l.offset k (pos 0))

-- the marks: of eight weights each is told by its bit
abbrev Told : (a b c d e f g h : ℕ) → Type 0
Told a b c d e f g h =
    let n : ℕ = a + 2 * b + 4 * c + 8 * d + 16 * e + 32 * f + 64 * g + 128 * h in
    (n / 1 % 2 ≡ a) × (n / 2 % 2 ≡ b) × (n / 4 % 2 ≡ c) × (n / 8 % 2 ≡ d) × (n / 16 % 2 ≡ e) × (n / 32 % 2 ≡ f) × (n / 64 % 2 ≡ g) × (n / 128 % 2 ≡ h)

bit_told : (a b c d e f g h : ℕ) → a ≤ 1 → b ≤ 1 → c ≤ 1 → d ≤ 1 → e ≤ 1 → f ≤ 1 → g ≤ 1 → h ≤ 1 → Told a b c d e f g h
bit_told a b c d e f g h la lb lc ld le lf lg lh =
    (omega arith, omega arith, omega arith, omega arith, omega arith, omega arith, omega arith, omega arith)

abbrev one : Bool → ℕ
one b = cond b 1 0

weighed : (b : Bool) (w : ℕ) → cond b w 0 ≡ w * one b
weighed true w = omega arith
weighed false w = omega arith

at_most : (b : Bool) → one b ≤ 1
at_most true = omega arith
at_most false = omega arith

is_one : (b : Bool) (n : ℕ) → n ≡ one b → b ≡ eqb n 1
is_one true n e = sym (eq-eqb n 1 e)
is_one false n e = sym (ne_eqb n 1 (λ f. omega (arith, e, f)))

pub marks_back : (marks : List Bool) → length marks ≡ 8 → marks_from (mark_bits marks) ≡ marks
marks_back marks long = sym (eight_slots bit false marks long at)
  where
    x : ℕ → ℕ
    x k = one (get_or marks k false)

    n : ℕ
    n = x 0 + 2 * x 1 + 4 * x 2 + 8 * x 3 + 16 * x 4 + 32 * x 5 + 64 * x 6 + 128 * x 7

    same : mark_bits marks ≡ n
    same =
        let w : (k weight : ℕ) → cond (get_or marks k false) weight 0 ≡ weight * x k = λ k weight. weighed (get_or marks k false) weight in
        omega (arith, w 0 1, w 1 2, w 2 4, w 3 8, w 4 16, w 5 32, w 6 64, w 7 128)

    low : (k : ℕ) → x k ≤ 1
    low k = at_most (get_or marks k false)

    told : Told (x 0) (x 1) (x 2) (x 3) (x 4) (x 5) (x 6) (x 7)
    told = bit_told (x 0) (x 1) (x 2) (x 3) (x 4) (x 5) (x 6) (x 7) (low 0) (low 1) (low 2) (low 3) (low 4) (low 5) (low 6) (low 7)

    bit : ℕ → Bool
    bit k = eqb (mark_bits marks / 2 ^ k % 2) 1

    at : (k : ℕ) → k < 8 → get_or marks k false ≡ bit k
    at zero h = is_one (get_or marks 0 false) _ (ap (λ (m : ℕ). m / 1 % 2) same ∙ told.0)
    at (suc zero) h = is_one (get_or marks 1 false) _ (ap (λ (m : ℕ). m / 2 % 2) same ∙ told.1)
    at (suc (suc zero)) h = is_one (get_or marks 2 false) _ (ap (λ (m : ℕ). m / 4 % 2) same ∙ told.2)
    at (suc (suc (suc zero))) h = is_one (get_or marks 3 false) _ (ap (λ (m : ℕ). m / 8 % 2) same ∙ told.3)
    at (suc (suc (suc (suc zero)))) h = is_one (get_or marks 4 false) _ (ap (λ (m : ℕ). m / 16 % 2) same ∙ told.4)
    at (suc (suc (suc (suc (suc zero))))) h = is_one (get_or marks 5 false) _ (ap (λ (m : ℕ). m / 32 % 2) same ∙ told.5)
    at (suc (suc (suc (suc (suc (suc zero)))))) h = is_one (get_or marks 6 false) _ (ap (λ (m : ℕ). m / 64 % 2) same ∙ told.6)
    at (suc (suc (suc (suc (suc (suc (suc zero))))))) h = is_one (get_or marks 7 false) _ (ap (λ (m : ℕ). m / 128 % 2) same ∙ told.7)
    at (suc (suc (suc (suc (suc (suc (suc (suc k)))))))) h = absurd (omega arith)

-- what the numbers then are
abbrev pub card_in : Layout → List ℕ → Card
card_in l numbers = record {
  shard = l.shard;
  marks = l.marks;
  replica = l.replica;
  offset = l.offset;
  lengths = lengths_from numbers;
  swizzle = record { m = get_or numbers 54 0; b = get_or numbers 55 0; s = get_or numbers 56 0 };
}

abbrev again : Iter → Iter
again i = record { extent = i.extent; stride = signed64 (bits_of i.stride); axis = i.axis }

again_same : (i : Iter) → Held i.stride → i ≡ again i
again_same i h = λ j. record { extent = i.extent; stride = sym (signed_back i.stride h) j; axis = i.axis }

pub layout_back : (l : Layout) (numbers : List ℕ) → Fits l → card_from (card_with l numbers) (mark_bits l.marks) ≡ card_in l numbers
layout_back l numbers fits =
    let shard : l.shard.at ≡ map (λ k. again (get_or l.shard.at k none)) eight
    = eight_slots (λ k. again (get_or l.shard.at k none)) none l.shard.at fits.shard (λ k h. again_same (get_or l.shard.at k none) (fits.strides k)) in
    let replica : l.replica.at ≡ map (λ k. cond (ltb k 4) (again (get_or l.replica.at k none)) none) eight
    = eight_slots (λ k. cond (ltb k 4) (again (get_or l.replica.at k none)) none) none l.replica.at fits.replica (λ k h. slot k (le_or_lt 4 k)) in
    let offset : l.offset ≡ map (λ k. signed64 (bits_of (get_or l.offset k (pos 0)))) eight
    = eight_slots (λ k. signed64 (bits_of (get_or l.offset k (pos 0)))) (pos 0) l.offset fits.offset (λ k h. sym (signed_back (get_or l.offset k (pos 0)) (fits.offsets k))) in
    λ j. record {
      shard = record { at = sym shard j; count = l.shard.count };
      marks = marks_back l.marks fits.marks j;
      replica = record { at = sym replica j; count = l.replica.count };
      offset = sym offset j;
      lengths = lengths_from numbers;
      swizzle = record { m = get_or numbers 54 0; b = get_or numbers 55 0; s = get_or numbers 56 0 };
    }
  where
    slot : (k : ℕ) → (4 ≤ k) ⊎ (k < 4) → get_or l.replica.at k none ≡ cond (ltb k 4) (again (get_or l.replica.at k none)) none
    slot k (inl past) = rw (le-ltb k 4 past) (fits.four k past)
    slot k (inr within) = rw (lt-ltb k 4 within) (again_same (get_or l.replica.at k none) (fits.replica_strides k))

-- a layout that was read fits
each_at : {A : Type 0} (P : A → Type 0) (l : List A) (other : A) → Each P l → P other → (k : ℕ) → P (get_or l k other)
each_at P [] other e p k = p
each_at P (x ∷ l) other e p zero = e.0
each_at P (x ∷ l) other e p (suc k) = each_at P l other e.1 p k

each_set : {A : Type 0} (P : A → Type 0) (l : List A) (k : ℕ) (x : A) → Each P l → P x → Each P (set l k x)
each_set P [] k x e p = tt
each_set P (y ∷ l) zero x e p = (p, e.1)
each_set P (y ∷ l) (suc k) x e p = (e.0, each_set P l k x e.1 p)

each_same : {A : Type 0} (P : A → Type 0) (x : A) → P x → (n : ℕ) → Each P (replicate n x)
each_same P x p zero = tt
each_same P x p (suc n) = (p, each_same P x p n)

past_padding : {A : Type 0} (l : List A) (z : A) (n k : ℕ) → length l ≤ k → get_or (l ++ replicate n z) k z ≡ z
past_padding [] z zero k h = refl
past_padding [] z (suc n) zero h = refl
past_padding [] z (suc n) (suc k) h = past_padding [] z n k (omega arith)
past_padding (x ∷ l) z n zero h = absurd (omega arith)
past_padding (x ∷ l) z n (suc k) h = past_padding l z n k (omega arith)

value_held : (negative : Bool) (size : ℕ) → size < 100000 → Held (cond negative (neg_ℤ (pos size)) (pos size))
value_held true zero h = omega arith
value_held true (suc n) h = omega arith
value_held false n h = omega arith

abbrev HeldIter : Iter → Type 0
HeldIter i = Held i.stride

iters_held : (P : Step → Type 0) → ((s : Step) → P s → s.size < 100000) → (es : List ℕ) (ss : List Step) → Each P ss
    → (length (iters_said es ss) ≡ length es) × Each HeldIter (iters_said es ss)
iters_held P f [] ss e = (refl, tt)
iters_held P f (x ∷ es) [] e = let rest = iters_held P f es [] tt in (ap suc rest.0, (omega arith, rest.1))
iters_held P f (x ∷ es) (s ∷ ss) e = let rest = iters_held P f es ss e.1 in (ap suc rest.0, (value_held s.negative s.size (f s e.0), rest.1))

padded_long : {A : Type 0} (z : A) (l : List A) → length l ≤ 8 → length (padded z l) ≡ 8
padded_long z l h = length-append l (replicate (8 - length l) z) ∙ omega (arith, length-replicate (8 - length l) z)

padded_held : (l : List Iter) → Each HeldIter l → (k : ℕ) → Held (get_or (padded none l) k none).stride
padded_held l e = each_at HeldIter (padded none l) none (each_append HeldIter l (replicate (8 - length l) none) e (each_same HeldIter none (omega arith) (8 - length l))) (omega arith)

laid_fits : (offset : List ℤ) (ss : List Step) → Each Plain ss → Each Held offset → (length (laid offset ss) ≡ length offset) × Each Held (laid offset ss)
laid_fits offset [] e h = (refl, h)
laid_fits offset (s ∷ ss) e h =
    let axis = axis_meant s.place in
    let next = laid_fits (set offset axis (value_of s)) ss e.1 (each_set Held offset axis (value_of s) h (value_held s.negative s.size e.0.0.0)) in
    (next.0 ∙ length-set offset axis (value_of s), next.1)

said_fits : (n : Notation) → Within n → Fits (layout_of n)
said_fits n w =
    let shard = iters_said n.shard.extents n.shard.steps in
    let replica = iters_said n.replica.extents n.replica.steps in
    let one = iters_held Sound (λ s p. p.0) n.shard.extents n.shard.steps w.shard.sound in
    let two = iters_held Plain (λ s p. p.0.0) n.replica.extents n.replica.steps w.replica.sound in
    let few : length replica ≤ 4 = omega (arith, two.0, w.replica.few) in
    let offsets = laid_fits no_offset n.offsets w.offsets (each_same Held (pos 0) (omega arith) 8) in
    record {
      shard = padded_long none shard (omega (arith, one.0, w.shard.few));
      strides = padded_held shard one.1;
      marks = padded_long false (map mark_of n.shard.steps) (omega (arith, length-map n.shard.steps mark_of, w.shard.same, w.shard.few));
      replica = padded_long none replica (omega (arith, few));
      replica_strides = padded_held replica two.1;
      four = λ k h. past_padding replica none (8 - length replica) k (omega (arith, few));
      offset = offsets.0;
      offsets = each_at Held (laid no_offset n.offsets) (pos 0) offsets.1 (omega arith);
    }

none_fits : Fits no_layout
none_fits =
    let iters : (k : ℕ) → Held (get_or (replicate 8 none) k none).stride = each_at HeldIter (replicate 8 none) none (each_same HeldIter none (omega arith) 8) (omega arith) in
    record {
      shard = refl;
      strides = iters;
      marks = refl;
      replica = refl;
      replica_strides = iters;
      four = λ k h. past_padding [] none 8 k (omega arith);
      offset = refl;
      offsets = each_at Held (replicate 8 (pos 0)) (pos 0) (each_same Held (pos 0) (omega arith) 8) (omega arith);
    }

pub read_fits : (text : List ℕ) (r : Reading) → Answered text r → Fits r.layout
read_fits text r = by r.answer
  where
    by : (x : Result ⊤ Refusal) → Comes x text r.layout → Fits r.layout
    by (Ok _) c = rw c.layout_said (said_fits c.correct.says c.correct.within)
    by (Err refusal) c = rw c.zeros none_fits

-- so the card of the numbers after a reading, refused or not, has the layout that was read, and the lengths and the swizzle that stood there
pub read_back_lem : (text numbers : List ℕ) (r : Reading) → Answered text r → card_from (card_with r.layout numbers) (mark_bits r.layout.marks) ≡ card_in r.layout numbers
read_back_lem text numbers r a = layout_back r.layout numbers (read_fits text r a)
