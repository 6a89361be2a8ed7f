-- A text written after a text is one text, and digits, signs and words are written one byte after the other.
use Prim.Native.Nat.{ℕ, zero, suc, ◌+◌, ◌%◌, ◌≤◌, ◌<◌}
use mathlib.Core.Path.{◌≡◌, refl, sym, ap, ◌∙◌}
use mathlib.Core.Bool.{Bool, true, false, cond}
use mathlib.Core.List.{List, [], ◌∷◌, ◌++◌, append-nil}
use native.Mathlib.Omega.{arith}
use borrow.Author.Tests.{lt-ltb, ltb-true}
use lib.Signed.{lt_z}
use Rattle.laws.proofs.Rungs.{apart}
use lib.Dec.{ltb}
use lib.IntN.{ℤ, pos, negsuc}
use lib.ListN.{length, get_or, set, take, drop, length-append}
use lib.Seq.{take-suc, slice, slice_empty, length-take-le}
use Rattle.notation.specs.Text.{digits}
use Rattle.notation.specs.Writing.{is_below}
use Rattle.writing_words.specs.Out.{overlay, wrote}
use Rattle.writing_words.specs.declared.Out.{Out}

overlay_more : (l : List ℕ) (k : ℕ) (s t : List ℕ) → overlay (overlay l k s) (k + length s) t ≡ overlay l k (s ++ t)
overlay_more l k [] t = ap (λ (n : ℕ). overlay l n t) (omega arith)
overlay_more l k (b ∷ s) t =
    let same : k + suc (length s) ≡ k + 1 + length s = omega arith in
    ap (λ (n : ℕ). overlay (overlay (set l k b) (k + 1) s) n t) same ∙ overlay_more (set l k b) (k + 1) s t

pub wrote_none : (out : Out) → out ≡ wrote out []
unfolding wrote
wrote_none out = ap (λ (n : ℕ). record { bytes = out.bytes; length = n }) (omega arith)

pub wrote_byte : (out : Out) (b : ℕ) → record { bytes = set out.bytes out.length b; length = out.length + 1 } ≡ wrote out (b ∷ [])
unfolding wrote
wrote_byte out b = refl

-- a text and then another one
pub wrote_more : (out : Out) (s t : List ℕ) → wrote (wrote out s) t ≡ wrote out (s ++ t)
unfolding wrote
wrote_more out s t =
    let lengths : out.length + length s + length t ≡ out.length + length (s ++ t) = omega (arith, length-append s t) in
    λ j. record { bytes = overlay_more out.bytes out.length s t j; length = lengths j }

pub wrote_3 : (out : Out) (a b c : List ℕ) → wrote (wrote (wrote out a) b) c ≡ wrote out (a ++ (b ++ c))
wrote_3 out a b c = wrote_more (wrote out a) b c ∙ wrote_more out a (b ++ c)

pub wrote_4 : (out : Out) (a b c d : List ℕ) → wrote (wrote (wrote (wrote out a) b) c) d ≡ wrote out (a ++ (b ++ (c ++ d)))
wrote_4 out a b c d = wrote_3 (wrote out a) b c d ∙ wrote_more out a (b ++ (c ++ d))

pub wrote_lists : (out : Out) (a b c d e f g : List ℕ)
    → wrote (wrote (wrote (wrote (wrote (wrote (wrote out a) b) c) d) e) f) g ≡ wrote out ((a ++ (b ++ c)) ++ (d ++ (e ++ (f ++ g))))
wrote_lists out a b c d e f g = wrote_4 (wrote (wrote (wrote out a) b) c) d e f g ∙ ap (λ (o : Out). wrote o (d ++ (e ++ (f ++ g)))) (wrote_3 out a b c) ∙ wrote_more out (a ++ (b ++ c)) (d ++ (e ++ (f ++ g)))

pub wrote_plus : (out : Out) (t : List ℕ) → wrote (wrote out (43 ∷ [])) t ≡ wrote out ((43 ∷ t) ++ [])
wrote_plus out t = wrote_more out (43 ∷ []) t ∙ ap (λ (l : List ℕ). wrote out l) (sym (append-nil (43 ∷ t)))

-- digits
small_digit : (n : ℕ) → n < 10 → n % 10 ≡ n
small_digit n h = omega arith

pub one_digit : (n : ℕ) → (48 + n % 10) ∷ [] ≡ digits 1 n
one_digit n = by (ltb n 10) refl
  where
    by : (t : Bool) → ltb n 10 ≡ t → (48 + n % 10) ∷ [] ≡ cond t ((48 + n) ∷ []) ([] ++ ((48 + n % 10) ∷ []))
    by true e = ap (λ (d : ℕ). (48 + d) ∷ []) (small_digit n (ltb-true n 10 e))
    by false e = refl

pub below_ten : (k n : ℕ) → n < 10 → (48 + n % 10) ∷ [] ≡ digits (suc k) n
below_ten k n h =
    let small : n % 10 ≡ n = omega arith in
    rw (lt-ltb n 10 h, small)

-- signs
pub sign_below : (z : ℤ) → lt_z z (pos 0) ≡ true → is_below z ≡ true
sign_below (pos n) e = let h = ltb-true n 0 e in absurd (omega arith)
sign_below (negsuc n) e = refl

pub sign_natural : (z : ℤ) → lt_z z (pos 0) ≡ false → is_below z ≡ false
sign_natural (pos n) e = refl
sign_natural (negsuc n) e = absurd (apart (cc))

-- one more of the words
drop_front : (n : ℕ) (a b : List ℕ) → n ≤ length a → drop n (a ++ b) ≡ drop n a ++ b
drop_front zero a b h = refl
drop_front (suc n) [] b h = absurd (omega arith)
drop_front (suc n) (x ∷ a) b h = drop_front n a b (omega arith)

pub word_next : (l : List ℕ) (from k : ℕ) → from ≤ k → k < length l → slice from k l ++ (get_or l k 0 ∷ []) ≡ slice from (k + 1) l
word_next l from k begun h =
    let one : k + 1 ≡ suc k = omega arith in
    sym (ap (λ (n : ℕ). slice from n l) one ∙ ap (λ (m : List ℕ). drop from m) (take-suc l k 0 h)
    ∙ drop_front from (take k l) (get_or l k 0 ∷ []) (omega (arith, length-take-le k l (omega arith))))

pub word_none : (l : List ℕ) (from : ℕ) → [] ≡ slice from from l
word_none l from = sym (slice_empty from l)
