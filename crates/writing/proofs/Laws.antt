-- A list's text grows by one piece a turn, and what is written into an empty buffer is the text.
use Prim.Native.Nat.{ℕ, zero, suc, ◌+◌, ◌≤◌, ◌<◌}
use mathlib.Core.Path.{◌≡◌, refl, sym, ap, ◌∙◌}
use mathlib.Core.Bool.{Bool, false, cond}
use mathlib.Core.List.{List, [], ◌∷◌, ◌++◌, append-nil, append_assoc, map}
use native.Mathlib.Omega.{arith}
use native.Mathlib.Numerals.{add-one}
use borrow.Author.Tests.{ne_eqb}
use lib.Dec.{eqb, ltb}
use lib.IntN.{ℤ, pos, nat_abs}
use lib.ListN.{length, get_or, set, take, drop, replicate, length-append}
use lib.Seq.{take-suc, length-take-le}
use Rattle.card.specs.declared.Iter.{Iter}
use Rattle.notation.specs.Quoted.{quoted_bytes}
use Rattle.notation.specs.Text.{tails, joined, spell_step, spell_offsets}
use Rattle.notation.specs.Writing.{step_for, steps_for, offsets_from}
use Rattle.notation.specs.declared.Step.{Step}
use Rattle.writing_words.specs.Out.{overlay, wrote, no_text, joint}
use Rattle.notation.proofs.Lists.{several, is_none}

-- a whole text of an empty buffer
set_append : (l m : List ℕ) (b c : ℕ) → set (l ++ (c ∷ m)) (length l) b ≡ (l ++ (b ∷ [])) ++ m
set_append [] m b c = refl
set_append (a ∷ l) m b c = ap (λ (k : List ℕ). a ∷ k) (set_append l m b c)

overlay_all : (l t m : List ℕ) → length t ≤ length m → overlay (l ++ m) (length l) t ≡ l ++ (t ++ drop (length t) m)
overlay_all l [] m h = refl
overlay_all l (b ∷ t) [] h = absurd (omega arith)
overlay_all l (b ∷ t) (c ∷ m) h =
    let long : length l + 1 ≡ length (l ++ (b ∷ [])) = sym (length-append l (b ∷ [])) in
    ap (λ (k : List ℕ). overlay k (length l + 1) t) (set_append l m b c) ∙ ap (λ (n : ℕ). overlay ((l ++ (b ∷ [])) ++ m) n t) long
    ∙ overlay_all (l ++ (b ∷ [])) t m (omega arith) ∙ append_assoc l (b ∷ []) (t ++ drop (length t) m)

take_front : (t m : List ℕ) → take (length t) (t ++ m) ≡ t
take_front [] m = refl
take_front (b ∷ t) m = ap (λ (l : List ℕ). b ∷ l) (take_front t m)

pub text_there : (buffer t : List ℕ) → length t ≤ length buffer → take (length t) (overlay buffer 0 t) ≡ t
text_there buffer t h = ap (λ (l : List ℕ). take (length t) l) (overlay_all [] t buffer h) ∙ take_front t (drop (length t) buffer)

pub text_length : (t : List ℕ) → (wrote no_text t).length ≡ length t
unfolding wrote
text_length t = omega arith

pub text_taken : (t : List ℕ) → length t ≤ 512 → take (wrote no_text t).length (wrote no_text t).bytes ≡ t
unfolding wrote
text_taken t h = ap (λ (n : ℕ). take n (overlay (replicate 512 0) 0 t)) (text_length t) ∙ text_there (replicate 512 0) t h

-- lists, parted by commas
joined_snoc : (ts : List (List ℕ)) (t : List ℕ) → joined (quoted_bytes ",") (ts ++ (t ∷ [])) ≡ joined (quoted_bytes ",") ts ++ (joint (length ts) ++ t)
joined_snoc [] t = append-nil t
joined_snoc (u ∷ ts) t = ap (λ (l : List ℕ). u ++ l) (tails_snoc ts t) ∙ sym (append_assoc u (tails (quoted_bytes ",") ts) (44 ∷ t)) ∙ comma
  where
    tails_snoc : (ts : List (List ℕ)) (t : List ℕ) → tails (quoted_bytes ",") (ts ++ (t ∷ [])) ≡ tails (quoted_bytes ",") ts ++ (44 ∷ t)
    tails_snoc [] t = ap (λ (l : List ℕ). 44 ∷ l) (append-nil t)
    tails_snoc (v ∷ ts) t = ap (λ (l : List ℕ). 44 ∷ (v ++ l)) (tails_snoc ts t) ∙ ap (λ (l : List ℕ). 44 ∷ l) (sym (append_assoc v (tails (quoted_bytes ",") ts) (44 ∷ t)))

    comma : (u ++ tails (quoted_bytes ",") ts) ++ (44 ∷ t) ≡ (u ++ tails (quoted_bytes ",") ts) ++ (joint (suc (length ts)) ++ t)
    comma = rw (ne_eqb (suc (length ts)) 0 (omega arith))

map_snoc : {A B : Type 0} (f : A → B) (l : List A) (x : A) → map f (l ++ (x ∷ [])) ≡ map f l ++ (f x ∷ [])
map_snoc f [] x = refl
map_snoc f (a ∷ l) x = ap (λ (k : List _). f a ∷ k) (map_snoc f l x)

map_length : {A B : Type 0} (f : A → B) (l : List A) → length (map f l) ≡ length l
map_length f [] = refl
map_length f (a ∷ l) = ap suc (map_length f l)

-- one more of a list
pub joined_next : {A : Type 0} (f : A → List ℕ) (l : List A) (k : ℕ) (other : A) → k < length l
    → joined (quoted_bytes ",") (map f (take k l)) ++ (joint k ++ f (get_or l k other)) ≡ joined (quoted_bytes ",") (map f (take (k + 1) l))
joined_next f l k other h =
    let more : take (k + 1) l ≡ take k l ++ (get_or l k other ∷ []) = rw (add-one k) (take-suc l k other h) in
    let long : length (map f (take k l)) ≡ k = map_length f (take k l) ∙ length-take-le k l (omega arith) in
    sym (ap (λ (m : List _). joined (quoted_bytes ",") (map f m)) more ∙ ap (joined (quoted_bytes ",")) (map_snoc f (take k l) (get_or l k other)) ∙ joined_snoc (map f (take k l)) (f (get_or l k other))
    ∙ ap (λ (n : ℕ). joined (quoted_bytes ",") (map f (take k l)) ++ (joint n ++ f (get_or l k other))) long)

map_map : {A B C : Type 0} (g : B → C) (f : A → B) (l : List A) → map g (map f l) ≡ map (λ a. g (f a)) l
map_map g f [] = refl
map_map g f (a ∷ l) = ap (λ (k : List _). g (f a) ∷ k) (map_map g f l)

pub extents_next : {A : Type 0} (g : ℕ → List ℕ) (f : A → ℕ) (l : List A) (k : ℕ) (other : A) → k < length l
    → joined (quoted_bytes ",") (map g (map f (take k l))) ++ (joint k ++ g (f (get_or l k other))) ≡ joined (quoted_bytes ",") (map g (map f (take (k + 1) l)))
extents_next g f l k other h =
    ap (λ (m : List (List ℕ)). joined (quoted_bytes ",") m ++ (joint k ++ g (f (get_or l k other)))) (map_map g f (take k l)) ∙ joined_next (λ a. g (f a)) l k other h
    ∙ ap (joined (quoted_bytes ",")) (sym (map_map g f (take (k + 1) l)))

-- strides with their marks
steps_snoc : (k : ℕ) (ms : List Bool) (is : List Iter) (other : Iter) → k < length ms → k < length is
    → steps_for (take (suc k) ms) (take (suc k) is) ≡ steps_for (take k ms) (take k is) ++ (step_for (get_or is k other).stride (get_or ms k false) (get_or is k other).axis ∷ [])
steps_snoc k [] is other h l = absurd (omega arith)
steps_snoc k (m ∷ ms) [] other h l = absurd (omega arith)
steps_snoc zero (m ∷ ms) (i ∷ is) other h l = refl
steps_snoc (suc k) (m ∷ ms) (i ∷ is) other h l = ap (λ (s : List Step). step_for i.stride m i.axis ∷ s) (steps_snoc k ms is other (omega arith) (omega arith))

steps_long : (k : ℕ) (ms : List Bool) (is : List Iter) → k ≤ length is → length (steps_for (take k ms) (take k is)) ≡ k
steps_long zero ms is h = refl
steps_long (suc k) ms [] h = absurd (omega arith)
steps_long (suc k) [] (i ∷ is) h = ap suc (unmarked k is (omega arith))
  where
    unmarked : (k : ℕ) (is : List Iter) → k ≤ length is → length (steps_for [] (take k is)) ≡ k
    unmarked zero is h = refl
    unmarked (suc k) [] h = absurd (omega arith)
    unmarked (suc k) (i ∷ is) h = ap suc (unmarked k is (omega arith))
steps_long (suc k) (m ∷ ms) (i ∷ is) h = ap suc (steps_long k ms is (omega arith))

pub strides_next : (ms : List Bool) (is : List Iter) (k : ℕ) (other : Iter) → k < length ms → k < length is
    → joined (quoted_bytes ",") (map spell_step (steps_for (take k ms) (take k is))) ++ (joint k ++ spell_step (step_for (get_or is k other).stride (get_or ms k false) (get_or is k other).axis))
    ≡ joined (quoted_bytes ",") (map spell_step (steps_for (take (k + 1) ms) (take (k + 1) is)))
strides_next ms is k other h l =
    let t : Step = step_for (get_or is k other).stride (get_or ms k false) (get_or is k other).axis in
    let so : List Step = steps_for (take k ms) (take k is) in
    let more : steps_for (take (k + 1) ms) (take (k + 1) is) ≡ so ++ (t ∷ []) = rw (add-one k) (steps_snoc k ms is other h l) in
    sym (ap (λ (s : List Step). joined (quoted_bytes ",") (map spell_step s)) more ∙ ap (joined (quoted_bytes ",")) (map_snoc spell_step so t) ∙ joined_snoc (map spell_step so) (spell_step t)
    ∙ ap (λ (n : ℕ). joined (quoted_bytes ",") (map spell_step so) ++ (joint n ++ spell_step t)) (map_length spell_step so ∙ steps_long k ms is (omega arith)))

-- marks past the list play no part
pub steps_cut : (n : ℕ) (ms : List Bool) (is : List Iter) → steps_for (take n ms) (take n is) ≡ steps_for ms (take n is)
steps_cut zero ms is = refl
steps_cut (suc n) ms [] = refl
steps_cut (suc n) [] (i ∷ is) = refl
steps_cut (suc n) (m ∷ ms) (i ∷ is) = ap (λ (s : List Step). step_for i.stride m i.axis ∷ s) (steps_cut n ms is)

-- offsets
abbrev pub offset_there : ℕ → ℤ → List Step
offset_there axis z = cond (eqb (nat_abs z) 0) [] (step_for z false axis ∷ [])

offsets_append : (a b : List Step) → spell_offsets (a ++ b) ≡ spell_offsets a ++ spell_offsets b
offsets_append [] b = refl
offsets_append (s ∷ a) b = ap (λ (l : List ℕ). (43 ∷ spell_step s) ++ l) (offsets_append a b) ∙ sym (append_assoc (43 ∷ spell_step s) (spell_offsets a) (spell_offsets b))

from_snoc : (axis : ℕ) (zs : List ℤ) (z : ℤ) → offsets_from axis (zs ++ (z ∷ [])) ≡ offsets_from axis zs ++ offset_there (axis + length zs) z
from_snoc axis [] z = append-nil (offset_there axis z) ∙ ap (λ (k : ℕ). offset_there k z) (omega arith)
from_snoc axis (y ∷ zs) z =
    ap (λ (l : List Step). offset_there axis y ++ l) (from_snoc (axis + 1) zs z) ∙ sym (append_assoc (offset_there axis y) (offsets_from (axis + 1) zs) (offset_there (axis + 1 + length zs) z))
    ∙ ap (λ (k : ℕ). (offset_there axis y ++ offsets_from (axis + 1) zs) ++ offset_there k z) (omega arith)

pub offsets_next : (zs : List ℤ) (k : ℕ) → k < length zs
    → spell_offsets (offsets_from 0 (take k zs)) ++ spell_offsets (offset_there k (get_or zs k (pos 0))) ≡ spell_offsets (offsets_from 0 (take (k + 1) zs))
offsets_next zs k h =
    let more : take (k + 1) zs ≡ take k zs ++ (get_or zs k (pos 0) ∷ []) = rw (add-one k) (take-suc zs k (pos 0) h) in
    let long : length (take k zs) ≡ k = length-take-le k zs (omega arith) in
    sym (ap (λ (l : List ℤ). spell_offsets (offsets_from 0 l)) more ∙ ap spell_offsets (from_snoc 0 (take k zs) (get_or zs k (pos 0))) ∙ offsets_append (offsets_from 0 (take k zs)) (offset_there (0 + length (take k zs)) (get_or zs k (pos 0)))
    ∙ ap (λ (n : ℕ). spell_offsets (offsets_from 0 (take k zs)) ++ spell_offsets (offset_there n (get_or zs k (pos 0)))) (omega (arith, long)))

-- how many extents a list has
pub some_there : (es : List ℕ) → 1 ≤ length es → (is_none es ≡ false) × (several es ≡ ltb 1 (length es))
some_there es h = (ne_eqb (length es) 0 (λ e. omega arith), refl)
