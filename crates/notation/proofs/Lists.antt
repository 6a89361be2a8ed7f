-- Laws of the spelling.
use Prim.Native.Nat.{ℕ, zero, suc, ◌+◌, ◌≤◌, ◌<◌}
use mathlib.Core.Path.{◌≡◌, refl, sym, ap, ◌∙◌}
use mathlib.Core.Bool.{Bool, true, false, cond, ◌&&◌, and-eq-true_iff}
use mathlib.Core.List.{List, [], ◌∷◌, ◌++◌, append-nil, append_assoc, map}
use native.Mathlib.Omega.{arith}
use lib.Dec.{eqb, ltb}
use lib.ListN.{length}
use Rattle.notation.specs.Quoted.{quoted_bytes}
use Rattle.notation.specs.Text.{tails, joined, axis_meant, spell_step, Lists, spell_lists, spell_offsets, Each, Rising}
use Rattle.notation.specs.declared.Step.{Step}

-- more than one, and none
abbrev pub several : List ℕ → Bool
several es = ltb 1 (length es)

abbrev pub is_none : List ℕ → Bool
is_none es = eqb (length es) 0

-- the replica where there is one
abbrev pub spell_some : Lists → List ℕ
spell_some l = quoted_bytes "+R[" ++ (spell_lists (several l.extents) l ++ quoted_bytes "]")

-- a case of a test
pub pick : {A : Type 0} (P : A → Type 0) (t : Bool) {x y : A} → (t ≡ true → P x) → (t ≡ false → P y) → P (cond t x y)
pick P true f g = f refl
pick P false f g = g refl

-- a case of two tests
pub pick_both : {A : Type 0} (P : A → Type 0) (t u : Bool) {x y : A} → (t ≡ true → u ≡ true → P x) → P y → P (cond (t && u) x y)
pick_both P true true f g = f refl refl
pick_both P true false f g = g
pick_both P false u f g = g

pub both : (a b : Bool) → (a && b) ≡ true → (a ≡ true) × (b ≡ true)
both a b h = (and-eq-true_iff a b).0 h

pub map_append : {A : Type 0} {B : Type 0} (f : A → B) (l m : List A) → map f (l ++ m) ≡ map f l ++ map f m
map_append f [] m = refl
map_append f (a ∷ l) m = ap (λ (k : List _). f a ∷ k) (map_append f l m)

-- texts, each with a comma after it
abbrev pub lead : List (List ℕ) → List ℕ
lead [] = []
lead (t ∷ ts) = t ++ (44 ∷ lead ts)

pub lead_snoc : (ts : List (List ℕ)) (t : List ℕ) → lead (ts ++ (t ∷ [])) ≡ lead ts ++ (t ++ (44 ∷ []))
lead_snoc [] t = refl
lead_snoc (u ∷ ts) t = ap (λ (l : List ℕ). u ++ (44 ∷ l)) (lead_snoc ts t) ∙ sym (append_assoc u (44 ∷ lead ts) (t ++ (44 ∷ [])))

tails_mid : (ts : List (List ℕ)) (t : List ℕ) (us : List (List ℕ)) → tails (quoted_bytes ",") (ts ++ (t ∷ us)) ≡ 44 ∷ (lead ts ++ (t ++ tails (quoted_bytes ",") us))
tails_mid [] t us = refl
tails_mid (u ∷ ts) t us = ap (λ (l : List ℕ). 44 ∷ (u ++ l)) (tails_mid ts t us) ∙ ap (λ (l : List ℕ). 44 ∷ l) (sym (append_assoc u (44 ∷ lead ts) (t ++ tails (quoted_bytes ",") us)))

-- a list around one of its texts
pub joined_mid : (ts : List (List ℕ)) (t : List ℕ) (us : List (List ℕ)) → joined (quoted_bytes ",") (ts ++ (t ∷ us)) ≡ lead ts ++ (t ++ tails (quoted_bytes ",") us)
joined_mid [] t us = refl
joined_mid (u ∷ ts) t us = ap (λ (l : List ℕ). u ++ l) (tails_mid ts t us) ∙ sym (append_assoc u (44 ∷ lead ts) (t ++ tails (quoted_bytes ",") us))

pub offsets_mid : (ss : List Step) (s : Step) → spell_offsets (ss ++ (s ∷ [])) ≡ spell_offsets ss ++ (43 ∷ spell_step s)
offsets_mid [] s = append-nil (43 ∷ spell_step s)
offsets_mid (p ∷ ss) s = ap (λ (l : List ℕ). (43 ∷ spell_step p) ++ l) (offsets_mid ss s) ∙ sym (append_assoc (43 ∷ spell_step p) (spell_offsets ss) (43 ∷ spell_step s))

pub each_append : {A : Type 0} (P : A → Type 0) (l m : List A) → Each P l → Each P m → Each P (l ++ m)
each_append P [] m e f = f
each_append P (b ∷ l) m e f = (e.0, each_append P l m e.1 f)

pub rising_snoc : (from : ℕ) (ss : List Step) (end : ℕ) (s : Step) → Rising from ss end → end ≤ axis_meant s.place → Rising from (ss ++ (s ∷ [])) (axis_meant s.place + 1)
rising_snoc from [] end s r h = (omega arith, omega arith)
rising_snoc from (p ∷ ss) end s r h = (r.0, rising_snoc (axis_meant p.place + 1) ss end s r.1 h)

pub rising_more : (from : ℕ) (ss : List Step) (end later : ℕ) → Rising from ss end → end ≤ later → Rising from ss later
rising_more from [] end later r h = omega arith
rising_more from (p ∷ ss) end later r h = (r.0, rising_more (axis_meant p.place + 1) ss end later r.1 h)

-- no more axes than there are
pub rising_length : (from : ℕ) (ss : List Step) (end : ℕ) → Rising from ss end → from + length ss ≤ end
rising_length from [] end r = omega arith
rising_length from (p ∷ ss) end r = omega (arith, rising_length (axis_meant p.place + 1) ss end r.1, r.0)
