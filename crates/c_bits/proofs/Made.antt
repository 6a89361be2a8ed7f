-- Values made from their numbers: a list each of whose entries is made anew without looking at what was there, and one turn of a loop that
-- makes them so from what stands there. By induction on the list.
use mathlib.Core.Path.{◌≡◌, refl, ap, ◌∙◌}
use mathlib.Core.List.{List, [], ◌∷◌}
use Prim.Native.Nat.{ℕ, suc, ◌+◌, ◌/◌, ◌%◌, ◌<◌}
use lib.ListN.{length, get_or, set}
use Rattle.c_bits.specs.declared.Bits.{Bits}
use Rattle.c_bits.specs.declared.Bits.TheVariants.{Empty}
use Rattle.values.specs.Rows.{each, entry}
use Rattle.values.proofs.Rows.{Anew, anew_next, anew_here}
use Rattle.c_bits.specs.Bits.{made}

each_made : {A : Type 0} (f : ℕ → A) (l : List A) → each (λ k given. f k) l ≡ made (length l) f
unfolding each made
each_made f [] = refl
each_made f (x ∷ l) = ap (λ t. f 0 ∷ t) (each_made (λ k. f (suc k)) l)

pub made_anew : {A : Type 0} (f : ℕ → A) (l : List A) (n : ℕ) → length l ≡ n → each (λ k given. f k) l ≡ made n f
made_anew f l n e = each_made f l ∙ ap (λ (m : ℕ). made m f) e

-- what writing a register back makes of entry j
abbrev pub written : {A : Type 0} → (Bits → A → A) → List (List Bits) → ℕ → A → A
written write rows j = write (entry Empty rows (j / 8) (j % 8))

-- one turn: entry n is made of what stands there
pub anew_turn : {A : Type 0} (other : A) (size : ℕ) (f : ℕ → A → A) (l now next : List A) (n : ℕ) → Anew size f l now n → n < size
    → next ≡ set now n (f n (get_or now n other)) → Anew size f l next (n + 1)
anew_turn other size f l now next n a h e =
    rw e (anew_next other size f l now n (f n (get_or now n other)) a h (ap (f n) (anew_here other size f l now n a h)))
