-- Columns of eight put into a list one after the other: those that were put stay, and so do those that were not.
use mathlib.Core.Path.{◌≡◌, refl, ap, ◌∙◌}
use mathlib.Core.List.{List, ◌∷◌, map}
use Prim.Native.Nat.{ℕ, ◌+◌, ◌*◌, ◌≤◌, ◌<◌}
use native.Mathlib.Decide.{ℕ_discrete}
use native.Mathlib.Nat.{not-suc-le-zero}
use native.Mathlib.Omega.{arith}
use lib.ListN.{length, get_or, set, length-set}
use lib.Seq.{get_or-set_same, get_or-set_other}
use Rattle.laws.proofs.Columns.{Filled}
use Rattle.card.specs.Lists.{slots}
use Rattle.card.proofs.ReadBack.{eight_at}
use Rattle.c_packed.specs.Clauses.{Put}

-- one column, entry by entry
module _ {A : Type 0} (other : A) (column : ℕ) (value : ℕ → A) where
  pub put_none : (l : List A) → Put other column 0 value l l
  put_none l = record { whole = refl; there = λ j h. absurd (not-suc-le-zero h); others = λ c j h apart. refl }

  pub put_more : (k : ℕ) {before l : List A} → k < 8 → 8 * column + k < length l → Put other column k value before l
      → Put other column (k + 1) value before (set l (8 * column + k) (value k))
  put_more k {before} {l} small room p = record {
    whole = length-set l (8 * column + k) (value k) ∙ p.whole;
    there = λ j h.
        elim (ℕ_discrete j k) [
          | yes same ↦ rw same (get_or-set_same l (8 * column + k) (value k) other room)
          | no apart ↦ get_or-set_other l (8 * column + k) (8 * column + j) (value k) other (λ e. apart (omega arith)) ∙ p.there j (omega arith)
        ];
    others = λ c j h apart. get_or-set_other l (8 * column + k) (8 * c + j) (value k) other (λ e. apart (omega arith)) ∙ p.others c j h apart;
  }

-- n columns, of which those before one were put
module _ {A : Type 0} (other : A) (value : ℕ → ℕ → A) (n : ℕ) (first : List A) where
  pub record Upto (column : ℕ) (l : List A) : Type 0 where
    pub whole : length l ≡ 8 * n
    pub there : (c j : ℕ) → c < column → j < 8 → get_or l (8 * c + j) other ≡ value c j
    pub later : (c j : ℕ) → column ≤ c → j < 8 → get_or l (8 * c + j) other ≡ get_or first (8 * c + j) other

  pub upto_none : length first ≡ 8 * n → Upto 0 first
  upto_none e = record { whole = e; there = λ c j below h. absurd (not-suc-le-zero below); later = λ c j from h. refl }

  pub upto_more : (column : ℕ) {entries : ℕ → A} {before after : List A} → Upto column before → Put other column 8 entries before after
      → ((j : ℕ) → j < 8 → entries j ≡ value column j) → Upto (column + 1) after
  upto_more column u p same = record {
    whole = p.whole ∙ u.whole;
    there = λ c j below h.
        elim (ℕ_discrete c column) [
          | yes here ↦ rw here (p.there j h ∙ same j h)
          | no apart ↦ p.others c j h apart ∙ u.there c j (omega arith) h
        ];
    later = λ c j from h. p.others c j h (λ e. absurd (omega arith)) ∙ u.later c j (omega arith) h;
  }

  pub upto_all : {l : List A} → Upto n l → Filled other value n 8 l
  upto_all u = record { whole = u.whole; so_far = λ c j below h. u.there c j below h }

-- the first of eight numbers from a place on stands at that place
pub first_at : (f : ℕ → ℕ) (at : ℕ) (l : List ℕ) → ◌≡◌ {A = List ℕ} (f at ∷ l) (f (at + 0) ∷ l)
first_at f at l = let e : at ≡ at + 0 = omega arith in ap (λ (n : ℕ). f n ∷ l) e

-- an entry of a column
pub entry_at : (f : ℕ → ℕ) {l : List ℕ} → l ≡ map f slots → (j : ℕ) → j < 8 → get_or l j 0 ≡ f j
entry_at f e j h = ap (λ (l : List ℕ). get_or l j 0) e ∙ eight_at f 0 j h
