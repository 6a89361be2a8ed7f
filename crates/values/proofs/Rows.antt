-- What stands in rows after every entry is made anew, and rows with equal entries: by induction on the lists.
use mathlib.Core.Path.{◌≡◌, refl, sym, ap, ◌∙◌}
use mathlib.Core.Bool.{Bool, cond}
use mathlib.Core.List.{List, [], ◌∷◌, map}
use Prim.Native.Nat.{ℕ, zero, suc, ◌+◌, ◌≤◌, ◌<◌, zero-le}
use native.Mathlib.Nat.{le_of_suc-le-suc, not-suc-le-zero}
use native.Mathlib.Omega.{arith}
use borrow.Author.Tests.{lt-ltb, le-ltb}
use native.Mathlib.Decide.{dec_le, ℕ_discrete}
use lib.Dec.{ltb}
use lib.ListN.{length, get_or, set, length-set}
use lib.Seq.{ext_get_or, get_or-set_same, get_or-set_other}
use Rattle.values.specs.Rows.{each, entry, each_entry}

module _ {A : Type 0} where
  pub each_length : (f : ℕ → A → A) (l : List A) → length (each f l) ≡ length l
  unfolding each
  each_length f [] = refl
  each_length f (x ∷ l) = ap suc (each_length (λ k. f (suc k)) l)

  -- at a place: what the rule makes of what was there
  pub each_at : (f : ℕ → A → A) (l : List A) (k : ℕ) (other : A) → k < length l → get_or (each f l) k other ≡ f k (get_or l k other)
  unfolding each
  each_at f [] k other h = absurd (not-suc-le-zero h)
  each_at f (x ∷ l) zero other h = refl
  each_at f (x ∷ l) (suc k) other h = each_at (λ j. f (suc j)) l k other (le_of_suc-le-suc h)

  -- also past the end, where the rule keeps what stands there
  pub each_past : (f : ℕ → A → A) (l : List A) (k : ℕ) (other : A) → f k other ≡ other → get_or (each f l) k other ≡ f k (get_or l k other)
  unfolding each
  each_past f [] k other e = sym e
  each_past f (x ∷ l) zero other e = refl
  each_past f (x ∷ l) (suc k) other e = each_past (λ j. f (suc j)) l k other e

  -- entries made anew one after the other: those before n are made, the others are as they were
  abbrev pub up_to : ℕ → (ℕ → A → A) → ℕ → A → A
  up_to n f k x = cond (ltb k n) (f k x) x

  -- a list whose entries are those that the rule makes
  pub each_equal : (other : A) (f : ℕ → A → A) (l m : List A) → length m ≡ length l
      → ((k : ℕ) → k < length l → get_or m k other ≡ f k (get_or l k other)) → m ≡ each f l
  each_equal other f l m e same =
      ext_get_or other m (each f l) (e ∙ sym (each_length f l))
      (λ k h. let inside : k < length l = rw e at h in same k inside ∙ sym (each_at f l k other inside))

  each_none : (other : A) (f : ℕ → A → A) (l : List A) → l ≡ each (up_to 0 f) l
  each_none other f l =
      each_equal other (up_to 0 f) l l refl (λ k h. rw (le-ltb k 0 (omega arith)))

  each_next : (other : A) (f : ℕ → A → A) (l : List A) (n : ℕ) (x : A) → n < length l → x ≡ f n (get_or l n other)
      → set (each (up_to n f) l) n x ≡ each (up_to (n + 1) f) l
  each_next other f l n x h e =
      each_equal other (up_to (n + 1) f) l (set (each (up_to n f) l) n x) (length-set (each (up_to n f) l) n x ∙ each_length (up_to n f) l)
      (λ k i. at k i (ℕ_discrete k n))
    where
      turned : (k : ℕ) → (k ≡ n → ⊥) → Dec (k ≤ n) → ltb k n ≡ ltb k (n + 1)
      turned k d (yes p) = lt-ltb k n (omega arith) ∙ sym (lt-ltb k (n + 1) (omega arith))
      turned k d (no p) = le-ltb k n (omega arith) ∙ sym (le-ltb k (n + 1) (omega arith))

      at : (k : ℕ) → k < length l → Dec (k ≡ n) → get_or (set (each (up_to n f) l) n x) k other ≡ up_to (n + 1) f k (get_or l k other)
      at k i (yes same) =
          rw (same, lt-ltb n (n + 1) (omega arith))
          (get_or-set_same (each (up_to n f) l) n x other (rw (each_length (up_to n f) l) h) ∙ e)
      at k i (no other_place) =
          get_or-set_other (each (up_to n f) l) n k x other other_place
          ∙ each_at (up_to n f) l k other i
          ∙ ap (λ (b : Bool). cond b (f k (get_or l k other)) (get_or l k other)) (turned k other_place (dec_le k n))

  each_all : (other : A) (f : ℕ → A → A) (l : List A) (n : ℕ) → length l ≡ n → each (up_to n f) l ≡ each f l
  each_all other f l n e =
      each_equal other f l (each (up_to n f) l) (each_length (up_to n f) l)
      (λ k h. each_at (up_to n f) l k other h ∙ rw (lt-ltb k n (rw (sym e) h)))

-- the image of what stands at a place, past the end whatever
pub map_at : {A B : Type 0} (f : A → B) (l : List A) (k : ℕ) (x : A) (y : B) → k < length l → f (get_or l k x) ≡ get_or (map f l) k y
map_at f [] k x y h = absurd (not-suc-le-zero h)
map_at f (z ∷ l) zero x y h = refl
map_at f (z ∷ l) (suc k) x y h = map_at f l k x y (le_of_suc-le-suc h)

-- A loop that makes the entries anew, at entry n: the list has as many as said, and those before n are made
abbrev pub Anew : {A : Type 0} → ℕ → (ℕ → A → A) → List A → List A → ℕ → Type 0
Anew size f l now n = (n ≤ size) × (length l ≡ size) × (length now ≡ size) × (now ≡ each (up_to n f) l)

module _ {A : Type 0} (other : A) (size : ℕ) (f : ℕ → A → A) (l : List A) where
  pub anew_none : length l ≡ size → Anew size f l l 0
  anew_none e = (zero-le, e, e, each_none other f l)

  pub anew_next : (now : List A) (n : ℕ) (x : A) → Anew size f l now n → n < size → x ≡ f n (get_or l n other) → Anew size f l (set now n x) (n + 1)
  anew_next now n x a h e = (
    omega arith,
    a.1,
    length-set now n x ∙ a.2,
    ap (λ (m : List A). set m n x) a.3 ∙ each_next other f l n x (rw a.1 h) e,
  )

  -- at entry n stands what was there
  pub anew_here : (now : List A) (n : ℕ) → Anew size f l now n → n < size → get_or now n other ≡ get_or l n other
  anew_here now n a h =
      ap (λ (m : List A). get_or m n other) a.3 ∙ each_at (up_to n f) l n other (rw a.1 h) ∙ rw (le-ltb n n (omega arith))

  pub anew_all : (now : List A) (n : ℕ) → Anew size f l now n → size ≤ n → now ≡ each f l
  anew_all now n a h =
      let end : n ≡ size = omega (arith, a.0) in
      a.3 ∙ ap (λ (m : ℕ). each (up_to m f) l) end ∙ each_all other f l size a.1

-- rows of one shape
module _ {A : Type 0} where
  pub record Shape (rows columns : ℕ) (l : List (List A)) : Type 0 where
    pub of_rows : length l ≡ rows
    pub of_columns : (r : ℕ) → r < rows → length (get_or l r []) ≡ columns

  -- an entry after every entry is made anew
  pub entry_each : (f : ℕ → ℕ → A → A) (l : List (List A)) (r k : ℕ) (other : A) → k < length (get_or l r [])
      → entry other (each_entry f l) r k ≡ f r k (entry other l r k)
  unfolding each
  entry_each f l r k other h =
      ap (λ (row : List A). get_or row k other) (each_past (λ row. each (f row)) l r [] refl) ∙ each_at (f r) (get_or l r []) k other h

  -- and where the rule keeps what stands there, also past the end
  pub entry_kept : (f : ℕ → ℕ → A → A) (l : List (List A)) (r k : ℕ) (other : A) → ((x : A) → f r k x ≡ x)
      → entry other (each_entry f l) r k ≡ entry other l r k
  unfolding each
  entry_kept f l r k other e =
      ap (λ (row : List A). get_or row k other) (each_past (λ row. each (f row)) l r [] refl)
      ∙ each_past (f r) (get_or l r []) k other (e other)
      ∙ e (get_or (get_or l r []) k other)

  pub each_shape : (f : ℕ → ℕ → A → A) (l : List (List A)) (rows columns : ℕ) → Shape rows columns l → Shape rows columns (each_entry f l)
  unfolding each
  each_shape f l rows columns s = record {
    of_rows = each_length (λ row. each (f row)) l ∙ s.of_rows;
    of_columns = λ r h. ap length (each_past (λ row. each (f row)) l r [] refl) ∙ each_length (f r) (get_or l r []) ∙ s.of_columns r h;
  }

  -- rows of one shape with equal entries are equal
  pub rows_equal : (other : A) (l m : List (List A)) (rows columns : ℕ) → Shape rows columns l → Shape rows columns m
      → ((r k : ℕ) → r < rows → k < columns → entry other l r k ≡ entry other m r k) → l ≡ m
  rows_equal other l m rows columns s t same =
      ext_get_or [] l m (s.of_rows ∙ sym t.of_rows)
      (λ r h.
      let inside : r < rows = rw s.of_rows at h in
      ext_get_or other (get_or l r []) (get_or m r []) (s.of_columns r inside ∙ sym (t.of_columns r inside))
      (λ k i. same r k inside (rw (s.of_columns r inside) at i)))
