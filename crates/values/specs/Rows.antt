-- Rows of values of any type: what stands at a place, and every entry anew.
use Rattle.std.specs.Prelude.{ℕ, suc, List, [], ◌∷◌, get_or}

module _ {A : Type 0} where
  -- every entry of a list anew, from its place and from what it was
  unfoldable pub each : (ℕ → A → A) → List A → List A
  each f [] = []
  each f (x ∷ l) = f 0 x ∷ each (λ k. f (suc k)) l

  -- what stands in a row at a place; past the end `other`
  abbrev pub entry : A → List (List A) → ℕ → ℕ → A
  entry other rows row place = get_or (get_or rows row []) place other

module _ {A : Type 0} where
  -- every entry of every row anew, from its row and place and from what it was
  abbrev pub each_entry : (ℕ → ℕ → A → A) → List (List A) → List (List A)
  each_entry f = each (λ row. each (f row))
