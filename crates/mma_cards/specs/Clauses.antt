-- What the functions inside promise each other of a form's six numbers and of its card. Nothing here has to be believed.
use Rattle.std.specs.Prelude.{ℕ, ◌+◌, ◌≤◌, ◌≡◌, false, List, [], ◌∷◌, ◌++◌, pos, length, replicate}
use Rattle.card.specs.Card.{counted}
use Rattle.card.specs.declared.Iter.{Iter}
use Rattle.card.specs.declared.Iters.{Iters}
use Rattle.card.specs.declared.Card.{Card}
use Rattle.mma_kinds.specs.declared.KindForm.{KindForm}
use Rattle.mma_kinds.specs.Layouts.{cut, form_iters}

-- no number is 0, and none is large
pub record FormSound (f : KindForm) : Type 0 where
  pub some_next : 1 ≤ f.next
  pub few_next : f.next ≤ 8
  pub some_halves : 1 ≤ f.halves
  pub few_halves : f.halves ≤ 2
  pub some_repeats : 1 ≤ f.repeats
  pub few_repeats : f.repeats ≤ 32
  pub some_matrices : 1 ≤ f.matrices
  pub few_matrices : f.matrices ≤ 4
  pub some_warps : 1 ≤ f.warps
  pub few_warps : f.warps ≤ 4

-- iters with more behind them, but for those of extent 1
abbrev pub Follows : Iters → Iters → List Iter → Type 0
Follows before after more = (l : List Iter) → before ≡ counted l → length l + length more ≤ 8 → after ≡ counted (l ++ cut more)

-- the card of a form with so many registers
abbrev pub form_card : KindForm → ℕ → Card
form_card f registers =
    record {
      shard = counted (cut (form_iters f));
      marks = replicate 8 false;
      replica = counted [];
      offset = replicate 8 (pos 0);
      lengths = 1 ∷ f.warps ∷ 32 ∷ 1 ∷ 1 ∷ 1 ∷ 1 ∷ registers ∷ [];
      swizzle = record { m = 0; b = 0; s = 3 };
    }
