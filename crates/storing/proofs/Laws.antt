-- A page by what its block comes to.
use Rattle.std.specs.Prelude.{Err, Ok}
use Prim.Native.Nat.{ℕ, ◌≤◌}
use mathlib.Core.Path.{◌≡◌, refl}
use mathlib.Core.Bool.{true, ◌&&◌}
use mathlib.Core.List.{List}
use borrow.Author.Tests.{leb-true}
use lib.Dec.{leb}
use Rattle.answers.specs.Refusals.{no_refusal}
use Rattle.laws.proofs.Tests.{three_of}
use Rattle.answers.specs.declared.Refusal.{Refusal}
use Rattle.card.specs.Card.{no_card}
use Rattle.card.specs.Admission.{counts_fit}
use Rattle.book.specs.Bytes.{field}
use Rattle.book.specs.Book.{card_in, read_answer, page_of}
use Rattle.book.specs.declared.Page.{Page}

pub page_refused : (block : List ℕ) (r : Refusal) → read_answer block ≡ Err r → record { answer = Err r; card = no_card } ≡ page_of block
page_refused block r e = rw e

pub page_done : (block : List ℕ) → read_answer block ≡ no_refusal → record { answer = no_refusal; card = card_in block } ≡ page_of block
page_done block e = rw e

pub counts_in : (block : List ℕ) → counts_fit (card_in block) ≡ (leb 1 (field 1 0 block) && leb (field 1 0 block) 8 && leb (field 1 1 block) 4)
unfolding card_in
counts_in block = refl

pub few_in : (a b : ℕ) → (leb 1 a && leb a 8 && leb b 4) ≡ true → (a ≤ 8) × (b ≤ 4)
few_in a b t = let parts = three_of (leb 1 a) (leb a 8) (leb b 4) t in (leb-true a 8 parts.1, leb-true b 4 parts.2)
