-- The layout book for C: what is promised of a block written and of a block read, in numbers.
use Rattle.std.specs.Prelude.{ℕ, ◌≡◌, List, [], ◌∷◌, length, Result, ⊤}
use Rattle.answers.specs.declared.Refusal.{Refusal}
use Rattle.book.specs.Book.{page_of, note_read, bytes_before, write_answer, lent_after, answer_numbers}
use Rattle.c_card.specs.Card.{card_from, four}
use Rattle.c_layout.specs.Layout.{mark_bits}
use Rattle.urszovely.specs.Canonical.{card_numbers}

pub record AsBlock (card : List ℕ) (marks : ℕ) (note before after answer : List ℕ) : Type 0 where
  pub written : Result ⊤ Refusal
  pub allowed : written ≡ write_answer (card_from card marks) (length note) (length before)
  pub of_bytes : after ≡ lent_after written (card_from card marks) note before
  pub numbers : answer ≡ four (answer_numbers written)

-- the card with its marks, and where in the block the note begins and how long it is, both 0 where refused
abbrev pub note_place : Result ⊤ Refusal → List ℕ → List ℕ
note_place answer block = bytes_before answer ∷ length (note_read answer block) ∷ []

pub record AsPage (block card marks note answer : List ℕ) : Type 0 where
  pub of_card : card ≡ card_numbers (page_of block).card
  pub of_marks : marks ≡ mark_bits (page_of block).card.marks ∷ []
  pub of_note : note ≡ note_place (page_of block).answer block
  pub numbers : answer ≡ four (answer_numbers (page_of block).answer)
