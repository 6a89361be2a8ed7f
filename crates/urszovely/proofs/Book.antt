-- The layout book for C: two outcomes are equal, since each is an equality with the definition.
use Rattle.std.specs.Prelude.{Result, ⊤}
use Prim.Native.Nat.{ℕ}
use mathlib.Core.Path.{◌≡◌, sym, ap, ◌∙◌}
use mathlib.Core.List.{List}
use Rattle.answers.specs.declared.Refusal.{Refusal}
use Rattle.book.specs.Book.{lent_after, answer_numbers}
use Rattle.c_card.specs.Card.{card_from, four}
use Rattle.urszovely.specs.Book.{AsBlock, AsPage}

pub as_block_settled : (card : List ℕ) (marks : ℕ) (note before a b x y : List ℕ) → AsBlock card marks note before a x → AsBlock card marks note before b y
    → (a ≡ b) × (x ≡ y)
as_block_settled card marks note before a b x y h k =
    let same : h.written ≡ k.written = h.allowed ∙ sym k.allowed in (
      h.of_bytes ∙ ap (λ (r : Result ⊤ Refusal). lent_after r (card_from card marks) note before) same ∙ sym k.of_bytes,
      h.numbers ∙ ap (λ (r : Result ⊤ Refusal). four (answer_numbers r)) same ∙ sym k.numbers,
    )

pub as_page_settled : (block a b m n p q x y : List ℕ) → AsPage block a m p x → AsPage block b n q y → (a ≡ b) × (m ≡ n) × (p ≡ q) × (x ≡ y)
as_page_settled block a b m n p q x y h k =
    (h.of_card ∙ sym k.of_card, h.of_marks ∙ sym k.of_marks, h.of_note ∙ sym k.of_note, h.numbers ∙ sym k.numbers)
