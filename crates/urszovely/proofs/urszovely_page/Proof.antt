-- `urszovely::urszovely_page` answers what the library's question answers: the card as numbers, its marks, where the note lies, and four numbers.
use mathlib.Core.Path.{ap, ◌∙◌}
use mathlib.Core.List.{[], ◌∷◌}
use Prim.Native.Nat.{ℕ}
use borrow.Author.Rules.{rules}
use Rattle.book.specs.Book.{answer_numbers}
use Rattle.book.specs.declared.Page.{Page}
use Rattle.c_card.specs.Card.{four}
use Rattle.c_layout.specs.Layout.{mark_bits}
use Rattle.urszovely.specs.Canonical.{card_numbers}
use Rattle.urszovely.specs.Book.{note_place}
use Rattle.urszovely.proofs.urszovely_page.Statement.{statement}
use Rattle.urszovely.proofs.urszovely_page.Tie as tie

note_place_requires : tie.Need-note_place-requires
note_place_requires c κs = let r = c in ap (λ (q : Page). q.answer) r.read_block-page.ensures

returns : tie.Need-returns
returns c =
    let n = c in
    let p = n in
    let b = p in
    let w = b in
    let r = w in
    let block = r.args.block.now in
    record {
      of_card = w.card_numbers.ensures ∙ ap (λ (q : Page). card_numbers q.card) r.read_block-page.ensures;
      of_marks = ap (λ (k : ℕ). k ∷ []) (b.mark_bits.ensures ∙ ap (λ (q : Page). mark_bits q.card.marks) r.read_block-page.ensures);
      of_note = p.note_place.ensures ∙ ap (λ (q : Page). note_place q.answer block) r.read_block-page.ensures;
      numbers = c.four.ensures ∙ ap four (n.in_numbers-numbers.ensures ∙ ap (λ (q : Page). answer_numbers q.answer) r.read_block-page.ensures);
    }

pub urszovely_page_spec : {M : Type 1} → statement M
urszovely_page_spec =
    tie.close
    (tie.spec
    (λ c κs. search rules)
    (λ c κs. search rules)
    (λ c κs. search rules)
    note_place_requires
    (λ c κs. search rules)
    (λ c κs. search rules)
    returns)
