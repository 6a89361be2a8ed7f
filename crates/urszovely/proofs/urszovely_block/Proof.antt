-- `urszovely::urszovely_block` answers what the library's question answers, in its four numbers, and leaves the same bytes.
use mathlib.Core.Path.{ap, ◌∙◌}
use lib.ListN.{length}
use borrow.Author.Rules.{rules}
use Rattle.card.specs.declared.Card.{Card}
use Rattle.book.specs.Book.{write_answer, lent_after}
use Rattle.urszovely.proofs.urszovely_block.Statement.{statement}
use Rattle.urszovely.proofs.urszovely_block.Tie as tie

returns : tie.Need-returns
returns c =
    let n = c in
    let w = n in
    let k = w in
    let s = k in
    let note = s.args.note.now in
    let bytes = s.args.bytes.now in
    record {
      written = w.write_block-written.result;
      allowed = w.write_block-written.ensures.0 ∙ ap (λ (card : Card). write_answer card (length note) (length bytes)) k.card.ensures;
      of_bytes = w.write_block-written.ensures.1 ∙ ap (λ (card : Card). lent_after w.write_block-written.result card note bytes) k.card.ensures;
      numbers = rw (c.four.ensures, n.in_numbers-numbers.ensures);
    }

pub urszovely_block_spec : {M : Type 1} → statement M
urszovely_block_spec =
    tie.close
    (tie.spec (λ c κs. search rules) (λ c κs. search rules) (λ c κs. search rules) (λ c κs. search rules) (λ c. search rules) returns)
