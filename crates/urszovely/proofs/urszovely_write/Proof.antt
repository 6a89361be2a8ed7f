-- `urszovely::urszovely_write` answers what the library's question answers, in its four numbers, and leaves the same bytes.
use Rattle.std.specs.Prelude.{Result, ℕ}
use mathlib.Core.Path.{ap, ◌∙◌}
use lib.ListN.{length}
use borrow.Author.Rules.{rules}
use Rattle.answers.specs.declared.Refusal.{Refusal}
use Rattle.card.specs.declared.Card.{Card}
use Rattle.notation.specs.Writing.{written_answer, bytes_after}
use Rattle.urszovely.proofs.urszovely_write.Statement.{statement}
use Rattle.urszovely.proofs.urszovely_write.Tie as tie

returns : tie.Need-returns
returns c =
    let n = c in
    let w = n in
    let k = w in
    let bytes = k.args.text.now in (
      rw (c.four.ensures, n.in_numbers-numbers.ensures, w.write-written.ensures.0, k.card.ensures),
      w.write-written.ensures.1
          ∙ ap (λ (answer : Result ℕ Refusal). bytes_after answer k.card.result bytes) w.write-written.ensures.0
          ∙ ap (λ (card : Card). bytes_after (written_answer card (length bytes)) card bytes) k.card.ensures,
    )

pub urszovely_write_spec : {M : Type 1} → statement M
urszovely_write_spec =
    tie.close
    (tie.spec (λ c κs. search rules) (λ c κs. search rules) (λ c κs. search rules) (λ c κs. search rules) (λ c. search rules) returns)
