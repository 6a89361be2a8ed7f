-- `urszovely::urszovely_read` answers what the library's question answers: the layout as numbers, its marks, and four numbers.
use mathlib.Core.Path.{ap, ◌∙◌}
use borrow.Author.Rules.{rules}
use Rattle.urszovely.proofs.urszovely_read.Statement.{statement}
use Rattle.urszovely.proofs.urszovely_read.Tie as tie

returns : tie.Need-returns
returns c =
    let n = c in
    let b = n in
    let w = b in
    let r = w in
    record {
      reading = r.read-reading.result;
      allowed = r.read-reading.ensures;
      of_card = w.put_layout.ensures;
      of_marks = rw b.mark_bits.ensures;
      numbers = rw (c.four.ensures, n.in_numbers-numbers.ensures);
    }

pub urszovely_read_spec : {M : Type 1} → statement M
urszovely_read_spec =
    tie.close
    (tie.spec (λ c κs. search rules) (λ c κs. search rules) (λ c κs. search rules) (λ c κs. search rules) (λ c κs. search rules) returns)
