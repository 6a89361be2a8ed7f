-- `verdict::judge_admitted` is room for the cells, and then the verdict in them; the rest of the caller's table stays.
use mathlib.Core.Path.{◌≡◌, sym, ◌∙◌}
use borrow.Author.Rules.{rules}
use lib.ListN.{get_or}
use lib.Seq.{length-take-le}
use Rattle.card.specs.Card.{cells}
use Rattle.card.specs.Packed.{card_of}
use Rattle.card.specs.declared.Card.{Card}
use Rattle.card.proofs.Admitted.{measured}
use Rattle.idle.proofs.Theorems.{checks_passed}
use Rattle.claiming_in_order.proofs.Promises.{too_short, whole_table}
use Rattle.verdict.proofs.judge_admitted.Statement.{statement}
use Rattle.verdict.proofs.judge_admitted.Tie as tie

abbrev card : tie.Start → Card
card s = card_of s.args.numbers.now s.args.strides.now

is_cells : (s : tie.Start) → get_or s.args.numbers.now 47 0 ≡ cells (card s)
is_cells s =
    (measured s.args.numbers.now s.args.strides.now (record { whole = s.requires.0; admitted = checks_passed (card s) s.requires.1 })).cells_are

returns : tie.Need-returns-then-table-cells
returns c = let s = c in too_short (card s.before.before.before.before) s.args.table.now s.requires.1 (is_cells s.before.before.before.before) c.if-table-cells.true

slice_aggregate_judge_cells : tie.Need-slice_bounds-judge_cells-end-2
slice_aggregate_judge_cells c =
    let s = c in sym (length-take-le (get_or s.args.numbers.now 47 0) s.args.table.now c.if-table-cells.false)

judge_cells_requires : tie.Need-judge_cells-requires
judge_cells_requires c κs =
    let s = c in
    (s.requires, length-take-le (get_or s.args.numbers.now 47 0) s.args.table.now c.if-table-cells.false ∙ is_cells s.before.before.before.before.before)

returns_2 : tie.Need-returns
returns_2 c =
    let k = c in
    let i = k in
    let s = i in
    whole_table (card s.before.before.before.before.before.before.before.before) s.args.table.now (is_cells s.before.before.before.before.before.before.before.before) i.if-table-cells.false k.judge_cells.ensures

pub judge_admitted_spec : {M : Type 1} → statement M
judge_admitted_spec =
    tie.close
    (tie.spec (λ c. search rules) returns (λ c. search rules) slice_aggregate_judge_cells judge_cells_requires (λ c. search rules) returns_2)
