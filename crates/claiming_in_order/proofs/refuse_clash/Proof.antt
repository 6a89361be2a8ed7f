-- `claiming_in_order::refuse_clash` places the row again, reads the clash off it and the table, and clears the table.
use mathlib.Core.Path.{◌≡◌, ap, ◌∙◌}
use mathlib.Core.List.{List}
use Prim.Native.Nat.{ℕ}
use borrow.Author.Rules.{rules}
use Rattle.card.specs.Packed.{card_of}
use Rattle.card.specs.declared.Card.{Card}
use Rattle.rules.specs.Copies.{copy_cells}
use Rattle.owners.specs.Owners.{clash_of}
use Rattle.claiming_runs.proofs.Laws.{row_ready}
use Rattle.claiming_in_order.proofs.Laws.{row_cells}
use Rattle.claiming_in_order.proofs.refuse_clash.Statement.{statement}
use Rattle.claiming_in_order.proofs.refuse_clash.Tie as tie

abbrev card : tie.Start → Card
card s = card_of s.args.numbers.now s.args.strides.now

abbrev start : tie.After-place_row → tie.Start
start p = p.before.before.before.before

is_placed : (p : tie.After-place_row) → p.place_row.new.row ≡ copy_cells (card (start p)) (start p).args.flat.0
is_placed p = row_cells (card (start p)) (start p).args.flat.0 p.place_row.ensures (start p).requires.one_each

find_clash_requires : tie.Need-find_clash-refusal-requires
find_clash_requires c κs =
    let p = c in
    let s = start p.before.before in
    let ready = row_ready (card s) s.args.flat.0 s.args.table.now s.requires.admits.admitted s.requires.claimable (is_placed p.before.before) in
    (ready.within, rw (is_placed p.before.before) s.requires.meets)

returns : tie.Need-returns
returns c =
    let f = c in
    let p = f in
    let s = start p.before.before.before.before.before.before.before in
    (f.find_clash-refusal.ensures ∙ ap (λ (row : List ℕ). clash_of s.args.table.now row s.args.flat) (is_placed p.before.before.before.before.before.before.before), c.clear.ensures)

pub refuse_clash_spec : {M : Type 1} → statement M
refuse_clash_spec =
    tie.close (tie.spec (λ c κs. search rules) find_clash_requires (λ c κs. search rules) (λ c. search rules) (λ c. search rules) returns)
