-- `claiming_elements::claim_element` claims the one cell of an element that has one copy, and else the row that its cells fill.
use mathlib.Core.Path.{◌≡◌, sym, ◌∙◌}
use borrow.Author.Rules.{rules}
use mir.Syntax.{w64}
use mir.Val.{to_z, of_z}
use mir.Facts.{to_z-of_z}
use Rattle.card.specs.Packed.{card_of}
use Rattle.card.specs.declared.Card.{Card}
use Rattle.rules.specs.Copies.{copy_cells}
use Rattle.claiming_runs.proofs.Laws.{row_ready}
use Rattle.claiming_elements.proofs.Rows.{fillable, filled_row}
use Rattle.claiming_elements.proofs.claim_element.Statement.{statement}
use Rattle.claiming_elements.proofs.claim_element.Tie as tie

abbrev card : tie.Start → Card
card s = card_of s.args.numbers.now s.args.strides.now

claim_single_requires : tie.Need-claim_single-requires
claim_single_requires c κs = let s = c in (s.requires.0.0, sym s.requires.1.one_each ∙ c.if-row-eq1.true, s.requires.0.1)

-- what the machine reads of the place
level_back : (c : tie.After-struct_told-1) → let p = c.args.place in to_z w64 (of_z w64 p.level) ≡ p.level
level_back c = to_z-of_z {w = w64} {z = c.args.place.level} (record { sfits = c.struct_told-1.given.0.1 })

m_back : (c : tie.After-struct_told-1) → let p = c.args.place in to_z w64 (of_z w64 p.m) ≡ p.m
m_back c = to_z-of_z {w = w64} {z = c.args.place.m} (record { sfits = c.struct_told-1.given.1.0.1 })

fill_requires : tie.Need-fill-requires
fill_requires c κs =
    let d = c in
    let s = d in
    let a = s.args in
    let b = s.requires.0.0 in
    rw (level_back d.before, m_back d.before)
    (fillable a.numbers.now a.strides.now a.place a.flat.0 a.levels.now a.ms.now a.row.now b.admits b.claimable.inside b.claimable.element
    b.begins s.requires.1)

-- the row as it is filled
is_filled : (f : tie.After-fill) → let s = f in
    f.fill.new.row ≡ copy_cells (card s.before.before.before.before.before.before.before) s.args.flat.0
is_filled f =
    let d = f in
    let s = d in
    let a = s.args in
    let b = s.requires.0.0 in
    filled_row a.numbers.now a.strides.now a.place a.flat.0 a.levels.now a.ms.now a.row.now b.admits b.claimable.inside b.claimable.element
    b.begins s.requires.1 (rw (level_back d.before.before, m_back d.before.before) at f.fill.ensures)

claim_row_requires : tie.Need-claim_row-requires
claim_row_requires c κs =
    let f = c in
    let s = f in
    let b = s.requires.0.0 in
    let r = row_ready (card s.before.before.before.before.before.before.before.before.before.before) s.args.flat.0 s.args.table.now b.admits.admitted b.claimable (is_filled f.before.before.before) in
    (r.within, (r.some, r.small))

returns_2 : tie.Need-returns
returns_2 c =
    let k = c in
    rw (is_filled k.before.before.before.before.before.before) at k.claim_row.ensures

pub claim_element_spec : {M : Type 1} → statement M
claim_element_spec =
    tie.close
    (tie.spec claim_single_requires (λ c. search rules) (λ c. search rules) fill_requires claim_row_requires (λ c. search rules) (λ c. search rules) returns_2)
