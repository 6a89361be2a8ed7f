-- `claiming_elements::claim_single` claims the one cell of an element: level and swizzled m come to it.
use mathlib.Core.Path.{◌≡◌, refl, sym, ap, ◌∙◌, subst}
use mathlib.Core.List.{[], ◌∷◌}
use Prim.Native.Nat.{ℕ, ◌+◌, ◌^◌, ◌<◌}
use native.Mathlib.Omega.{arith}
use lib.IntN.{◌+ℤ◌}
use lib.ListN.{length, length-set}
use mir.Syntax.{w64}
use mir.Val.{to_z, of_z}
use mir.Facts.{to_z-of_z}
use Rattle.card.specs.Card.{copies}
use Rattle.card.specs.Packed.{card_of}
use Rattle.card.specs.declared.Card.{Card}
use Rattle.card.proofs.Admitted.{sized}
use Rattle.swizzle.specs.declared.Swizzle.{Swizzle}
use Rattle.rules.specs.Rules.{swizzled_z, spot}
use Rattle.rules.specs.Copies.{cell_of, copy_cells}
use Rattle.copies_runs.specs.Clauses.{CellThere}
use Rattle.claiming_elements.proofs.Laws.{single_row, single_met, single_claimed}
use Rattle.claiming_runs.proofs.Places.{single_there, single_is, cell_short}
use Rattle.claiming_elements.proofs.claim_single.Statement.{statement}
use Rattle.claiming_elements.proofs.claim_single.Tie as tie

abbrev card : tie.Start → Card
card s = card_of s.args.numbers.now s.args.strides.now

-- the one copy
one : (s : tie.Start) → 0 < copies (card s)
one s = omega (arith, s.requires.1)

-- what the machine reads of the place
level_back : (c : tie.After-struct_told-1) → let p = c.args.place in to_z w64 (of_z w64 p.level) ≡ p.level
level_back c = to_z-of_z {w = w64} {z = c.args.place.level} (record { sfits = c.struct_told-1.given.0.1 })

m_back : (c : tie.After-struct_told-1) → let p = c.args.place in to_z w64 (of_z w64 p.m) ≡ p.m
m_back c = to_z-of_z {w = w64} {z = c.args.place.m} (record { sfits = c.struct_told-1.given.1.0.1 })

-- the cell that was found
cell_found : (c : tie.After-cell_at-cell) → let s = c in c.cell_at-cell.result.0 ≡ cell_of (spot (card s.before.before.before.before) s.args.flat.0 0)
cell_found c =
    let d = c in
    let s = d in
    let a = s.args in
    let b = s.requires.0 in
    single_is a.numbers.now a.strides.now b.admits b.claimable.inside a.flat.0 0 b.claimable.element (one s.before.before.before.before) refl c.cell_at-cell.result.0
    b.begins.level_is b.begins.m_is
    (rw (level_back d.before.before, m_back d.before.before) at c.cell_at-cell.ensures ∙ ap (λ (w : Swizzle). a.place.level +ℤ swizzled_z w a.place.m) s.requires.2)

cell_here : (c : tie.After-cell_at-cell) → let s = c in c.cell_at-cell.result.0 < length s.args.table.now
cell_here c =
    let s = c in
    let a = s.args in
    let b = s.requires.0 in
    omega (
      arith,
      cell_found c,
      b.claimable.size,
      cell_short a.numbers.now a.strides.now b.admits b.claimable.inside a.flat.0 0 b.claimable.element (one s.before.before.before.before),
    )

row_is : (c : tie.After-cell_at-cell) → let s = c in copy_cells (card s.before.before.before.before) s.args.flat.0 ≡ c.cell_at-cell.result.0 ∷ []
row_is c =
    let s = c in
    single_row (card s.before.before.before.before) s.args.flat.0 s.requires.1 ∙ ap (λ (n : ℕ). n ∷ []) (sym (cell_found c))

abbrev found : tie.After-struct_known-1 → tie.After-cell_at-cell
found c = c.before.before.before

small : (c : tie.After-struct_known-1) → let s = (found c) in s.args.flat.0 + 1 < 2 ^ 32
small c =
    let s = (found c) in
    omega (arith, s.requires.0.claimable.element, (sized (card s.before.before.before.before) s.requires.0.admits.admitted).most_elements_lem)

pub claim_single_spec : {M : Type 1} → statement M
claim_single_spec =
    tie.close
    (tie.spec (λ c κs.
    let d = c in
    let s = d in
    let a = s.args in
    let b = s.requires.0 in
    rw (level_back d.before, m_back d.before)
    (subst (λ (w : Swizzle). CellThere w a.place.level a.place.m) (sym s.requires.2)
    (single_there a.numbers.now a.strides.now b.admits b.claimable.inside a.flat.0 0 b.claimable.element (one s.before.before.before) refl b.begins.level_is b.begins.m_is))) (λ c. omega (arith, cell_here c)) (λ c. cell_here c.before) (λ c.
    let d = c in
    let s = d in
    single_met (copy_cells (card s.before.before.before.before.before.before) s.args.flat.0) s.args.table.now s.args.flat.0 d.cell_at-cell.result.0 (row_is d.before.before) (λ e. omega arith)) (λ c. omega (arith, small c)) (λ c. omega (arith, small c))
    (λ c. omega (arith, cell_here (found c))) (λ c. cell_here (found c)) (λ c. simp length-set) (λ c.
    let d = found c in
    let s = d in
    single_claimed (copy_cells (card s.before.before.before.before) s.args.flat.0) s.args.table.now s.args.flat.0 d.cell_at-cell.result.0 (row_is d) (cell_here d) (omega arith)))
