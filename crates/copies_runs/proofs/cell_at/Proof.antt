-- `copies_runs::cell_at` adds the swizzled m to the level: both are small, and the sum is a cell.
use mathlib.Core.Path.{◌≡◌, sym, ap, ap₂, ◌∙◌}
use native.Mathlib.Omega.{arith}
use lib.IntN.{ℤ, pos, nat_abs, ◌+ℤ◌}
use mir.Syntax.{w64}
use mir.Val.{to_z, of_z}
use mir.Facts.{to_z-of_z, to_z_pos, Fits-nat_abs}
use Rattle.laws.proofs.Signed.{far_fits}
use Rattle.copies_runs.proofs.Cells.{natural_m, on_m_is}
use Rattle.copies_runs.proofs.cell_at.Statement.{statement}
use Rattle.copies_runs.proofs.cell_at.Tie as tie

abbrev start : tie.After-swizzle_permitted-on_m → tie.Start
start c = c.before

-- what the machine finds on m, and what it adds up to
on_m : (c : tie.After-swizzle_permitted-on_m) → c.swizzle_permitted-on_m.result ≡ (start c).requires.on_m
on_m c =
    let s = start c in
    rw (to_z-of_z s.ranges.m) at c.swizzle_permitted-on_m.ensures ∙ on_m_is s.args.by s.args.m s.requires.on_m s.requires.m_there

adds_up : (c : tie.After-swizzle_permitted-on_m) → to_z w64 (of_z w64 (start c).args.level) +ℤ to_z w64 c.swizzle_permitted-on_m.result ≡ pos (start c).requires.cell
adds_up c =
    let s = start c in
    ap₂ (λ (a b : ℤ). a +ℤ b) (to_z-of_z s.ranges.level) (to_z_pos w64 (omega (arith, on_m c, s.requires.short)) ∙ ap pos (on_m c)) ∙ sym s.requires.there

cell_back : (c : tie.After-swizzle_permitted-on_m)
    → to_z w64 (of_z w64 (to_z w64 (of_z w64 (start c).args.level) +ℤ to_z w64 c.swizzle_permitted-on_m.result)) ≡ pos (start c).requires.cell
cell_back c = ap (λ (z : ℤ). to_z w64 (of_z w64 z)) (adds_up c) ∙ to_z-of_z (far_fits {x = pos (start c).requires.cell} (omega (arith, (start c).requires.few)))

cast_swizzle_permitted : tie.Need-overflow_cast-m
cast_swizzle_permitted c =
    let s = c in
    rw (to_z-of_z s.ranges.m)
    (natural_m s.args.by s.args.m s.requires.on_m s.requires.m_there, Fits-nat_abs {w = w64} tt s.ranges.m)

returns : tie.Need-returns
returns c =
    let s = start c in
    ap (λ (z : ℤ). pos (nat_abs z)) (cell_back c) ∙ s.requires.there ∙ ap (λ (z : ℤ). s.args.level +ℤ z) (sym s.requires.m_there)

pub cell_at_spec : {M : Type 1} → statement M
cell_at_spec =
    tie.close
    (tie.spec cast_swizzle_permitted (λ c κs. c.requires.permits) (λ c. far_fits (omega (arith, on_m c, (start c).requires.short)))
    (λ c. rw (adds_up c) (far_fits {x = pos (start c).requires.cell} (omega (arith, (start c).requires.few))))
    (λ c. rw (cell_back c) (tt, record { fits = omega (arith, (start c).requires.few) })) returns)
