-- `outside_swizzled::m_lies` asks the sign of m, and then the swizzled number.
use mathlib.Core.Path.{◌≡◌, ap}
use Prim.Native.Nat.{ℕ}
use borrow.Author.Rules.{rules}
use lib.Dec.{T, ltb}
use lib.ListN.{get_or}
use lib.Signed.{non_neg}
use mir.Syntax.{w64}
use mir.Val.{to_z, of_z}
use mir.Facts.{to_z-of_z, Fits-nat_abs}
use Rattle.card.specs.Packed.{swizzle_of}
use Rattle.copies.proofs.Below.{from_zero}
use Rattle.outside_swizzled.proofs.Laws.{below_lies, natural_lies}
use Rattle.outside_swizzled.proofs.m_lies.Statement.{statement}
use Rattle.outside_swizzled.proofs.m_lies.Tie as tie

back : (s : tie.Start) → to_z w64 (of_z w64 s.args.m) ≡ s.args.m
back s = to_z-of_z s.ranges.m

natural : (c : tie.Else-m-lt0) → T (non_neg c.args.m)
natural c = let s = c in from_zero s.args.m (rw (back s.before) at c.if-m-lt0.false)

returns : tie.Need-returns-then-m-lt0
returns c =
    let s = c in
    let n = s.args.numbers.now in
    below_lies (swizzle_of n) (get_or n 39 0) s.args.m (rw (back s.before) at c.if-m-lt0.true)

cast_swizzle_permitted : tie.Need-overflow_cast-m
cast_swizzle_permitted c =
    let e = c in
    let s = e in
    rw (back s.before.before.before.before.before) (natural e.before.before.before.before, Fits-nat_abs {w = w64} tt s.ranges.m)

returns_2 : tie.Need-returns
returns_2 c =
    let p = c in
    let e = p in
    let s = e in
    let n = s.args.numbers.now in
    natural_lies (swizzle_of n) (get_or n 39 0) s.args.m (natural e.before.before.before.before.before.before) _
    (ap (λ (x : ℕ). ltb x (get_or n 39 0)) (rw (back s.before.before.before.before.before.before.before) at p.swizzle_permitted-swizzled.ensures))

pub m_lies_spec : {M : Type 1} → statement M
m_lies_spec =
    tie.close
    (tie.spec returns (λ c. search rules) (λ c. search rules) (λ c. search rules) cast_swizzle_permitted (λ c κs. search rules) (λ c. search rules) (λ c. search rules)
    (λ c. search rules) returns_2)
