-- `outside_swizzled::put_adds` writes one number after the other, what the offset and the combination add to m.
use Rattle.std.proofs.Common.{arith, ◌≡◌, ◌∙◌, ◌<◌, ℕ, List, sym, ap, get_or, length}
use mathlib.Core.Path.{ap₂}
use native.Mathlib.Nat.{ne_of_lt}
use borrow.Author.Count.{below_more}
use lib.IntN.{ℤ, pos, nat_abs, ◌+ℤ◌}
use lib.ListN.{set}
use lib.Seq.{get_or-set_same, get_or-set_other}
use mir.Syntax.{w64}
use mir.Val.{SFits, to_z, of_z}
use mir.Facts.{to_z-of_z}
use Rattle.laws.proofs.Signed.{sum_far, far_fits}
use Rattle.card.specs.Limits.{last_axis}
use Rattle.card.specs.Packed.{card_of, Admits}
use Rattle.rules.specs.Rules.{part}
use Rattle.copies.proofs.Cards.{walkable_replica}
use Rattle.outside_swizzled.specs.Doubt.{m_adds}
use Rattle.outside_swizzled.proofs.Packed.{offset_at, offset_near, copy_near}
use Rattle.outside_swizzled.proofs.put_adds.Goals as goal

-- what a turn adds up, and that it fits
module _ (numbers : List ℕ) (strides : List ℤ) (a : Admits numbers strides) (r : ℕ) (sum : ℤ) (is : sum ≡ part (card_of numbers strides).replica r last_axis) where
  abbrev offset : ℤ
  offset = get_or strides 23 (pos 0)

  offset_back : to_z w64 (of_z w64 offset) ≡ offset
  offset_back = to_z-of_z (far_fits (omega (arith, offset_near numbers strides a)))

  fits : SFits w64 (offset +ℤ sum)
  fits = far_fits (omega (arith, sum_far offset sum, ap nat_abs is, offset_near numbers strides a, copy_near numbers strides a r))

  sum_fits : to_z w64 (of_z w64 sum) ≡ sum → SFits w64 (to_z w64 (of_z w64 offset) +ℤ to_z w64 (of_z w64 sum))
  sum_fits back = rw (offset_back, back) fits

  written : to_z w64 (of_z w64 sum) ≡ sum → to_z w64 (of_z w64 (to_z w64 (of_z w64 offset) +ℤ to_z w64 (of_z w64 sum))) ≡ m_adds (card_of numbers strides) r
  written back = rw (offset_back, back) (to_z-of_z fits) ∙ ap₂ ◌+ℤ◌ (sym (offset_at numbers strides a)) is

pub m_sum-sum-requires : goal.m_sum-sum-requires
m_sum-sum-requires c = walkable_replica c.args.numbers.now c.args.strides.now c.requires.admits

pub overflow_add-entry : goal.overflow_add-entry
overflow_add-entry c =
    let a = c.args in
    let back = to_z-of_z {w = w64} {z = c.m_sum-sum.result} (record { sfits = c.m_sum-sum.type_inv }) in
    sum_fits a.numbers.now a.strides.now c.requires.admits c.loop-r.r c.m_sum-sum.result c.m_sum-sum.ensures back

pub loop-r-preserved : goal.loop-r-preserved
loop-r-preserved c =
    let a = c.args in
    let l = c.loop-r in
    let back = to_z-of_z {w = w64} {z = c.m_sum-sum.result} (record { sfits = c.m_sum-sum.type_inv }) in
    let z = m_adds (card_of a.numbers.now a.strides.now) l.r in
    let inside : l.r < length l.adds = omega arith in
    rw (written a.numbers.now a.strides.now c.requires.admits l.r c.m_sum-sum.result c.m_sum-sum.ensures back)
    (below_more (λ j. get_or (set l.adds l.r z) j (pos 0) ≡ m_adds (card_of a.numbers.now a.strides.now) j) l.r
    (λ j h. get_or-set_other l.adds l.r j z (pos 0) (ne_of_lt h) ∙ l.invariant j h)
    (get_or-set_same l.adds l.r z (pos 0) inside))

pub returns : goal.returns
returns c = record { one_each = omega (arith, c.requires.adds_len); there = λ r h. c.loop-r.invariant r (omega arith) }
