-- `claiming_turns::turn` turns one digit after the other, from the fastest on, until one need not go back to 0: digits and place agree all the way, and what the
-- digits lack of the next index is one step of the digit that comes next.
use Rattle.std.proofs.Common.{arith, refl, sym, ap, subst, ◌≡◌, ◌∙◌, ◌+◌, ◌-◌, ◌^◌, ◌≤◌, ◌<◌, ℕ, suc, List, length, get_or}
use mathlib.Core.Path.{ap₂}
use lib.IntN.{ℤ, pos, nat_abs, ◌+ℤ◌, ◌*ℤ◌}
use lib.ListN.{set, length-set}
use lib.Seq.{slice}
use mir.Syntax.{w64}
use mir.Val.{to_z, of_z, SFits}
use mir.Facts.{to_z-of_z}
use Rattle.laws.proofs.Signed.{far_fits}
use Rattle.card.specs.Card.{none}
use Rattle.card.specs.declared.Iter.{Iter}
use Rattle.copies_sums.specs.Walks.{Steps}
use Rattle.copies_runs.specs.Clauses.{roomy_level, Adds}
use Rattle.copies_runs.specs.declared.LevelAndM.{LevelAndM}
use Rattle.claiming_turns.specs.Turns.{shard_iters, iter_extents, size_from, unit, DigitsAt, Turnable}
use Rattle.claiming_turns.proofs.Ways.{iters_count, extent_at, turn_forth, index_forth, turn_back, index_back, level_steps, m_steps, digit_small}
use Rattle.claiming_turns.proofs.turn.Goals as goal

-- places alike
alike : {x y z w : ℤ} → x ≡ y → z ≡ w → ◌≡◌ {A = LevelAndM} (record { level = x; m = z }) (record { level = y; m = w })
alike e d = ap₂ (λ (x y : ℤ). record { level = x; m = y }) e d

-- a turn is at the digit before k
module _ {numbers : List ℕ} {strides : List ℤ} {from : ℕ} {levels ms : List ℤ} {first : List ℕ} {start : LevelAndM} (r : Turnable numbers strides from levels ms first start) (k : ℕ) (some : 0 < k) (most : k ≤ from) where
  abbrev l : List Iter
  l = shard_iters numbers strides

  abbrev way : LevelAndM
  way = record { level = get_or levels (k - 1) (pos 0); m = get_or ms (k - 1) (pos 0) }

  below : k - 1 < length l
  below = omega (arith, r.slower)

  short : k - 1 < 8
  short = omega (arith, below, iters_count numbers strides r.whole.2, r.whole.2)

  adds : Adds (slice 32 40 numbers) (unit (get_or l (k - 1) none)) way
  adds = r.ways.ways (k - 1) (omega arith)

  extent_is : get_or (iter_extents l) (k - 1) 0 ≡ get_or numbers (k - 1) 0
  extent_is = extent_at numbers strides (k - 1) r.whole.2 (omega (arith, below, iters_count numbers strides r.whole.2))

  after_is : size_from (suc (k - 1)) l ≡ size_from k l
  after_is = let same : suc (k - 1) ≡ k = omega arith in ap (λ (n : ℕ). size_from n l) same

  -- digits and a place that agree
  module _ (digits : List ℕ) (here : LevelAndM) (there : DigitsAt numbers strides digits here) where
    abbrev digit : ℕ
    digit = get_or digits (k - 1) 0

    small : digit ≤ 2 ^ 32
    small = digit_small numbers strides digits here (k - 1) below there adds (r.small (k - 1) below)

    forth : digit + 1 < get_or numbers (k - 1) 0 → DigitsAt numbers strides (set digits (k - 1) (digit + 1)) (record { level = here.level +ℤ way.level; m = here.m +ℤ way.m })
    forth more = turn_forth numbers strides digits here (k - 1) below there adds (omega (arith, extent_is))

    near : digit + 1 < get_or numbers (k - 1) 0 → (nat_abs (here.level +ℤ way.level) ≤ roomy_level) × (nat_abs (here.m +ℤ way.m) ≤ roomy_level)
    near more = r.near (set digits (k - 1) (digit + 1)) _ (forth more)

    level_fits : digit + 1 < get_or numbers (k - 1) 0 → SFits w64 (here.level +ℤ way.level)
    level_fits more = far_fits {x = here.level +ℤ way.level} (omega (arith, (near more).0))

    m_fits : digit + 1 < get_or numbers (k - 1) 0 → SFits w64 (here.m +ℤ way.m)
    m_fits more = far_fits {x = here.m +ℤ way.m} (omega (arith, (near more).1))

    back_level : Steps here.level digit way.level
    back_level = level_steps numbers strides digits here (k - 1) below there adds r.near small

    back_m : Steps here.m digit way.m
    back_m = m_steps numbers strides digits here (k - 1) below there adds r.near small

pub loop-k-init : goal.loop-k-init
loop-k-init c =
    let a = c.args in record {
      whole = c.requires.whole.1;
      there =
          subst (DigitsAt a.numbers.now a.strides.now a.digits.now)
          (sym (alike (to_z-of_z {w = w64} {z = a.start.level} (record { sfits = c.struct_told-2-1.given.0.1 })) (to_z-of_z {w = w64} {z = a.start.m} (record { sfits = c.struct_told-2-1.given.1.0.1 }))))
          c.requires.here;
      index = refl;
    }

pub returns-then-digit-numbers : goal.returns-then-digit-numbers
returns-then-digit-numbers c =
    let a = c.args in
    let l = c.loop-k in
    let j = l.k - 1 in
    let here : LevelAndM = record { level = to_z w64 l.level-bits; m = to_z w64 l.m-bits } in
    let level_read = to_z-of_z {w = w64} {z = get_or a.levels.now j (pos 0)} (record { sfits = c.level-1.given }) in
    let m_read = to_z-of_z {w = w64} {z = get_or a.ms.now j (pos 0)} (record { sfits = c.m-1.given }) in
    let more = c.if-digit-numbers.true in
    let level_sum : SFits w64 (here.level +ℤ to_z w64 (of_z w64 (get_or a.levels.now j (pos 0)))) = rw level_read (level_fits c.requires l.k (omega arith) (omega arith) l.digits here l.invariant.there more) in
    let m_sum : SFits w64 (here.m +ℤ to_z w64 (of_z w64 (get_or a.ms.now j (pos 0)))) = rw m_read (m_fits c.requires l.k (omega arith) (omega arith) l.digits here l.invariant.there more) in
    let iters = shard_iters a.numbers.now a.strides.now in
    let forward = index_forth a.numbers.now a.strides.now l.digits here j (below c.requires l.k (omega arith) (omega arith)) l.invariant.there (adds c.requires l.k (omega arith) (omega arith)) in
    record {
      size = length-set l.digits j (get_or l.digits j 0 + 1) ∙ l.invariant.whole ∙ sym c.requires.whole.1;
      there =
          subst (DigitsAt a.numbers.now a.strides.now (set l.digits j (get_or l.digits j 0 + 1)))
          (sym (alike (to_z-of_z level_sum ∙ ap (λ (z : ℤ). here.level +ℤ z) level_read) (to_z-of_z m_sum ∙ ap (λ (z : ℤ). here.m +ℤ z) m_read)))
          (forth c.requires l.k (omega arith) (omega arith) l.digits here l.invariant.there more);
      next = λ inside. omega (arith, forward, after_is c.requires l.k (omega arith) (omega arith), l.invariant.index);
    }

pub overflow_add-digit : goal.overflow_add-digit
overflow_add-digit c =
    let a = c.args in
    let l = c.loop-k in
    let j = l.k - 1 in
    let here : LevelAndM = record { level = to_z w64 l.level-bits; m = to_z w64 l.m-bits } in
    omega (arith, small c.requires l.k (omega arith) (omega arith) l.digits here l.invariant.there)

pub overflow_add-digits : goal.overflow_add-digits
overflow_add-digits c =
    let a = c.args in
    let l = c.loop-k in
    let j = l.k - 1 in
    let here : LevelAndM = record { level = to_z w64 l.level-bits; m = to_z w64 l.m-bits } in
    omega (arith, small c.requires l.k (omega arith) (omega arith) l.digits here l.invariant.there)

pub overflow_add-level : goal.overflow_add-level
overflow_add-level c =
    let a = c.args in
    let l = c.loop-k in
    let j = l.k - 1 in
    let here : LevelAndM = record { level = to_z w64 l.level-bits; m = to_z w64 l.m-bits } in
    rw (to_z-of_z {w = w64} {z = get_or a.levels.now j (pos 0)} (record { sfits = c.level-1.given })) (level_fits c.requires l.k (omega arith) (omega arith) l.digits here l.invariant.there c.if-digit-numbers.true)

pub overflow_add-m : goal.overflow_add-m
overflow_add-m c =
    let a = c.args in
    let l = c.loop-k in
    let j = l.k - 1 in
    let here : LevelAndM = record { level = to_z w64 l.level-bits; m = to_z w64 l.m-bits } in
    rw (to_z-of_z {w = w64} {z = get_or a.ms.now j (pos 0)} (record { sfits = c.m-1.given })) (m_fits c.requires l.k (omega arith) (omega arith) l.digits here l.invariant.there c.if-digit-numbers.true)

pub back-level-requires : goal.back-level-requires
back-level-requires c =
    let a = c.args in
    let l = c.loop-k in
    let j = l.k - 1 in
    let here : LevelAndM = record { level = to_z w64 l.level-bits; m = to_z w64 l.m-bits } in
    rw (to_z-of_z {w = w64} {z = get_or a.levels.now j (pos 0)} (record { sfits = c.back-arg-1.given })) (back_level c.requires l.k (omega arith) (omega arith) l.digits here l.invariant.there)

pub back-m-requires : goal.back-m-requires
back-m-requires c =
    let a = c.args in
    let l = c.loop-k in
    let j = l.k - 1 in
    let here : LevelAndM = record { level = to_z w64 l.level-bits; m = to_z w64 l.m-bits } in
    rw (to_z-of_z {w = w64} {z = get_or a.ms.now j (pos 0)} (record { sfits = c.back-arg-in-loop-k-1.given })) (back_m c.requires l.k (omega arith) (omega arith) l.digits here l.invariant.there)

pub loop-k-preserved : goal.loop-k-preserved
loop-k-preserved c =
    let a = c.args in
    let l = c.loop-k in
    let j = l.k - 1 in
    let here : LevelAndM = record { level = to_z w64 l.level-bits; m = to_z w64 l.m-bits } in
    let iters = shard_iters a.numbers.now a.strides.now in
    let digit = get_or l.digits j 0 in
    let level_read = to_z-of_z {w = w64} {z = get_or a.levels.now j (pos 0)} (record { sfits = c.back-arg-1.given }) in
    let m_read = to_z-of_z {w = w64} {z = get_or a.ms.now j (pos 0)} (record { sfits = c.back-arg-in-loop-k-1.given }) in
    let full : get_or (iter_extents iters) j 0 ≤ digit + 1 = omega (arith, extent_is c.requires l.k (omega arith) (omega arith), c.if-digit-numbers.false) in
    let index = index_back a.numbers.now a.strides.now l.digits here j (below c.requires l.k (omega arith) (omega arith)) l.invariant.there (adds c.requires l.k (omega arith) (omega arith)) full in record {
      whole = length-set l.digits j 0 ∙ l.invariant.whole;
      there =
          turn_back a.numbers.now a.strides.now l.digits here j (below c.requires l.k (omega arith) (omega arith)) l.invariant.there (adds c.requires l.k (omega arith) (omega arith))
          (ap (λ (z : ℤ). z +ℤ pos digit *ℤ get_or a.levels.now j (pos 0)) (to_z-of_z {w = w64} {z = c.back-level.result} (record { sfits = c.back-level.type_inv })) ∙ rw level_read at c.back-level.ensures)
          (ap (λ (z : ℤ). z +ℤ pos digit *ℤ get_or a.ms.now j (pos 0)) (to_z-of_z {w = w64} {z = c.back-m.result} (record { sfits = c.back-m.type_inv })) ∙ rw m_read at c.back-m.ensures);
      index = omega (arith, index, after_is c.requires l.k (omega arith) (omega arith), l.invariant.index);
    }

pub returns : goal.returns
returns c =
    let l = c.loop-k in
    let end : l.k ≡ 0 = omega arith in
    let whole = rw end at l.invariant.index in
    record { size = l.invariant.whole ∙ sym c.requires.whole.1; there = l.invariant.there; next = λ inside. absurd (omega (arith, whole, inside)) }
