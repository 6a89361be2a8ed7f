-- `claiming_copies::claim_copies` claims one line after the other: with the loop's index in the place of the copies, the run is claimed so far.
use Rattle.std.proofs.Common.{arith, sym, subst, ◌≡◌, ◌+◌, length, get_or}
use native.Mathlib.Nat.{add-mul}
use lib.IntN.{pos}
use Rattle.swizzle.specs.declared.Swizzle.{Swizzle}
use Rattle.card.specs.Card.{copies, cells}
use Rattle.card.specs.Packed.{card_of}
use Rattle.card.proofs.Admitted.{sized}
use Rattle.copies_runs.proofs.Cells.{sum_fits, sum_back}
use Rattle.claims.specs.Claims.{occupied}
use Rattle.claims.proofs.Rows.{occupied_most}
use Rattle.claiming_lines.specs.Lines.{Lined, line_cell, LineThere}
use Rattle.claiming_runs.proofs.Places.{copy_near}
use Rattle.claiming_copies.proofs.Lines.{place, line_there, copies_none, copies_more, copies_all, start_near}
use Rattle.claiming_copies.proofs.claim_copies.Goals as goal

pub loop-copy-init : goal.loop-copy-init
loop-copy-init c =
    let a = c.args in record {
      partly = copies_none a.numbers.now a.strides.now a.start a.step a.run a.table.now c.requires.running.0 a.levels.now a.ms.now c.requires.copying;
      newly_is = omega arith;
      counted = omega arith;
    }

pub bounds-ms-copy : goal.bounds-ms-copy
bounds-ms-copy c = omega (arith, c.requires.copying.levels_size, c.requires.copying.ms_size)

pub overflow_add-place : goal.overflow_add-place
overflow_add-place c =
    let a = c.args in
    let l = c.loop-copy in
    let r = c.requires.running.0 in
    let close = start_near a.numbers.now a.strides.now a.start a.step a.run a.table.now r c.requires.running.1 in
    let copy_close = copy_near a.numbers.now a.strides.now r.admits c.requires.copying l.copy (omega (arith, c.requires.copying.levels_size)) in
    sum_fits a.start.level (get_or a.levels.now l.copy (pos 0)) (record { sfits = c.struct_told-2-1.given.0.1 }) (record { sfits = c.place-1.given }) close.0 copy_close.0

pub overflow_add-place-in-loop-copy : goal.overflow_add-place-in-loop-copy
overflow_add-place-in-loop-copy c =
    let a = c.args in
    let l = c.loop-copy in
    let r = c.requires.running.0 in
    let close = start_near a.numbers.now a.strides.now a.start a.step a.run a.table.now r c.requires.running.1 in
    let copy_close = copy_near a.numbers.now a.strides.now r.admits c.requires.copying l.copy (omega (arith, c.requires.copying.levels_size)) in
    sum_fits a.start.m (get_or a.ms.now l.copy (pos 0)) (record { sfits = c.struct_told-2-1.given.1.0.1 }) (record { sfits = c.place-in-loop-copy-1.given }) close.1 copy_close.1

pub claim_line-requires : goal.claim_line-requires
claim_line-requires c =
    let a = c.args in
    let l = c.loop-copy in
    let r = c.requires.running.0 in
    let close = start_near a.numbers.now a.strides.now a.start a.step a.run a.table.now r c.requires.running.1 in
    let copy_close = copy_near a.numbers.now a.strides.now r.admits c.requires.copying l.copy (omega (arith, c.requires.copying.levels_size)) in
    let level_back = sum_back a.start.level (get_or a.levels.now l.copy (pos 0)) (record { sfits = c.struct_told-2-1.given.0.1 }) (record { sfits = c.place-1.given }) close.0 copy_close.0 in
    let m_back = sum_back a.start.m (get_or a.ms.now l.copy (pos 0)) (record { sfits = c.struct_told-2-1.given.1.0.1 }) (record { sfits = c.place-in-loop-copy-1.given }) close.1 copy_close.1 in
    let here = place a.numbers.now a.strides.now a.start a.step a.run a.table.now r a.levels.now a.ms.now c.requires.copying l.copy (omega (arith, c.requires.copying.levels_size)) in
    let size : length l.table ≡ cells (card_of a.numbers.now a.strides.now) = omega (arith, r.owned.size) in
    rw (level_back, m_back)
    (subst (λ (w : Swizzle). LineThere w here a.step a.run.first.0 a.run.length l.table) (sym c.requires.running.2)
    (line_there a.numbers.now a.strides.now a.start a.step a.run a.table.now r a.levels.now a.ms.now c.requires.copying l.copy (omega (arith, c.requires.copying.levels_size)) c.requires.running.1 l.table size))

pub overflow_add-newly : goal.overflow_add-newly
overflow_add-newly c =
    let a = c.args in
    let l = c.loop-copy in
    let r = c.requires.running.0 in
    let close = start_near a.numbers.now a.strides.now a.start a.step a.run a.table.now r c.requires.running.1 in
    let copy_close = copy_near a.numbers.now a.strides.now r.admits c.requires.copying l.copy (omega (arith, c.requires.copying.levels_size)) in
    let level_back = sum_back a.start.level (get_or a.levels.now l.copy (pos 0)) (record { sfits = c.struct_told-2-1.given.0.1 }) (record { sfits = c.place-1.given }) close.0 copy_close.0 in
    let m_back = sum_back a.start.m (get_or a.ms.now l.copy (pos 0)) (record { sfits = c.struct_told-2-1.given.1.0.1 }) (record { sfits = c.place-in-loop-copy-1.given }) close.1 copy_close.1 in
    let here = place a.numbers.now a.strides.now a.start a.step a.run a.table.now r a.levels.now a.ms.now c.requires.copying l.copy (omega (arith, c.requires.copying.levels_size)) in
    let told = rw (level_back, m_back) at c.claim_line.ensures in
    let lined =
    subst (λ (w : Swizzle). Lined (line_cell w here a.step) (λ j. a.run.first.0 + j) a.run.length l.table c.claim_line.new.table) c.requires.running.2 (told c.if-not-claim_line.false) in
    let more : occupied c.claim_line.new.table ≡ occupied a.table.now + (l.newly + a.run.length) = omega (arith, lined.counted, l.invariant.counted) in
    omega (arith, more, occupied_most c.claim_line.new.table, r.owned.size, (sized (card_of a.numbers.now a.strides.now) r.admits.admitted).most_cells_lem)

pub loop-copy-preserved : goal.loop-copy-preserved
loop-copy-preserved c =
    let a = c.args in
    let l = c.loop-copy in
    let r = c.requires.running.0 in
    let close = start_near a.numbers.now a.strides.now a.start a.step a.run a.table.now r c.requires.running.1 in
    let copy_close = copy_near a.numbers.now a.strides.now r.admits c.requires.copying l.copy (omega (arith, c.requires.copying.levels_size)) in
    let level_back = sum_back a.start.level (get_or a.levels.now l.copy (pos 0)) (record { sfits = c.struct_told-2-1.given.0.1 }) (record { sfits = c.place-1.given }) close.0 copy_close.0 in
    let m_back = sum_back a.start.m (get_or a.ms.now l.copy (pos 0)) (record { sfits = c.struct_told-2-1.given.1.0.1 }) (record { sfits = c.place-in-loop-copy-1.given }) close.1 copy_close.1 in
    let here = place a.numbers.now a.strides.now a.start a.step a.run a.table.now r a.levels.now a.ms.now c.requires.copying l.copy (omega (arith, c.requires.copying.levels_size)) in
    let told = rw (level_back, m_back) at c.claim_line.ensures in
    let lined =
    subst (λ (w : Swizzle). Lined (line_cell w here a.step) (λ j. a.run.first.0 + j) a.run.length l.table c.claim_line.new.table) c.requires.running.2 (told c.if-not-claim_line.false) in
    let more : occupied c.claim_line.new.table ≡ occupied a.table.now + (l.newly + a.run.length) = omega (arith, lined.counted, l.invariant.counted) in record {
      partly = copies_more a.numbers.now a.strides.now a.start a.step a.run a.table.now r a.levels.now a.ms.now c.requires.copying l.copy (omega (arith, c.requires.copying.levels_size)) l.table c.claim_line.new.table l.invariant.partly lined;
      newly_is = omega (arith, l.invariant.newly_is, add-mul l.copy 1 a.run.length);
      counted = more;
    }

pub returns : goal.returns
returns c some =
    let a = c.args in
    let l = c.loop-copy in
    let r = c.requires.running.0 in
    let end : l.copy ≡ copies (card_of a.numbers.now a.strides.now) = omega (arith, c.requires.copying.levels_size) in
    let size : length l.table ≡ cells (card_of a.numbers.now a.strides.now) = omega (arith, r.owned.size) in
    copies_all a.numbers.now a.strides.now a.start a.step a.run a.table.now r a.levels.now a.ms.now c.requires.copying l.table l.newly size (rw end at l.invariant.partly) l.invariant.counted
