-- `outside::first_on_axes` takes one axis after the other: each turn takes the smaller of the number so far and that of the axis.
use Rattle.std.proofs.Common.{arith, ◌≡◌, ◌+◌, get_or}
use lib.IntN.{pos}
use mir.Syntax.{w64}
use mir.Facts.{to_z-of_z}
use Rattle.card.specs.Packed.{card_of}
use Rattle.card.proofs.Admitted.{measured}
use Rattle.outside.proofs.Words.{no_word, word_more}
use Rattle.outside.proofs.Packed.{ended_on, short_length, sizes, none_leaves}
use Rattle.outside.proofs.first_on_axes.Goals as goal

pub overflow_mul-word : goal.overflow_mul-word
overflow_mul-word c =
    omega (arith, (measured c.args.numbers.now c.args.strides.now c.requires.0.admits).elements_are, (sizes c.requires.0).most_elements_lem)

pub loop-axis-init : goal.loop-axis-init
loop-axis-init c =
    let a = c.args in
    rw (measured a.numbers.now a.strides.now c.requires.0.admits).elements_are
    (no_word (card_of a.numbers.now a.strides.now) a.first (none_leaves c.requires.0 a.first c.requires.1 c.requires.2))

pub first_on_axis-flat-requires : goal.first_on_axis-flat-requires
first_on_axis-flat-requires c =
    let a = c.args in
    let axis = c.loop-axis.axis in
    rw (
      to_z-of_z {w = w64} {z = get_or a.low.now axis (pos 0)} (record { sfits = c.first_on_axis-arg-1.given }),
      to_z-of_z {w = w64} {z = get_or a.high.now axis (pos 0)} (record { sfits = c.first_on_axis-arg-in-loop-axis-1.given }),
    )
    (ended_on c.requires.0 axis (get_or a.numbers.now (32 + axis) 0) (omega arith) (short_length c.requires.0 axis (omega arith)), omega arith)

pub overflow_mul-flat : goal.overflow_mul-flat
overflow_mul-flat c = omega (arith, c.first_on_axis-flat.ensures.most, (sizes c.requires.0).most_elements_lem)

pub overflow_add-flat : goal.overflow_add-flat
overflow_add-flat c = omega (arith, c.first_on_axis-flat.ensures.most, (sizes c.requires.0).most_elements_lem)

pub loop-axis-preserved : goal.loop-axis-preserved
loop-axis-preserved c =
    let a = c.args in
    let l = c.loop-axis in
    rw c.min-word.ensures
    (word_more (card_of a.numbers.now a.strides.now) l.word c.first_on_axis-flat.result.0 l.axis (omega arith) l.invariant c.first_on_axis-flat.ensures)

pub returns : goal.returns
returns c =
    let l = c.loop-axis in
    let end : l.axis ≡ 7 = omega arith in
    rw end at l.invariant
