-- `admission::marks_fit` tests the marked strides up to the count: a turn tests one more, and leaves the test of the rest.
use Rattle.std.proofs.Common.{arith, ◌+◌, ◌<◌, ◌∙◌, get_or, Bool, subst}
use mathlib.Core.Path.{ap₂}
use mathlib.Core.Bool.{◌&&◌}
use lib.IntN.{pos}
use mir.Syntax.{w64}
use mir.Facts.{to_z-of_z}
use Rattle.card.specs.Packed.{marks_there, strides_there}
use Rattle.card.proofs.Marks.{mark_fits, Marked, marked_more, marked_all, as_many_marks, as_many_strides, mark_there, stride_there, mark_tested}
use Rattle.admission.proofs.marks_fit.Goals as goal

pub loop-k-preserved : goal.loop-k-preserved
loop-k-preserved c =
    let l = c.loop-k in
    let numbers = c.args.numbers.now in
    let strides = c.args.strides.now in
    let marks = marks_there numbers strides in
    let there = strides_there numbers strides in
    let h : l.k < get_or numbers 40 0 = c.loop-k-test.true in
    let back = to_z-of_z {w = w64} {z = get_or strides l.k (pos 0)} (record { sfits = c.stride-1.given }) in
    let test = ap₂ mark_fits (mark_there numbers strides c.requires.0 l.k h) (stride_there numbers strides c.requires.1 c.requires.0 l.k h) in
    rw back
    (subst (λ (b : Bool). Marked marks there (l.k + 1) (l.fit && b)) (test ∙ mark_tested (get_or numbers (48 + l.k) 0) (get_or strides l.k (pos 0)))
    (marked_more marks there l.k l.fit (omega (arith, as_many_marks numbers strides c.requires.0))
    (omega (arith, as_many_strides numbers strides c.requires.1 c.requires.0)) l.invariant))

pub returns : goal.returns
returns c =
    let l = c.loop-k in
    let numbers = c.args.numbers.now in
    let strides = c.args.strides.now in
    marked_all (marks_there numbers strides) (strides_there numbers strides) l.k l.fit
    (omega (arith, as_many_marks numbers strides c.requires.0)) l.invariant
