-- `copies::number_among` numbers coordinates row-major, in one word: each turn passes one coordinate, and stops at the first that is not below its size.
use Rattle.std.proofs.Common.{arith, ℕ, List, ◌∷◌, ◌+◌, ◌<◌, ◌≤◌, ◌≡◌, ◌∙◌, sym, ap, get_or, length, take}
use lib.Seq.{slice, slice_empty}
use Rattle.laws.proofs.Lists.{slice_next}
use Rattle.copies.specs.Clauses.{number_of}
use Rattle.copies.proofs.Numbering.{Numbering, numbering_room, numbering_more, numbering_past, numbering_all}
use Rattle.copies.proofs.number_among.Goals as goal

-- the size and the coordinate of a turn, apart from those that are left after it
turn : (sizes coordinates : List ℕ) (from count k number : ℕ) → k < count → from + count ≤ length sizes → count ≤ length coordinates
    → Numbering (slice from (from + count) sizes) (take count coordinates) (slice (from + k) (from + count) sizes) (slice k count coordinates) k number
    → Numbering (slice from (from + count) sizes) (take count coordinates) (get_or sizes (from + k) 0 ∷ slice (from + (k + 1)) (from + count) sizes)
    (get_or coordinates k 0 ∷ slice (k + 1) count coordinates) k number
turn sizes coordinates from count k number h there few n =
    let on : from + k + 1 ≡ from + (k + 1) = omega arith in
    rw (
      slice_next sizes (from + k) (from + count) 0 (omega arith) there ∙ ap (λ (i : ℕ). get_or sizes (from + k) 0 ∷ slice i (from + count) sizes) on,
      slice_next coordinates k count 0 h few,
    ) at n

pub returns-then-size-coordinate : goal.returns-then-size-coordinate
returns-then-size-coordinate c =
    let a = c.args in
    let l = c.loop-k in
    sym
    (ap number_of
    (numbering_past _ _ _ _ _ _ (turn a.sizes.now a.coordinates.now a.from a.count l.k l.number c.loop-k-test.true c.requires.0.there (omega (arith, c.requires.0.few)) l.invariant) c.if-size-coordinate.true))

pub overflow_mul-number : goal.overflow_mul-number
overflow_mul-number c =
    let a = c.args in
    let l = c.loop-k in
    let t = turn a.sizes.now a.coordinates.now a.from a.count l.k l.number c.loop-k-test.true c.requires.0.there (omega (arith, c.requires.0.few)) l.invariant in
    omega (arith, numbering_room _ _ _ _ _ _ t c.if-size-coordinate.false, c.requires.0.small)

pub overflow_add-number : goal.overflow_add-number
overflow_add-number c =
    let a = c.args in
    let l = c.loop-k in
    let t = turn a.sizes.now a.coordinates.now a.from a.count l.k l.number c.loop-k-test.true c.requires.0.there (omega (arith, c.requires.0.few)) l.invariant in
    omega (arith, numbering_room _ _ _ _ _ _ t c.if-size-coordinate.false, c.requires.0.small)

pub loop-k-preserved : goal.loop-k-preserved
loop-k-preserved c =
    let a = c.args in
    let l = c.loop-k in
    let t = turn a.sizes.now a.coordinates.now a.from a.count l.k l.number c.loop-k-test.true c.requires.0.there (omega (arith, c.requires.0.few)) l.invariant in
    numbering_more _ _ _ _ _ _ t c.if-size-coordinate.false

pub returns : goal.returns
returns c =
    let a = c.args in
    let l = c.loop-k in
    let end : l.k ≡ a.count = omega arith in
    sym
    (ap number_of
    (numbering_all a.count l.number
    (rw (end, slice_empty (a.from + a.count) a.sizes.now, slice_empty a.count a.coordinates.now) at l.invariant)))
