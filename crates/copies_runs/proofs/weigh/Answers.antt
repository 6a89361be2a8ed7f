-- `copies_runs::weigh` makes the level of sums: each turn passes one axis more, from the one before m.
use Rattle.std.proofs.Common.{arith, ◌≡◌, ◌∙◌, ◌+◌, ◌*◌, ◌-◌, ◌≤◌, ◌<◌, ℕ, List, subst, length, get_or}
use Prim.Native.Nat.{suc-le-suc}
use native.Mathlib.Nat.{mul-le-mul, le_trans}
use lib.IntN.{ℤ, pos}
use lib.Seq.{slice, length-slice}
use mir.Syntax.{w64}
use mir.Val.{to_z, of_z}
use mir.Facts.{to_z-of_z}
use Rattle.card.specs.Limits.{most_cells, most_length}
use Rattle.card.proofs.ReadBack.{slice_at}
use Rattle.copies_runs.proofs.Weighing.{Weighing, weighing_none, weighing_more, steps, light, length_short}
use Rattle.copies_runs.proofs.weigh.Goals as goal

eight : (numbers : List ℕ) → length numbers ≡ 56 → length (slice 32 40 numbers) ≡ 8
eight numbers all = length-slice 32 40 numbers (omega arith)

length_at : (numbers : List ℕ) (k : ℕ) → k < 8 → get_or (slice 32 40 numbers) k 0 ≡ get_or numbers (32 + k) 0
length_at numbers k h = slice_at numbers 32 40 0 k (omega arith)

-- the weighing of a turn, with the axis that it passes apart
turn : (lengths : List ℕ) (sums : List ℤ) (axis weight : ℕ) (sum : ℤ) → 0 < axis → Weighing lengths sums axis weight sum → Weighing lengths sums (axis - 1 + 1) weight sum
turn lengths sums axis weight sum some w = subst (λ (k : ℕ). Weighing lengths sums k weight sum) (omega arith) w

pub loop-axis-init : goal.loop-axis-init
loop-axis-init c =
    let numbers = c.args.numbers.now in
    let sums = c.args.sums.now in
    let lengths = slice 32 40 numbers in
    subst (λ (n : ℕ). Weighing lengths sums 7 n (pos 0)) (length_at numbers 7 (omega arith)) (weighing_none lengths sums (eight numbers c.requires.0) c.requires.2)

pub step-sum-requires : goal.step-sum-requires
step-sum-requires c =
    let numbers = c.args.numbers.now in
    let sums = c.args.sums.now in
    let l = c.loop-axis in
    let lengths = slice 32 40 numbers in
    let sum = to_z w64 l.sum-bits in
    rw (to_z-of_z {w = w64} {z = get_or sums (l.axis - 1) (pos 0)} (record { sfits = c.step-arg-1.given }))
    (steps lengths sums (eight numbers c.requires.0) c.requires.2 c.requires.1 (l.axis - 1) l.weight sum (omega arith) (turn lengths sums l.axis l.weight sum (omega arith) l.invariant))

pub overflow_mul-weight : goal.overflow_mul-weight
overflow_mul-weight c =
    let numbers = c.args.numbers.now in
    let sums = c.args.sums.now in
    let l = c.loop-axis in
    let k = l.axis - 1 in
    let lengths = slice 32 40 numbers in
    let sum = to_z w64 l.sum-bits in
    let few = light lengths sums (eight numbers c.requires.0) c.requires.2 c.requires.1 k l.weight sum (omega arith) (turn lengths sums l.axis l.weight sum (omega arith) l.invariant) in
    let short : get_or numbers (32 + k) 0 ≤ most_length = omega (arith, length_at numbers k (omega arith), length_short lengths c.requires.1 k (omega (arith, eight numbers c.requires.0))) in
    record { fits = le_trans (suc-le-suc (mul-le-mul {n₂ = most_cells} {m₂ = most_length} few short)) (omega arith) }

pub loop-axis-preserved : goal.loop-axis-preserved
loop-axis-preserved c =
    let numbers = c.args.numbers.now in
    let sums = c.args.sums.now in
    let l = c.loop-axis in
    let k = l.axis - 1 in
    let lengths = slice 32 40 numbers in
    let sum = to_z w64 l.sum-bits in
    let back = to_z-of_z {w = w64} {z = get_or sums k (pos 0)} (record { sfits = c.step-arg-1.given }) in
    let new = to_z-of_z {w = w64} {z = c.step-sum.result} (record { sfits = c.step-sum.type_inv }) ∙ rw back at c.step-sum.ensures in
    subst (λ (n : ℕ). Weighing lengths sums k (l.weight * n) (to_z w64 (of_z w64 c.step-sum.result))) (length_at numbers k (omega arith))
    (weighing_more lengths sums (eight numbers c.requires.0) c.requires.2 c.requires.1 k l.weight sum (omega arith)
    (turn lengths sums l.axis l.weight sum (omega arith) l.invariant) new)

pub returns : goal.returns
returns c =
    let end : c.loop-axis.axis ≡ 0 = omega arith in
    (rw end at c.loop-axis.invariant).sum_is
