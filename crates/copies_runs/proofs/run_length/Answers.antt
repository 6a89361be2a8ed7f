-- `copies_runs::run_length` looks for the last extent that is not 1: all iters passed have extent 1.
use Rattle.std.proofs.Common.{arith, refl, sym, ap, ◌≡◌, ◌∙◌, ◌∷◌, ◌+◌, ◌-◌, ◌≤◌, ◌<◌, ℕ, List, length, get_or}
use mathlib.Core.List.{map}
use lib.IntN.{ℤ}
use lib.Seq.{slice, slice_empty}
use Rattle.laws.proofs.Lists.{slice_next}
use Rattle.card.specs.Lists.{slots}
use Rattle.card.specs.Card.{none}
use Rattle.card.specs.Packed.{iter_at}
use Rattle.card.specs.declared.Iter.{Iter}
use Rattle.card.proofs.ReadBack.{eight_at}
use Rattle.rules_linear.specs.Runs.{run_length}
use Rattle.rules_linear.proofs.Runs.{run_next, run_behind}
use Rattle.copies_runs.proofs.run_length.Invariants.{from}
use Rattle.copies_runs.proofs.run_length.Goals as goal

next : (numbers : List ℕ) (strides : List ℤ) (k : ℕ) → k < get_or numbers 40 0 → get_or numbers 40 0 ≤ 8 → from numbers strides k ≡ iter_at numbers strides 0 k ∷ from numbers strides (k + 1)
next numbers strides k h few =
    let at = map (iter_at numbers strides 0) slots in
    let count = get_or numbers 40 0 in
    let eight : length at ≡ 8 = refl in
    slice_next at k count none h (omega (arith, eight))
    ∙ ap (λ (i : Iter). i ∷ slice (k + 1) count at) (eight_at (iter_at numbers strides 0) none k (omega arith))

-- the iter that a turn passes
turn : (numbers : List ℕ) (strides : List ℤ) (k : ℕ) → 0 < k → k ≤ get_or numbers 40 0 → get_or numbers 40 0 ≤ 8 → run_length (from numbers strides k) ≡ 1
    → run_length (from numbers strides (k - 1)) ≡ get_or numbers (k - 1) 0
turn numbers strides k some h few ones =
    let back : k ≡ k - 1 + 1 = omega arith in
    ap run_length (next numbers strides (k - 1) (omega arith) few)
    ∙ run_next (iter_at numbers strides 0 (k - 1)) (from numbers strides (k - 1 + 1)) (rw back at ones)
    ∙ ap (λ (n : ℕ). get_or numbers n 0) (omega arith)

pub loop-k-init : goal.loop-k-init
loop-k-init c strides =
    let numbers = c.args.numbers.now in ap run_length (slice_empty (get_or numbers 40 0) (map (iter_at numbers strides 0) slots))

pub returns-then-extent-ne1 : goal.returns-then-extent-ne1
returns-then-extent-ne1 c strides =
    let numbers = c.args.numbers.now in
    let k = c.loop-k.k in
    let here = turn numbers strides k (omega arith) (omega arith) c.requires.few (c.loop-k.invariant strides) in
    sym (run_behind (k - 1) (from numbers strides 0) (λ e. omega (arith, sym here ∙ e)) ∙ here)

pub loop-k-preserved : goal.loop-k-preserved
loop-k-preserved c strides =
    omega (arith, turn c.args.numbers.now strides c.loop-k.k (omega arith) (omega arith) c.requires.few (c.loop-k.invariant strides))

pub returns : goal.returns
returns c strides =
    let end : c.loop-k.k ≡ 0 = omega arith in
    sym (rw end at (c.loop-k.invariant strides))
