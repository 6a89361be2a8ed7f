-- `mask_pattern::mask_word` is a number of columns: each turn puts a piece of one sub-mask in front.
use native.Mathlib.Omega.{arith}
use borrow.Author.Rules.{rules}
use mathlib.Core.Path.{◌≡◌, refl, ap, ◌∙◌}
use Prim.Native.Nat.{◌+◌, ◌-◌, ◌*◌, ◌%◌, ◌^◌, ◌≤◌, ◌<◌}
use native.Mathlib.Nat.{mod-lt}
use Rattle.mask_pattern.specs.Pattern.{columns_number}
use Rattle.mask_pattern.proofs.Runs.{side, Holds, joined}
use Rattle.mask_pattern.proofs.mask_word.Statement.{statement}
use Rattle.mask_pattern.proofs.mask_word.Tie as tie

abbrev invariant_loop : tie.invariant-loop-k
invariant_loop size skip used counts spans pattern p count word₀ k₀ word k = (k ≤ count) × (word ≡ columns_number (side skip used size counts spans) p k)

abbrev decreases_loop : tie.decreases-loop-k
decreases_loop size skip used counts spans pattern p count word₀ k₀ word k = count - k

-- a column lies within its sub-mask
within : (c : tie.In-loop-k invariant_loop decreases_loop) → let a = c.args in (a.p + c.loop-k.k) % a.size < a.size
within c = let a = c.args in mod-lt (a.p + c.loop-k.k) {m = a.size} (omega arith)

piece_requires : tie.Need-piece-requires invariant_loop decreases_loop
piece_requires c κs =
    let start = c in
    let w = within c.before in
    (omega arith, start.requires.1, start.requires.2, start.requires.3, start.requires.4, omega arith, omega arith)

-- one piece more
more : (c : tie.After-piece invariant_loop decreases_loop)
    → let a = c.args in
    let now = c.loop-k in
    let set = side a.skip a.used a.size a.counts.now a.spans.now in
    Holds set a.p (now.k + c.min-step.result) (now.word + c.piece.result * 2 ^ now.k % 2 ^ 64)
more c =
    let a = c.args in
    let now = c.loop-k in
    let step = c.min-step.result in
    joined (side a.skip a.used a.size a.counts.now a.spans.now) a.p now.k (a.p + now.k) step (now.k + step) now.word c.piece.result
    (omega arith)
    (omega arith)
    now.invariant.1
    c.piece.ensures
    (λ i. refl)

returns : tie.Need-returns invariant_loop decreases_loop
returns c =
    let a = c.args in
    let now = c.loop-k in
    let all : now.k ≡ a.count = omega arith in
    now.invariant.1 ∙ ap (columns_number (side a.skip a.used a.size a.counts.now a.spans.now) a.p) all

pub mask_word_spec : {M : Type 1} → statement M
unfolding columns_number
mask_word_spec =
    tie.close
    (tie.spec invariant_loop decreases_loop (λ c. search rules) (λ c. omega arith) (λ c. omega arith) (λ c. omega (arith, within c)) (λ c. omega arith) (λ c κs. tt)
    (λ c. omega arith) piece_requires (λ c. omega arith) (λ c. omega (arith, (more c).1)) (λ c. omega arith)
    (λ c. omega (arith, within c.before.before)) (λ c. (omega arith, (more c).0)) returns)
