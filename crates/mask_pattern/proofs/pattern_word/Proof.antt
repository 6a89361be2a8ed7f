-- `mask_pattern::pattern_word` is the pattern from its start: whole periods, doubled until they fill a word.
use native.Mathlib.Omega.{arith}
use mathlib.Core.Path.{◌≡◌, refl, sym, ap, ◌∙◌}
use mathlib.Core.Bool.{true}
use Prim.Native.Nat.{◌+◌, ◌-◌, ◌*◌, ◌%◌, ◌^◌, ◌≤◌, ◌<◌, min}
use native.Mathlib.Nat.{mod_self, zero-add, zero-mod}
use Rattle.mask_pattern.specs.Pattern.{endless, columns_number}
use Rattle.mask_pattern.proofs.Pattern.{period}
use Rattle.mask_pattern.proofs.Runs.{run_left, twice_whole, alike_on, Holds, joined}
use Rattle.mask_pattern.proofs.pattern_word.Statement.{statement}
use Rattle.mask_pattern.proofs.pattern_word.Tie as tie

abbrev invariant_loop : tie.invariant-loop-filled
invariant_loop skip used word₀ filled₀ word filled =
    (word ≡ columns_number (endless true skip used) 0 (min filled 64)) × (filled % period skip used ≡ 0) × (0 < filled) × (filled ≤ 512)

abbrev decreases_loop : tie.decreases-loop-filled
decreases_loop skip used word₀ filled₀ word filled = 64 - filled

loop_holds : tie.Need-loop-filled-init invariant_loop decreases_loop
loop_holds c =
    let a = c.args in
    let run = run_left a.skip a.used 0 (min (period a.skip a.used) 64) (omega arith) (omega arith) in
    (c.ones_up_to-word.ensures ∙ sym run, mod_self (period a.skip a.used), omega arith, omega arith)

-- what is filled, twice
twofold : (c : tie.In-loop-filled invariant_loop decreases_loop)
    → let a = c.args in
    let now = c.loop-filled in
    Holds (endless true a.skip a.used) 0 (min (now.filled + now.filled) 64) (now.word + now.word * 2 ^ now.filled % 2 ^ 64)
twofold c =
    let a = c.args in
    let now = c.loop-filled in
    let set = endless true a.skip a.used in
    let one : min now.filled 64 ≡ now.filled = omega arith in
    let word = now.invariant.0 ∙ ap (columns_number set 0) one in
    joined set 0 now.filled 0 now.filled (min (now.filled + now.filled) 64) now.word now.word (omega arith) refl word word
    (alike_on a.skip a.used (0 + now.filled) 0 (rw (zero-add now.filled) (now.invariant.1 ∙ sym (zero-mod (period a.skip a.used)))))

loop_again : tie.Need-loop-filled-preserved invariant_loop decreases_loop
loop_again c =
    let a = c.args in
    let now = c.loop-filled in
    ((twofold c).0, twice_whole a.skip a.used now.filled now.invariant.1, omega arith, omega arith)

returns : tie.Need-returns invariant_loop decreases_loop
returns c =
    let a = c.args in
    let now = c.loop-filled in
    let all : min now.filled 64 ≡ 64 = omega arith in
    now.invariant.0 ∙ ap (columns_number (endless true a.skip a.used) 0) all

pub pattern_word_spec : {M : Type 1} → statement M
pattern_word_spec =
    tie.close
    (tie.spec invariant_loop decreases_loop (λ c. omega arith) (λ c κs. tt) (λ c. omega arith) (λ c. omega arith) (λ c. omega arith) loop_holds (λ c. omega arith)
    (λ c. omega (arith, (twofold c).1)) (λ c. omega arith) (λ c. omega arith) loop_again returns)
