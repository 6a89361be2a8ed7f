-- `mask_pattern::word_from` is the pattern from a column of its period on: the rest of the period, then the pattern from its start.
use native.Mathlib.Omega.{arith}
use borrow.Author.Rules.{rules}
use mathlib.Core.Path.{◌≡◌, sym, ◌∙◌}
use mathlib.Core.Bool.{true}
use Prim.Native.Nat.{ℕ, ◌+◌, ◌-◌, ◌*◌, ◌%◌, ◌^◌, min}
use native.Mathlib.Nat.{mod_self, zero-mod}
use Rattle.mask_pattern.specs.Pattern.{endless, columns_number}
use Rattle.mask_pattern.proofs.Pattern.{period}
use Rattle.mask_pattern.proofs.Runs.{run_left, alike_on, Holds, joined}
use Rattle.mask_pattern.proofs.word_from.Statement.{statement}
use Rattle.mask_pattern.proofs.word_from.Tie as tie

-- what is left of the period, as far as a word goes
lead : (c : tie.After-ones_up_to-lead) (n : ℕ)
    → let a = c.args in
    n ≡ min (period a.skip a.used - a.at) 64 → c.ones_up_to-lead.result ≡ columns_number (endless true a.skip a.used) a.at n
lead c n e = let a = c.args in c.ones_up_to-lead.ensures ∙ sym (run_left a.skip a.used a.at n c.requires.2 e)

both : (c : tie.Then-rest-lt64)
    → let a = c.args in
    Holds (endless true a.skip a.used) a.at 64 (c.ones_up_to-lead.result + a.pattern * 2 ^ (period a.skip a.used - a.at) % 2 ^ 64)
both c =
    let start = c in
    let a = start.args in
    let P = period a.skip a.used in
    let end : a.at + (P - a.at) ≡ P = omega arith in
    joined (endless true a.skip a.used) a.at (P - a.at) 0 64 64 c.ones_up_to-lead.result a.pattern (omega arith) (omega arith)
    (lead c.before (P - a.at) (omega arith))
    start.requires.3
    (alike_on a.skip a.used (a.at + (P - a.at)) 0 (rw end (mod_self P ∙ sym (zero-mod P))))

pub word_from_spec : {M : Type 1} → statement M
word_from_spec =
    tie.close
    (tie.spec (λ c. search rules) (λ c κs. tt) (λ c. search rules) (λ c. search rules) (λ c. search rules) (λ c. search rules) (λ c. search rules)
    (λ c. omega (arith, (both c).1)) (λ c. (both c).0) (λ c. lead c.before 64 (omega arith)))
