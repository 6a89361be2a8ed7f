-- `claiming_lines::number` writes one cell after the other: with the loop's index in the place of the length the stretch is numbered so far.
use Rattle.std.proofs.Common.{arith, ◌≡◌, ◌+◌, ℕ, subst}
use Rattle.claiming_lines.specs.Lines.{Lined}
use Rattle.claiming_lines.proofs.Lines.{lined_none}
use Rattle.claiming_lines.proofs.Steps.{number_more}
use Rattle.claiming_lines.proofs.number.Goals as goal

pub loop-k-init : goal.loop-k-init
loop-k-init c = lined_none (λ j. c.args.from + j) (λ j. c.args.first + j) c.args.table.now

pub loop-k-preserved : goal.loop-k-preserved
loop-k-preserved c =
    let a = c.args in
    let l = c.loop-k in
    number_more a.from a.first a.many l.k a.table.now l.table c.loop-k-test.true c.requires.0.inside c.requires.1 l.invariant (omega arith)

pub returns : goal.returns
returns c =
    let a = c.args in
    let l = c.loop-k in
    let end : l.k ≡ a.many = omega arith in
    subst (λ (n : ℕ). Lined (λ j. a.from + j) (λ j. a.first + j) n a.table.now l.table) end l.invariant
