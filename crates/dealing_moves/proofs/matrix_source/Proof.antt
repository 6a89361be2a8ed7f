-- `dealing_moves::matrix_source` is the rule of the kind: in each branch the kind is a number, or there is no such register.
use mathlib.Core.Path.{sym, ◌∙◌}
use native.Mathlib.Omega.{arith}
use borrow.Author.Rules.{rules}
use Rattle.dealing_moves.proofs.Rules.{source_6, source_7, source_8, source_past, source_unknown}
use Rattle.dealing_moves.proofs.matrix_source.Statement.{statement}
use Rattle.dealing_moves.proofs.matrix_source.Tie as tie

past : tie.Need-returns-then-i-gt1
past c =
    let s = c in
    let a = s.args in
    sym (source_past a.kind a.computation a.lane a.i (omega (arith, s.requires.0, c.if-kind-eq5.false)) c.if-i-gt1.true)

of_6 : tie.Need-returns-then-kind-eq6
of_6 c =
    let s = c in
    let a = s.args in
    rw c.if-kind-eq6.true (c.double_source.ensures ∙ sym (source_6 a.computation a.lane a.i s.requires.1))

of_7 : tie.Need-returns-then-kind-eq7
of_7 c =
    let s = c in
    let a = s.args in
    rw c.if-kind-eq7.true (c.double_source-then-kind-eq7.ensures ∙ sym (source_7 a.computation a.lane a.i s.requires.1))

of_8 : tie.Need-returns-then-kind-eq8
of_8 c =
    let s = c in
    let a = s.args in
    rw c.if-kind-eq8.true (c.double_source-then-kind-eq8.ensures ∙ sym (source_8 a.computation a.lane a.i s.requires.1))

unknown : tie.Need-returns
unknown c =
    let s = c in
    let a = s.args in
    sym (source_unknown a.kind a.computation a.lane a.i
    (omega (arith, s.requires.0, c.if-kind-eq5.false, c.if-kind-eq6.false, c.if-kind-eq7.false, c.if-kind-eq8.false)))

pub matrix_source_spec : {M : Type 1} → statement M
matrix_source_spec =
    tie.close
    (tie.spec (λ c κs. search rules) (λ c. rw c.if-kind-eq5.true c.accumulator_source.ensures) past (λ c. search rules) (λ c. search rules) (λ c κs. search rules) of_6
    (λ c. search rules) (λ c. search rules) (λ c κs. search rules) of_7 (λ c. search rules) (λ c. search rules) (λ c. search rules) (λ c. search rules)
    (λ c κs. search rules) of_8 unknown)
