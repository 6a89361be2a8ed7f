-- `dealing_moves::accumulator_source` is the rule of kind 5: the branch taken is the one that the lane's computation picks.
use native.Mathlib.Omega.{arith}
use borrow.Author.Tests.{eq-eqb, ne_eqb}
use Rattle.dealing_moves.proofs.Rules.{bits, source_5}
use Rattle.dealing_moves.proofs.accumulator_source.Statement.{statement}
use Rattle.dealing_moves.proofs.accumulator_source.Tie as tie

returns : tie.Need-returns-then-lane-computation
returns c =
    let a = c.args in
    let p = c.requires in
    rw (source_5 a.computation a.lane a.i p.0 p.1, eq-eqb _ _ c.if-lane-computation.true)

returns_2 : tie.Need-returns
returns_2 c =
    let a = c.args in
    let p = c.requires in
    rw (source_5 a.computation a.lane a.i p.0 p.1, ne_eqb _ _ c.if-lane-computation.false)

pub accumulator_source_spec : {M : Type 1} → statement M
accumulator_source_spec =
    tie.close
    (tie.spec
    (λ c. let a = c.args in omega (arith, bits a.lane, bits a.i))
    (λ c. let a = c.args in omega (arith, bits a.lane, bits a.i))
    (λ c. let a = c.args in omega (arith, bits a.lane, bits a.i))
    (λ c. let a = c.args in omega (arith, bits a.lane, bits a.i))
    (λ c. let a = c.args in omega (arith, bits a.lane, bits a.i))
    (λ c. let a = c.args in omega (arith, bits a.lane, bits a.i))
    (λ c. let a = c.args in omega (arith, bits a.lane, bits a.i))
    returns
    returns_2)
