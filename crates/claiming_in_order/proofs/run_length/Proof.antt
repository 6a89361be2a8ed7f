-- `claiming_in_order::run_length` takes runs of one where there are marks, else those of the last iter whose extent is not 1.
use mathlib.Core.Path.{sym, subst}
use Rattle.card.specs.Packed.{card_of}
use Rattle.card.specs.declared.Card.{Card}
use Rattle.claiming_runs.specs.Clauses.{RunsBy}
use Rattle.claiming_runs.proofs.Laws.{readable}
use Rattle.claiming_runs.proofs.Places.{runs_by_one, runs_by_run}
use Rattle.claiming_in_order.proofs.run_length.Statement.{statement}
use Rattle.claiming_in_order.proofs.run_length.Tie as tie

abbrev card : tie.Start → Card
card s = card_of s.args.numbers.now s.args.strides.now

returns : tie.Need-returns-then-marked
returns c = let s = c in runs_by_one (card s.before) s.requires.0.admitted

run_length_requires : tie.Need-run_length-requires
run_length_requires c κs = let s = c in readable s.args.numbers.now s.args.strides.now s.requires.0

returns_2 : tie.Need-returns-else-marked
returns_2 c =
    let e = c in
    let s = e in
    subst (RunsBy (card s.before.before)) (sym (c.run_length.ensures s.args.strides.now)) (runs_by_run (card s.before.before) s.requires.0.admitted (s.requires.1 e.if-marked.false))

pub run_length_spec : {M : Type 1} → statement M
run_length_spec = tie.close (tie.spec run_length_requires returns returns_2)
