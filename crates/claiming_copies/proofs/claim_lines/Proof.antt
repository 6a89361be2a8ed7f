-- `claiming_copies::claim_lines` makes what goes on from run to run, and claims the runs by it: what each callee promises is what the loop asks for.
use mathlib.Core.Path.{refl}
use native.Mathlib.Omega.{arith}
use borrow.Author.Rules.{rules}
use Rattle.card.specs.Packed.{ListOf}
use Rattle.claiming_runs.proofs.Laws.{readable}
use Rattle.claiming_copies.proofs.claim_lines.Statement.{statement}
use Rattle.claiming_copies.proofs.claim_lines.Tie as tie

listed : (s : tie.Start) → ListOf s.args.numbers.now 0
listed s = readable s.args.numbers.now s.args.strides.now s.requires.0.admits

put_ways_requires : tie.Need-put_ways-requires
put_ways_requires c κs =
    let f = c in
    let s = f in
    (s.requires.0.admits, f.run_from-from.ensures s.args.strides.now, refl, refl)

claim_turns_requires : tie.Need-claim_turns-requires
claim_turns_requires c κs =
    let p = c in
    let f = p in
    let d = f in
    let l = d in
    let w = l in
    let s = w in (
      s.requires,
      record {
        swizzles = w.swizzle_of-by.ensures;
        long_is = l.run_length-length.ensures s.args.strides.now;
        steps = d.added-step.ensures;
        slower = f.run_from-from.ensures s.args.strides.now;
        ways = p.put_ways.ensures;
      },
    )

pub claim_lines_spec : {M : Type 1} → statement M
claim_lines_spec =
    tie.close
    (tie.spec (λ c κs. c.requires.0.admits.whole.all_numbers) (λ c κs. listed c.before.before) (λ c κs. (c.requires.0.admits, omega arith))
    (λ c κs. listed c.before.before.before.before) put_ways_requires claim_turns_requires (λ c. search rules) (λ c. search rules))
