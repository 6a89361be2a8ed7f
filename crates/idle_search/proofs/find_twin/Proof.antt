-- `idle_search::find_twin` tries the combinations below b that have its key, from the first: none that was passed or tried gives its sums.
use Prim.Native.Nat.{ℕ, ◌+◌, ◌-◌, ◌≤◌}
use native.Mathlib.Omega.{arith}
use Rattle.card.specs.declared.Iters.{Iters}
use Rattle.card.specs.Packed.{iters_of}
use Rattle.idle.specs.Clauses.{NoneBelow}
use Rattle.idle_search.specs.Clauses.{Passes}
use Rattle.idle.proofs.Twins.{none_below_zero, none_below_more, twin_found, twin_none}
use Rattle.idle_search.proofs.Laws.{none_passed}
use Rattle.idle_search.proofs.find_twin.Statement.{statement}
use Rattle.idle_search.proofs.find_twin.Tie as tie

abbrev invariant_loop : tie.invariant-loop-a
invariant_loop numbers strides keys b a₀ a = (a ≤ b) × NoneBelow (iters_of numbers strides 1) b a

abbrev decreases_loop : tie.decreases-loop-a
decreases_loop numbers strides keys b a₀ a = b - a

abbrev replica : tie.Start invariant_loop decreases_loop → Iters
replica s = iters_of s.args.numbers.now s.args.strides.now 1

-- none of those passed by their keys
passed : (s : tie.Start invariant_loop decreases_loop) (from a : ℕ) → Passes s.args.keys.now s.args.b from a → NoneBelow (replica s) s.args.b from → NoneBelow (replica s) s.args.b a
passed s from a = none_passed (replica s) s.args.b from a s.args.keys.now s.requires.1

find_key_requires : tie.Need-find_key-a-requires invariant_loop decreases_loop
find_key_requires c κs = (c.requires.1.places, omega arith, c.requires.2)

loop_holds : tie.Need-loop-a-init invariant_loop decreases_loop
loop_holds c =
    let s = c in
    (c.find_key-a.ensures.at_most, passed s.before 0 c.find_key-a.result c.find_key-a.ensures (none_below_zero (replica s.before) s.args.b))

same_sums_requires : tie.Need-same_sums-requires invariant_loop decreases_loop
same_sums_requires c κs = c.requires.0

returns : tie.Need-returns-then-same_sums invariant_loop decreases_loop
returns c =
    let l = c.loop-a in
    let s = c in
    twin_found (replica s.before.before.before.before.before) s.args.b l.a (omega arith) (c.same_sums.ensures.yes_holds c.if-same_sums.true) l.invariant.1

find_key_requires_2 : tie.Need-find_key-a-requires-in-loop-a invariant_loop decreases_loop
find_key_requires_2 c κs =
    let s = c in
    (s.requires.1.places, omega arith, s.requires.2)

loop_less : tie.Need-loop-a-smaller invariant_loop decreases_loop
loop_less c = omega (arith, c.find_key-a-in-loop-a.ensures.from_there)

loop_again : tie.Need-loop-a-preserved invariant_loop decreases_loop
loop_again c =
    let t = c in
    let l = t.loop-a in
    let s = t in (
      c.find_key-a-in-loop-a.ensures.at_most,
      passed s.before.before.before.before.before.before (l.a + 1) c.find_key-a-in-loop-a.result c.find_key-a-in-loop-a.ensures
          (none_below_more (replica s.before.before.before.before.before.before) s.args.b l.a (t.same_sums.ensures.no_fails c.if-same_sums.false) l.invariant.1),
    )

returns_2 : tie.Need-returns invariant_loop decreases_loop
returns_2 c =
    let l = c.loop-a in
    let s = c in
    twin_none (replica s.before.before.before) s.args.b l.a (omega arith) l.invariant.1

pub find_twin_spec : {M : Type 1} → statement M
find_twin_spec =
    tie.close
    (tie.spec invariant_loop decreases_loop find_key_requires loop_holds same_sums_requires returns (λ c. omega arith) find_key_requires_2 loop_less loop_again returns_2)
