-- `idle_search::find_key` passes combinations whose key is not that of b; at b the search ends, since b has its own key.
use Prim.Native.Nat.{◌-◌, ◌<◌}
use native.Mathlib.Omega.{arith}
use Rattle.idle_search.specs.Clauses.{Passes}
use Rattle.idle_search.proofs.Laws.{passes_none, passes_more, not_yet}
use Rattle.idle_search.proofs.find_key.Statement.{statement}
use Rattle.idle_search.proofs.find_key.Tie as tie

abbrev invariant_loop : tie.invariant-loop-a
invariant_loop keys from b key a₀ a = Passes keys b from a

abbrev decreases_loop : tie.decreases-loop-a
decreases_loop keys from b key a₀ a = b - a

before : (c : tie.In-loop-a invariant_loop decreases_loop) → c.loop-a.a < c.args.b
before c =
    let s = c in
    let l = c.loop-a in
    not_yet s.args.keys.now s.args.b s.args.from l.a c.loop-a-test.true l.invariant

element_copy_out_key : tie.Need-bounds-keys-b invariant_loop decreases_loop
element_copy_out_key c = omega (arith, c.requires.0)

loop_holds : tie.Need-loop-a-init invariant_loop decreases_loop
loop_holds c =
    let a = c.args in
    passes_none a.keys.now a.b a.from c.requires.1

mul_if1 : tie.Need-offset_bounds-keys-a invariant_loop decreases_loop
mul_if1 c = omega (arith, c.loop-a.invariant.at_most)

element_copy_out_if1 : tie.Need-bounds-keys-a invariant_loop decreases_loop
element_copy_out_if1 c = omega (arith, c.loop-a.invariant.at_most)

add_a : tie.Need-overflow_add-a invariant_loop decreases_loop
add_a c = omega (arith, before c)

loop_less : tie.Need-loop-a-smaller invariant_loop decreases_loop
loop_less c = omega (arith, before c)

loop_again : tie.Need-loop-a-preserved invariant_loop decreases_loop
loop_again c =
    let s = c in
    let l = c.loop-a in
    passes_more s.args.keys.now s.args.b s.args.from l.a c.loop-a-test.true l.invariant

returns : tie.Need-returns invariant_loop decreases_loop
returns c = c.loop-a.invariant

pub find_key_spec : {M : Type 1} → statement M
find_key_spec =
    tie.close (tie.spec invariant_loop decreases_loop (λ c. omega arith) element_copy_out_key loop_holds mul_if1 element_copy_out_if1 add_a loop_less loop_again returns)
