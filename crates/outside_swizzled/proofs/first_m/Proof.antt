-- `outside_swizzled::first_m` looks at one run after the other, from where it stands to the end of the run or to the limit: below it no element leaves on m.
use mathlib.Core.Path.{◌≡◌, ap, ◌∙◌}
use Prim.Native.Nat.{ℕ, ◌+◌, ◌-◌, ◌%◌, ◌≤◌, ◌<◌, min}
use native.Mathlib.Nat.{mod-lt}
use native.Mathlib.Omega.{arith}
use borrow.Author.Rules.{rules}
use mir.Syntax.{w64}
use mir.Val.{to_z, of_z}
use mir.Facts.{to_z-of_z}
use Rattle.card.specs.Limits.{last_axis}
use Rattle.card.specs.Card.{listed}
use Rattle.card.specs.Packed.{card_of}
use Rattle.card.specs.declared.Card.{Card}
use Rattle.card.proofs.Admitted.{checked, numbered, fitting, sized}
use Rattle.rules.specs.Rules.{part}
use Rattle.copies.proofs.Cards.{walkable_shard}
use Rattle.rules_linear.specs.Runs.{run_length}
use Rattle.rules_linear.specs.Leaving.{Sought, Leaves}
use Rattle.rules_linear.proofs.Runs.{runs_of}
use Rattle.rules_linear.proofs.Leaving.{sought_none, part_found, part_passed}
use Rattle.outside_swizzled.proofs.Packed.{element_near, adds_all_near, run_leaves}
use Rattle.outside_swizzled.proofs.first_m.Statement.{statement}
use Rattle.outside_swizzled.proofs.first_m.Tie as tie

abbrev invariant_loop : tie.invariant-loop-flat
invariant_loop numbers strides adds limit run_length step end flat₀ flat =
    (flat ≤ end) × ((f : ℕ) → f < flat → Leaves (card_of numbers strides) f last_axis → ⊥)

abbrev decreases_loop : tie.decreases-loop-flat
decreases_loop numbers strides adds limit run_length step end flat₀ flat = end - flat

abbrev start : tie.In-loop-flat invariant_loop decreases_loop → tie.Start invariant_loop decreases_loop
start t = t.before.before.before.before

abbrev card : tie.Start invariant_loop decreases_loop → Card
card s = card_of s.args.numbers.now s.args.strides.now

abbrev length : tie.Start invariant_loop decreases_loop → ℕ
length s = run_length (listed (card s).shard)

some : (s : tie.Start invariant_loop decreases_loop) → 1 ≤ length s
some s =
    let k = card s in
    (runs_of (listed k.shard) (fitting k.shard (numbered k (checked k s.requires.0.admits.admitted).numbers).shard).extents).some

-- how many a turn looks at: up to the end of the run, or to the limit
counted : (c : tie.After-min-count invariant_loop decreases_loop)
    → let s = start c.before in
    let flat = c.loop-flat.flat in
    c.min-count.result ≡ min (length s - flat % length s) (s.args.limit.0 - flat)
counted c =
    let s = start c.before in
    let flat = c.loop-flat.flat in
    c.min-count.ensures ∙ ap (λ (n : ℕ). min (n - flat % n) (s.args.limit.0 - flat)) (c.run_length-run.ensures s.args.strides.now)

several : (c : tie.After-min-count invariant_loop decreases_loop) → 1 ≤ c.min-count.result
several c = let t = c in omega (arith, counted c, t.loop-flat-test.true, mod-lt t.loop-flat.flat (some (start t.before)))

few : (c : tie.After-min-count invariant_loop decreases_loop) → c.loop-flat.flat + c.min-count.result ≤ (start c.before).args.limit.0
few c = omega (arith, counted c, c.loop-flat-test.true)

-- m where it starts, and its step
base_is : (c : tie.After-m_sum-base invariant_loop decreases_loop) → let t = c in to_z w64 (of_z w64 c.m_sum-base.result) ≡ part (card (start t.before.before)).shard t.loop-flat.flat last_axis
base_is c = to_z-of_z {w = w64} {z = c.m_sum-base.result} (record { sfits = c.m_sum-base.type_inv }) ∙ c.m_sum-base.ensures

step_is : (c : tie.After-m_sum-step invariant_loop decreases_loop) → to_z w64 (of_z w64 c.m_sum-step.result) ≡ part (card c.before.before).shard 1 last_axis
step_is c = to_z-of_z {w = w64} {z = c.m_sum-step.result} (record { sfits = c.m_sum-step.type_inv }) ∙ c.m_sum-step.ensures

first_of_run_requires : tie.Need-first_of_run-found-requires invariant_loop decreases_loop
first_of_run_requires c κs =
    let t = c in
    let s = start t.before.before in
    let n = s.args.numbers.now in
    let m = s.args.strides.now in
    let a = s.requires.0.admits in
    rw (base_is c, step_is t.before.before.before.before) (record {
      permits = (checked (card s) a.admitted).swizzle;
      near_adds = adds_all_near n m a s.args.adds.now s.requires.0.adds_there;
      near_base = element_near n m a t.loop-flat.flat;
      near_step = element_near n m a 1;
      few = omega (arith, few c.before, s.requires.1.most, (sized (card s) a.admitted).most_elements_lem);
    })

-- what a turn finds, among the elements of the card
found : (c : tie.After-first_of_run-found invariant_loop decreases_loop)
    → let t = c in
    Sought (λ x. Leaves (card (start t.before.before.before)) (t.loop-flat.flat + x) last_axis) c.min-count.result c.first_of_run-found.result
found c =
    let t = c in
    let s = start t.before.before.before in
    run_leaves s.args.numbers.now s.args.strides.now s.requires.0.admits s.args.adds.now s.requires.0.adds_there t.loop-flat.flat
    c.min-count.result c.first_of_run-found.result (some s) (omega (arith, counted c.before.before))
    (rw (base_is c.before, step_is t.before.before.before.before.before) at c.first_of_run-found.ensures)

returns : tie.Need-returns-then-found-count invariant_loop decreases_loop
returns c =
    let f = c in
    let t = f in
    part_found t.loop-flat.flat f.min-count.result f.first_of_run-found.result t.loop-flat.invariant.1 (found f.before) (start t.before.before.before.before).args.limit.0
    (few f.before.before.before) c.if-found-count.true

loop_again : tie.Need-loop-flat-preserved invariant_loop decreases_loop
loop_again c =
    let f = c in
    let t = f in (
      omega (arith, few f.before.before.before, (found f.before).most),
      part_passed t.loop-flat.flat f.min-count.result f.first_of_run-found.result t.loop-flat.invariant.1 (found f.before),
    )

returns_2 : tie.Need-returns invariant_loop decreases_loop
returns_2 c = let l = c.loop-flat in sought_none (λ j h. l.invariant.1 j (omega (arith, c.loop-flat-test.false)))

pub first_m_spec : {M : Type 1} → statement M
first_m_spec =
    tie.close
    (tie.spec invariant_loop decreases_loop (λ c κs. (walkable_shard c.args.numbers.now c.args.strides.now c.requires.0.admits).of)
    (λ c κs. let s = c in walkable_shard s.args.numbers.now s.args.strides.now s.requires.0.admits)
    (λ c. let s = c in (s.requires.2, s.requires.1.none_before))
    (λ c. omega (arith, some (start c), c.run_length-run.ensures (start c).args.strides.now))
    (λ c. let e = c.run_length-run.ensures (start c).args.strides.now in omega (arith, mod-lt c.loop-flat.flat {m = c.run_length-run.result} (omega (arith, some (start c), e))))
    (λ c. omega arith) (λ c κs. search rules)
    (λ c κs. let s = start c.before in walkable_shard s.args.numbers.now s.args.strides.now s.requires.0.admits)
    first_of_run_requires (λ f. let s = start f.before.before.before in omega (arith, few f.before.before, (found f).most, s.requires.1.most, (sized (card s) s.requires.0.admits.admitted).most_elements_lem)) returns
    (λ c. let f = c in omega (arith, several f.before.before.before, few f.before.before.before, c.if-found-count.false)) loop_again returns_2)
