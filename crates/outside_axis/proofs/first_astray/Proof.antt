-- `outside_axis::first_astray` asks both far ends: the first element that strays is the first of the two.
use mathlib.Core.Path.{◌≡◌, ap, ◌∙◌}
use mathlib.Core.Bool.{true, false}
use Prim.Native.Nat.{◌*◌, ◌≤◌}
use native.Mathlib.Omega.{arith}
use borrow.Author.Rules.{rules}
use lib.IntN.{ℤ, pos, negsuc, nat_abs, ◌-ℤ◌}
use mir.Syntax.{w64}
use mir.Val.{to_z, of_z, SFits}
use mir.Facts.{to_z-of_z, to_z_pos}
use Rattle.laws.proofs.Signed.{far_fits}
use Rattle.card.specs.Packed.{card_of}
use Rattle.card.specs.declared.Card.{Card}
use Rattle.copies_sums.specs.Walks.{roomy}
use Rattle.outside_reach.specs.Ends.{end_index}
use Rattle.outside_axis.proofs.Packed.{difference_far, sum_near}
use Rattle.outside_axis.proofs.Straying.{first_astray}
use Rattle.outside_axis.proofs.first_astray.Statement.{statement}
use Rattle.outside_axis.proofs.first_astray.Tie as tie

abbrev card : tie.Start → Card
card s = card_of s.args.numbers.now s.args.strides.now

-- the machine reads the ends back from their bits, and their distances fit
high_near : (s : tie.Start) → nat_abs s.args.high ≤ 2 * roomy
high_near s =
    let a = s.args in
    rw s.requires.high_there
    (sum_near a.numbers.now a.strides.now s.requires.admits (end_index true (card s).shard) (end_index true (card s).replica) a.axis)

low_near : (s : tie.Start) → nat_abs s.args.low ≤ 2 * roomy
low_near s =
    let a = s.args in
    rw s.requires.low_there
    (sum_near a.numbers.now a.strides.now s.requires.admits (end_index false (card s).shard) (end_index false (card s).replica) a.axis)

above_fits : (s : tie.Start) → SFits w64 (s.args.high -ℤ pos s.args.bound)
above_fits s = far_fits (omega (arith, difference_far s.args.high (pos s.args.bound), high_near s, s.requires.short))

below_fits : (s : tie.Start) → SFits w64 (negsuc 0 -ℤ s.args.low)
below_fits s = far_fits (omega (arith, difference_far (negsuc 0) s.args.low, low_near s))

high_back : (s : tie.Start) → to_z w64 (of_z w64 s.args.high) ≡ s.args.high
high_back s = to_z-of_z s.ranges.high

low_back : (s : tie.Start) → to_z w64 (of_z w64 s.args.low) ≡ s.args.low
low_back s = to_z-of_z s.ranges.low

bound_back : (s : tie.Start) → to_z w64 s.args.bound ≡ pos s.args.bound
bound_back s = to_z_pos w64 (omega (arith, s.requires.short))

first_over_requires : tie.Need-first_over-above-requires
first_over_requires c κs = rw (high_back c, bound_back c) (record {
  admits = c.requires.admits;
  there = to_z-of_z (above_fits c) ∙ ap (λ (z : ℤ). z -ℤ pos c.args.bound) c.requires.high_there;
})

first_over_requires_2 : tie.Need-first_over-below-requires
first_over_requires_2 c κs = let s = c in rw (low_back s.before) (record {
  admits = s.requires.admits;
  there = to_z-of_z (below_fits s.before) ∙ ap (λ (z : ℤ). negsuc 0 -ℤ z) s.requires.low_there;
})

returns : tie.Need-returns
returns c =
    let s = c in
    let a = s.args in
    rw c.min.ensures
    (first_astray (card s.before.before.before) s.requires.admits.admitted a.axis a.bound c.first_over-above.result.0 c.first_over-below.result.0
    c.first_over-above.ensures c.first_over-below.ensures)

pub first_astray_spec : {M : Type 1} → statement M
first_astray_spec =
    tie.close (tie.spec (λ c. search rules) (λ c. rw (high_back c, bound_back c) (above_fits c)) first_over_requires (λ c. rw (low_back c.before) (below_fits c.before))
    first_over_requires_2 (λ c κs. search rules) returns)
