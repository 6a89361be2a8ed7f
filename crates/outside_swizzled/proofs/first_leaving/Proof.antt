-- `outside_swizzled::first_leaving` lends a place for what the copies add to m, as long as there are copies.
use Prim.Native.Nat.{ℕ, ◌≤◌}
use mathlib.Core.Path.{◌≡◌, sym, ◌∙◌}
use native.Mathlib.Omega.{arith}
use borrow.Author.Rules.{rules}
use lib.IntN.{ℤ, pos}
use lib.ListN.{length, get_or, take, replicate}
use lib.Seq.{length-take-le}
use Rattle.card.specs.Packed.{card_of}
use Rattle.card.proofs.Admitted.{sized, measured}
use Rattle.rules_linear.proofs.Leaving.{sought_none}
use Rattle.outside_swizzled.proofs.first_leaving.Statement.{statement}
use Rattle.outside_swizzled.proofs.first_leaving.Tie as tie

abbrev count : tie.Start → ℕ
count s = get_or s.args.numbers.now 46 0

few : (s : tie.Start) → count s ≤ 64
few s =
    let n = s.args.numbers.now in
    let m = s.args.strides.now in
    omega (arith, (measured n m s.requires.0).copies_are, (sized (card_of n m) s.requires.0.admitted).most_copies_lem)

long : (s : tie.Start) → length {A = ℤ} (take (count s) (replicate 64 (pos 0))) ≡ count s
long s = length-take-le (count s) (replicate 64 (pos 0)) (few s)

first_by_adds_requires : tie.Need-first_by_adds-requires
first_by_adds_requires c κs =
    let e = c in
    let s = e in
    ((s.requires.0, s.requires.1, omega (arith, e.if-limit-from.false)), long s.before.before.before.before.before.before ∙ (measured s.args.numbers.now s.args.strides.now s.requires.0).copies_are)

pub first_leaving_spec : {M : Type 1} → statement M
first_leaving_spec =
    tie.close
    (tie.spec (λ c. let s = c in sought_none (λ j h. s.requires.1.none_before j (omega (arith, c.if-limit-from.true)))) (λ c. search rules) (λ c. few c.before.before.before.before.before)
    (λ c. sym (long c.before.before.before.before.before.before)) first_by_adds_requires (λ c. c.first_by_adds.ensures))
