-- `outside::first_of_all` looks at m before the element found so far, from the first on that reaches beyond the whole blocks,
-- which is the first that leaves where the length is whole blocks.
use mathlib.Core.Path.{subst}
use Prim.Native.Nat.{ℕ, ◌/◌, ◌≤◌}
use native.Mathlib.Omega.{arith}
use borrow.Author.Rules.{rules}
use lib.IntN.{pos}
use lib.ListN.{get_or}
use mir.Syntax.{w64}
use mir.Facts.{to_z-of_z}
use Rattle.card.specs.Limits.{last_axis}
use Rattle.card.specs.Card.{elements}
use Rattle.card.specs.Packed.{card_of}
use Rattle.card.specs.declared.Card.{Card}
use Rattle.rules_linear.specs.Leaving.{Sought}
use Rattle.outside_ends.proofs.Packed.{spaced, few_blocks}
use Rattle.outside_axis.specs.Straying.{Strays}
use Rattle.outside.proofs.Words.{word_more, word_m}
use Rattle.outside.proofs.Packed.{ended_on, sizes, leaves_on_m, none_before}
use Rattle.outside.proofs.first_of_all.Statement.{statement}
use Rattle.outside.proofs.first_of_all.Tie as tie

abbrev start : tie.After-whole_blocks-whole → tie.Start
start c = c.before.before

abbrev card : tie.Start → Card
card s = card_of s.args.numbers.now s.args.strides.now

first_astray_requires : tie.Need-first_astray-from-requires
first_astray_requires c κs =
    let w = c in
    let s = start w.before.before in
    let a = s.args in
    rw (
      to_z-of_z {w = w64} {z = get_or a.low.now last_axis (pos 0)} (record { sfits = c.first_astray-arg-1.given }),
      to_z-of_z {w = w64} {z = get_or a.high.now last_axis (pos 0)} (record { sfits = c.first_astray-arg-2-1.given }),
    )
    (ended_on s.requires.0 last_axis w.whole_blocks-whole.result (omega arith)
    (omega (arith, w.whole_blocks-whole.ensures, few_blocks (spaced a.numbers.now a.strides.now s.requires.0.admits))))

-- the elements before the one found so far
few : (w : tie.After-whole_blocks-whole) → w.first_on_axes-word.result / 8 ≤ elements (card (start w))
few w = omega (arith, w.first_on_axes-word.ensures.most)

abbrev strayed : tie.After-first_astray-from → tie.After-whole_blocks-whole
strayed c = c.before.before.before

-- the first that strays from the whole blocks is one of the elements, or past them
early : (c : tie.After-first_astray-from) → c.first_astray-from.result.0 ≤ 65536
early c = omega (arith, c.first_astray-from.ensures.most, (sizes (start (strayed c)).requires.0).most_elements_lem)

returns : tie.Need-returns-then-whole-numbers
returns c =
    let f = c in
    let w = strayed f.before.before.before.before.before in
    let s = start w in
    rw c.min.ensures
    (word_more (card s) w.first_on_axes-word.result f.first_astray-from.result.0 last_axis (omega arith) w.first_on_axes-word.ensures
    (leaves_on_m s.requires.0 f.first_astray-from.result.0 w.whole_blocks-whole.result w.whole_blocks-whole.ensures c.if-whole-numbers.true f.first_astray-from.ensures))

first_leaving_requires : tie.Need-first_leaving-flat-requires
first_leaving_requires c κs =
    let f = c in
    let w = strayed f.before.before.before in
    let s = start w in (
      s.requires.0.admits,
      none_before s.requires.0 f.first_astray-from.result.0 (w.first_on_axes-word.result / 8) (few w)
          (subst (λ (n : ℕ). Sought (Strays (card s) last_axis n) (elements (card s)) f.first_astray-from.result.0) w.whole_blocks-whole.ensures f.first_astray-from.ensures),
    )

small : (c : tie.After-first_leaving-flat) → c.first_leaving-flat.result.0 ≤ 65536
small c =
    let w = strayed c.before.before.before.before in
    omega (arith, c.first_leaving-flat.ensures.most, few w, (sizes (start w).requires.0).most_elements_lem)

returns_2 : tie.Need-returns
returns_2 c =
    let f = c in
    let w = strayed f.before.before.before.before.before.before in
    rw c.min-2.ensures
    (word_m (card (start w)) w.first_on_axes-word.result f.first_leaving-flat.result.0 w.first_on_axes-word.ensures f.first_leaving-flat.ensures)

pub first_of_all_spec : {M : Type 1} → statement M
first_of_all_spec =
    tie.close
    (tie.spec (λ c κs. search rules) (λ c κs. let s = c in spaced s.args.numbers.now s.args.strides.now s.requires.0.admits) (λ c. search rules) (λ c. search rules) first_astray_requires
    (λ c. search rules) (λ c. search rules) (λ c. search rules) (λ c. omega (arith, early c.before.before.before.before)) (λ c. omega (arith, early c.before.before.before.before)) (λ c κs. search rules) returns first_leaving_requires (λ c. omega (arith, small c.before)) (λ c. omega (arith, small c.before)) (λ c κs. search rules) returns_2)
