-- `outside::find_outside` finds nothing where the far ends lie inside, and else what the smallest number says.
use mathlib.Core.Path.{◌≡◌}
use mathlib.Core.Bool.{true, and-eq-true_iff}
use native.Mathlib.Omega.{arith}
use borrow.Author.Rules.{rules}
use borrow.Author.Tests.{eqb-true}
use lib.Dec.{eqb}
use lib.IntN.{pos}
use lib.ListN.{length, get_or}
use mir.Syntax.{w64}
use mir.Facts.{to_z-of_z}
use Rattle.card.specs.Card.{elements}
use Rattle.card.specs.Admission.{space_fits}
use Rattle.card.specs.Packed.{card_of}
use Rattle.card.specs.declared.Card.{Card}
use Rattle.card.proofs.Admitted.{checked, sized, measured}
use Rattle.card.proofs.ReadBack.{eight_lengths}
use Rattle.outside_reach.proofs.Inside.{stays_inside}
use Rattle.outside_ends.proofs.Packed.{spaced, ends_stay}
use Rattle.outside.proofs.Words.{word_first, word_none}
use Rattle.outside.proofs.find_outside.Statement.{statement}
use Rattle.outside.proofs.find_outside.Tie as tie

abbrev card : tie.Start → Card
card s = card_of s.args.numbers.now s.args.strides.now

eight : (s : tie.Start) → length (card s).lengths ≡ 8
eight s = eight_lengths {strides = s.args.strides.now} s.requires.whole

fits : (s : tie.Start) → space_fits (card s).lengths ≡ true
fits s = (checked (card s) s.requires.admitted).space

abbrev start : tie.After-ends → tie.Start
start e = e.before.before.before.before.before

abbrev asked : tie.After-high-2-1 → tie.After-ends
asked c = c.before.before

-- both start from the offset
ends_requires : tie.Need-ends-requires
ends_requires c κs = let o = c in (o.requires, o.offset-low.ensures, o.offset-high.ensures)

first_axis_requires : tie.Need-first_axis-first-requires
first_axis_requires c κs =
    let e = asked c in
    let s = start e in
    (e.ends.ensures.0.eight, e.ends.ensures.1.eight, spaced s.args.numbers.now s.args.strides.now s.requires)

abbrev looked : tie.After-first_axis-first → tie.After-ends
looked c = asked c.before

m_between_requires : tie.Need-m_between-requires
m_between_requires c κs = let s = start (looked c.before.before) in spaced s.args.numbers.now s.args.strides.now s.requires

returns : tie.Need-returns-then-first-m_between
returns c =
    let m = c in
    let f = m in
    let e = looked f.before.before.before.before in
    let s = start e in
    let both = (and-eq-true_iff (eqb f.first_axis-first.result 7) m.m_between.result).0 c.if-first-m_between.true in
    let axes = eqb-true f.first_axis-first.result 7 both.0 in
    let on_m = rw (
      to_z-of_z {w = w64} {z = get_or e.ends.new.low 7 (pos 0)} (record { sfits = m.m_between-arg-1.given }),
      to_z-of_z {w = w64} {z = get_or e.ends.new.high 7 (pos 0)} (record { sfits = m.m_between-arg-2-1.given }),
    ) at (m.m_between.ensures both.1) in
    stays_inside (card s) s.requires.admitted (eight s)
    (ends_stay s.args.numbers.now s.args.strides.now s.requires e.ends.ensures.0 e.ends.ensures.1
    (record { axes = rw axes at f.first_axis-first.ensures.1; m = on_m }))

abbrev axes_found : tie.After-first_of_all-word → tie.After-first_axis-first
axes_found c = c.before.before.before.before.before.before.before

abbrev found : tie.After-first_of_all-word → tie.After-ends
found c = looked (axes_found c)

first_of_all_requires : tie.Need-first_of_all-word-requires
first_of_all_requires c κs =
    let f = c in
    let e = looked f.before.before.before.before.before.before in
    (record { admits = (start e).requires; low_there = e.ends.ensures.0; high_there = e.ends.ensures.1 }, f.first_axis-first.ensures.0, f.first_axis-first.ensures.1)

all : (s : tie.Start) → get_or s.args.numbers.now 45 0 ≡ elements (card s)
all s = (measured s.args.numbers.now s.args.strides.now s.requires).elements_are

returns_2 : tie.Need-returns-then-numbers-word
returns_2 c =
    let w = c in
    let s = start (found w.before.before.before) in
    word_none (card s) (eight s) (fits s) w.first_of_all-word.result w.first_of_all-word.ensures (omega (arith, c.if-numbers-word.true, all s))

returns_3 : tie.Need-returns
returns_3 c =
    let w = c in
    let s = start (found w.before.before.before) in
    word_first (card s) (eight s) (fits s) w.first_of_all-word.result w.first_of_all-word.ensures (omega (arith, c.if-numbers-word.false, all s))

pub find_outside_spec : {M : Type 1} → statement M
find_outside_spec =
    tie.close
    (tie.spec (λ c κs. c.requires.whole.all_strides) (λ c κs. c.requires.whole.all_strides) ends_requires first_axis_requires (λ c. search rules) (λ c. search rules) m_between_requires returns
    first_of_all_requires (λ c. search rules) (λ c. let s = start (found c.before.before) in omega (arith, all s, (sized (card s) s.requires.admitted).most_elements_lem)) returns_2 returns_3)
