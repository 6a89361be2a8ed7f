-- `copies::copy_number` is where a copy goes: the replica is walked from the base, the sums are finished, m is swizzled, and the space asked last.
use Prim.Native.Nat.{ℕ}
use mathlib.Core.Path.{◌≡◌, refl, ap, ap₂, ◌∙◌}
use mathlib.Core.List.{List, map}
use lib.IntN.{ℤ, pos}
use lib.ListN.{length, get_or, set, length-set, length-map}
use lib.Seq.{slice}
use borrow.Author.Rules.{rules}
use mir.Syntax.{w64}
use mir.Facts.{to_z-of_z}
use Rattle.laws.proofs.Lists.{take_whole, map_set}
use Rattle.rules.specs.RowMajor.{position}
use Rattle.rules.specs.Rules.{swizzled_z, swizzled_m, on_axis}
use Rattle.card.specs.Packed.{swizzle_of}
use Rattle.rules.specs.Walked.{walked}
use Rattle.copies.specs.Clauses.{number_of}
use Rattle.copies.proofs.Spaces.{space_numerable}
use Rattle.copies.proofs.copy_number.Statement.{statement}
use Rattle.copies.proofs.copy_number.Tie as tie

abbrev start : tie.After-walk → tie.Start
start w = w.before.before.before

-- the sums, and that they are eight
abbrev sums : tie.After-walk → List ℤ
sums w = w.walk.new.sums

eight_sums : (w : tie.After-walk) → length (sums w) ≡ 8
unfolding walked
eight_sums w = ap length w.walk.ensures

abbrev walking : tie.After-finish → tie.After-walk
walking f = f.before.before.before

abbrev coordinates : tie.After-finish → List ℕ
coordinates f = f.finish.new.coordinates

eight : (f : tie.After-finish) (m : ℕ) → length (set (coordinates f) 7 m) ≡ 8
eight f m =
    length-set (coordinates f) 7 m ∙ ap length f.finish.ensures ∙ length-map (sums (walking f)) on_axis ∙ eight_sums (walking f)

finish_requires : tie.Need-finish-requires
finish_requires c κs = (eight_sums c.before.before, refl)

number_among_requires : tie.Need-number_among-requires
number_among_requires c κs =
    let f = c in
    let s = start (walking f.before.before.before.before) in
    (space_numerable s.args.numbers.now (search rules) s.requires.space, eight f.before.before.before.before _)

returns : tie.Need-returns
returns c =
    let p = c in
    let f = p in
    let w = walking f.before.before.before.before.before in
    let a = (start w).args in
    let lengths = slice 32 40 a.numbers.now in
    let swizzle = swizzle_of a.numbers.now in
    let m = get_or (sums w) 7 (pos 0) in
    let back : p.swizzled_on_axis.result ≡ on_axis (swizzled_z swizzle m) =
    p.swizzled_on_axis.ensures ∙ ap (λ (z : ℤ). on_axis (swizzled_z swizzle z)) (to_z-of_z {w = w64} {z = m} (record { sfits = p.swizzled_on_axis-arg-1.given })) in
    c.number_among.ensures
    ∙ ap (λ (l : List ℕ). number_of (position lengths l))
    (take_whole 8 (set (coordinates f.before.before.before.before.before) 7 _) (eight f.before.before.before.before.before _)
    ∙ ap₂ (λ (l : List ℕ) (n : ℕ). set l 7 n) f.finish.ensures back
    ∙ map_set on_axis (sums w) 7 (swizzled_z swizzle m))
    ∙ ap (λ (l : List ℤ). number_of (position lengths (map on_axis (swizzled_m swizzle l)))) w.walk.ensures

pub copy_number_spec : {M : Type 1} → statement M
copy_number_spec =
    tie.close
    (tie.spec (λ c κs. search rules) finish_requires (λ c. search rules) (λ c κs. search rules) (λ c. search rules) number_among_requires returns)
