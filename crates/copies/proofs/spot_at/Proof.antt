-- `copies::spot_at` is the spot: all eight axes are numbered, and each arm's position is the definition's own.
use mathlib.Core.Path.{◌≡◌, sym, ap, ◌∙◌}
use native.Mathlib.Omega.{arith}
use borrow.Author.Rules.{rules}
use lib.Seq.{slice}
use Rattle.laws.proofs.Lists.{take_whole}
use Rattle.rules.specs.RowMajor.{position}
use Rattle.copies.proofs.Numbers.{position_small, position_back}
use Rattle.copies.proofs.Spaces.{Roomed, roomed, space_numerable}
use Rattle.copies.proofs.spot_at.Statement.{statement}
use Rattle.copies.proofs.spot_at.Tie as tie

number_among_requires : tie.Need-number_among-requires
number_among_requires c κs = let s = c in (space_numerable s.args.numbers.now (search rules) s.requires.0, s.requires.1)

found : (c : tie.After-position_from) → let s = c in
    position (slice 32 40 s.args.numbers.now) s.args.coordinates.now ≡ c.position_from.result
found c =
    let n = c in
    let s = n in
    let lengths = slice 32 40 s.args.numbers.now in
    let room = roomed lengths s.requires.0 in
    sym
    (c.position_from.ensures
    ∙ position_back _ (position_small lengths _ (omega (arith, room.few))) n.number_among.ensures
    ∙ ap (position lengths) (take_whole 8 s.args.coordinates.now s.requires.1))

returns : tie.Need-returns-in-At
returns c = rw (found c.before, c.in-At.is)

returns_2 : tie.Need-returns-in-Past
returns_2 c = rw (found c.before, c.in-Past.is)

pub spot_at_spec : {M : Type 1} → statement M
spot_at_spec = tie.close (tie.spec number_among_requires (λ c κs. search rules) (λ c. search rules) (λ c. search rules) returns returns_2)
