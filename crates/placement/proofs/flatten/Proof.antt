-- `placement::flatten` is the element that the coordinates name: counted alike, they are numbered among the dimensions.
use mathlib.Core.Path.{◌≡◌, sym, ◌∙◌}
use native.Mathlib.Omega.{arith}
use lib.ListN.{length}
use borrow.Author.Rules.{rules}
use Rattle.copies.proofs.Spaces.{prefix_numerable}
use Rattle.placement.proofs.Elements.{element_uncounted, element_found, element_past}
use Rattle.placement.proofs.flatten.Statement.{statement}
use Rattle.placement.proofs.flatten.Tie as tie

returns : tie.Need-returns-then-coordinates-shape
returns c = let a = c.args in element_uncounted a.shape a.coordinates c.if-coordinates-shape.true

returns_2 : tie.Need-returns-in-At
returns_2 c =
    let l = c in
    let i = l in
    let a = i.args in
    element_found a.shape a.coordinates i.if-coordinates-shape.false c.in-At.number (sym l.locate.ensures ∙ c.in-At.is)

returns_3 : tie.Need-returns-in-Past
returns_3 c =
    let l = c in
    let i = l in
    let a = i.args in
    element_past a.shape a.coordinates i.if-coordinates-shape.false c.in-Past.field-0 (sym l.locate.ensures ∙ c.in-Past.is)

locate_requires : tie.Need-locate-requires
locate_requires c κs =
    let s = c in
    let at = s.args.shape.at in
    let eight : length at ≡ 8 = search rules in
    let p = s.requires in
    (prefix_numerable at s.args.shape.count (omega (arith, p.few_dimensions)) p.few_dimensions p.some p.small, search rules)

pub flatten_spec : {M : Type 1} → statement M
flatten_spec = tie.close (tie.spec returns locate_requires (λ c. search rules) (λ c. search rules) returns_2 returns_3)
