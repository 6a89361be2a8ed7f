-- `admission::space_fits` is check 4: all eight lengths are tested, and below the cap the capped product decides as the whole one does.
use mathlib.Core.Path.{◌≡◌, ap, ap₂, ◌∙◌}
use mathlib.Core.Bool.{◌&&◌}
use mathlib.Core.List.{List}
use Prim.Native.Nat.{ℕ, min}
use native.Mathlib.Omega.{arith}
use borrow.Author.Rules.{rules}
use lib.Dec.{leb}
use lib.ListN.{take}
use Rattle.laws.proofs.Lists.{take_whole}
use Rattle.laws.proofs.Capped.{capped_leb}
use Rattle.card.specs.Lists.{all, within, product}
use Rattle.card.specs.Limits.{most_length, most_cells}
use Rattle.card.specs.Packed.{beyond}
use Rattle.admission.proofs.space_fits.Statement.{statement}
use Rattle.admission.proofs.space_fits.Tie as tie

whole : (s : tie.Start) → take 8 s.args.lengths ≡ s.args.lengths
whole s = take_whole 8 s.args.lengths (search rules)

returns : tie.Need-returns
returns c =
    let s = c in
    ap₂ ◌&&◌ (c.all_within.ensures ∙ ap (all (within 1 most_length)) (whole s.before.before.before))
    (ap (λ (n : ℕ). leb n most_cells) (c.product.ensures ∙ ap (λ (l : List ℕ). min (product l) beyond) (whole s.before.before.before))
    ∙ capped_leb beyond (product s.args.lengths) most_cells (omega arith))

pub space_fits_spec : {M : Type 1} → statement M
space_fits_spec = tie.close (tie.spec (λ c. search rules) (λ c κs. search rules) (λ c κs. search rules) returns)
