-- `copies::locate` tells the position from its word, of the first sizes and coordinates.
use Prim.Native.Nat.{ℕ, ◌+◌}
use mathlib.Core.Path.{◌≡◌, ap, ◌∙◌}
use native.Mathlib.Omega.{arith}
use borrow.Author.Rules.{rules}
use lib.ListN.{take}
use Rattle.rules.specs.RowMajor.{position}
use Rattle.copies.proofs.Numbers.{position_small, position_back}
use Rattle.copies.proofs.locate.Statement.{statement}
use Rattle.copies.proofs.locate.Tie as tie

returns : tie.Need-returns
returns c =
    let n = c in
    let s = n in
    let a = s.args in
    let xs = take a.count a.coordinates.now in
    let same : 0 + a.count ≡ a.count = omega arith in
    c.position_from.ensures
    ∙ position_back _ (position_small _ xs s.requires.0.small) n.number_among.ensures
    ∙ ap (λ (m : ℕ). position (take m a.sizes.now) xs) same

pub locate_spec : {M : Type 1} → statement M
locate_spec = tie.close (tie.spec (λ c κs. search rules) (λ c κs. search rules) returns)
