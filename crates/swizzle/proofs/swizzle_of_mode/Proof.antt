-- `swizzle::swizzle_of_mode` is the answer to any bits and mode: the branch taken is the one that `known` picks.
use mathlib.Core.Path.{◌≡◌, sym, ◌∙◌}
use mathlib.Core.Bool.{true}
use Rattle.swizzle.specs.Mode.{known}
use Rattle.swizzle.proofs.Widths.{known_parts}
use Rattle.swizzle.proofs.swizzle_of_mode.Statement.{statement}
use Rattle.swizzle.proofs.swizzle_of_mode.Tie as tie

is_known : (c : tie.Then-is_known) → known c.args.bits c.args.mode ≡ true
is_known c = sym c.is_known.ensures ∙ c.if-is_known.true

chosen : tie.Need-returns-then-is_known
chosen c = rw (is_known c.before, c.kept_bits.ensures)

pub swizzle_of_mode_spec : {M : Type 1} → statement M
swizzle_of_mode_spec =
    tie.close
    (tie.spec (λ c κs. tt) (λ c κs. (known_parts c.args.bits c.args.mode (is_known c)).0)
    chosen (λ c. rw (sym c.is_known.ensures ∙ c.if-is_known.false)))
