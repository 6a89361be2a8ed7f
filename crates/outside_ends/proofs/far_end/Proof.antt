-- `outside_ends::far_end` is the far end of the definition: the tests are those that it makes.
use mathlib.Core.Path.{◌≡◌, sym, ap, ◌∙◌}
use native.Mathlib.Omega.{arith}
use lib.IntN.{pos}
use lib.Signed.{le_z}
use mir.Syntax.{w64}
use mir.Val.{to_z, of_z}
use mir.Facts.{to_z-of_z}
use Rattle.outside_ends.proofs.far_end.Statement.{statement}
use Rattle.outside_ends.proofs.far_end.Tie as tie

-- the machine reads the stride back from its bits
flag : (s : tie.Start) → le_z (pos 0) s.args.stride ≡ le_z (pos 0) (to_z w64 (of_z w64 s.args.stride))
flag s = ap (le_z (pos 0)) (sym (to_z-of_z s.ranges.stride))

returns : tie.Need-returns-then-forward
returns c = rw (c.if-up.true, flag c.before.before ∙ c.if-forward.true)

returns_2 : tie.Need-returns-else-forward
returns_2 c = rw (c.if-up.true, flag c.before.before ∙ c.if-forward.false)

returns_3 : tie.Need-returns-then-forward-2
returns_3 c = rw (c.if-up.false, flag c.before.before ∙ c.if-forward-2.true)

returns_4 : tie.Need-returns-else-forward-2
returns_4 c = rw (c.if-up.false, flag c.before.before ∙ c.if-forward-2.false)

pub far_end_spec : {M : Type 1} → statement M
far_end_spec =
    tie.close (tie.spec (λ c. omega (arith, c.requires)) (λ c. omega (arith, c.requires)) returns returns_2 returns_3 returns_4)
