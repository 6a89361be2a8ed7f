-- `outside_ends::m_between` asks m's far ends against whole blocks.
use mathlib.Core.Path.{◌≡◌, ap, ◌∙◌}
use mathlib.Core.Bool.{and-eq-true_iff}
use native.Mathlib.Omega.{arith}
use borrow.Author.Rules.{rules}
use lib.IntN.{pos}
use lib.Signed.{le_z, lt_z}
use mir.Syntax.{w64}
use mir.Val.{to_z}
use mir.Facts.{to_z-of_z, to_z_pos}
use Rattle.laws.proofs.Signed.{far_fits}
use Rattle.laws.proofs.Parts.{le_z_true, lt_z_true}
use Rattle.outside_ends.specs.Clauses.{blocks_of}
use Rattle.outside_ends.proofs.Packed.{few_blocks}
use Rattle.outside_ends.proofs.m_between.Statement.{statement}
use Rattle.outside_ends.proofs.m_between.Tie as tie

back : (c : tie.After-whole_blocks-whole) → to_z w64 c.whole_blocks-whole.result ≡ pos (blocks_of c.args.numbers.now)
back c = to_z_pos w64 (omega (arith, c.whole_blocks-whole.ensures, few_blocks c.requires)) ∙ ap pos c.whole_blocks-whole.ensures

returns : tie.Need-returns
returns c = λ e.
    let s = c in
    let a = s.args in
    let blocks = blocks_of a.numbers.now in
    let both = (and-eq-true_iff (le_z (pos 0) a.low) (lt_z a.high (pos blocks))).0 (rw (to_z-of_z s.ranges.low, to_z-of_z s.ranges.high, back c) at e) in
    record { from_zero = le_z_true (pos 0) a.low both.0; below = lt_z_true a.high (pos blocks) both.1 }

pub m_between_spec : {M : Type 1} → statement M
m_between_spec =
    tie.close (tie.spec (λ c κs. search rules) (λ c. far_fits (omega (arith, c.whole_blocks-whole.ensures, few_blocks c.requires))) returns)
