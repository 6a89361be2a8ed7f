-- `descriptor_bits::write_descriptor` is the answer to any M and fields: each return is where the definition's tests lead.
use mathlib.Core.Path.{◌≡◌, sym, ◌∙◌}
use mathlib.Core.Bool.{true}
use borrow.Author.Tests.{lt-ltb, le-ltb, not-true, not-false}
use borrow.Author.Rules.{rules}
use Rattle.descriptor.specs.Descriptor.{mask_m}
use Rattle.descriptor_bits.proofs.write_descriptor.Statement.{statement}
use Rattle.descriptor_bits.proofs.write_descriptor.Tie as tie

m_known : (c : tie.Else-not-is_mask_m) → mask_m c.args.m ≡ true
m_known c = sym c.is_mask_m.ensures ∙ c.if-not-is_mask_m.false

returns : tie.Need-returns-then-not-is_mask_m
returns c = rw (sym c.is_mask_m.ensures ∙ c.if-not-is_mask_m.true)

returns_2 : tie.Need-returns-then-limit-fields
returns_2 c =
    let limit = c.shift_limit-limit in
    let one = c in
    rw (m_known one.before.before.before, sym limit.ensures.0, lt-ltb limit.result one.args.fields.shift c.if-limit-fields.true)

returns_3 : tie.Need-returns
returns_3 c =
    let limit = c.shift_limit-limit in
    let one = c in
    rw (m_known one.before.before.before.before, sym limit.ensures.0, le-ltb limit.result one.args.fields.shift c.if-limit-fields.false, c.descriptor_of.ensures)

pub write_descriptor_spec : {M : Type 1} → statement M
write_descriptor_spec = tie.close (tie.spec (λ c κs. search rules) returns (λ c κs. search rules) returns_2 (λ c κs. search rules) returns_3)
