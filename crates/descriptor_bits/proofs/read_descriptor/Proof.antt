-- `descriptor_bits::read_descriptor` is the answer to any descriptor: the branch taken is the one that `reserved` picks.
use mathlib.Core.Path.{sym, ◌∙◌}
use borrow.Author.Rules.{rules}
use Rattle.descriptor_bits.proofs.read_descriptor.Statement.{statement}
use Rattle.descriptor_bits.proofs.read_descriptor.Tie as tie

pub read_descriptor_spec : {M : Type 1} → statement M
read_descriptor_spec =
    tie.close
    (tie.spec (λ c κs. search rules) (λ c κs. search rules) (λ c κs. search rules)
    (λ c. rw (sym c.has_reserved.ensures ∙ c.if-has_reserved.true, c.no_fields-fields.ensures))
    (λ c. rw (sym c.has_reserved.ensures ∙ c.if-has_reserved.false, c.fields_of-fields.ensures)))
