-- `urszovely::urszovely_fields` answers what the library's question answers: a shift that was read has six bits, so it is a byte.
use Rattle.std.specs.Prelude.{Err, Ok}
use Prim.Native.Nat.{ℕ, ◌/◌, ◌%◌, ◌^◌, ◌<◌}
use mathlib.Core.Path.{◌≡◌, refl, ap, ◌∙◌, subst, sym}
use mathlib.Core.Bool.{Bool, true, false, cond}
use native.Mathlib.Nat.{mod-lt}
use native.Mathlib.Omega.{arith}
use borrow.Author.Rules.{rules}
use Rattle.answers.specs.Refusals.{no_refusal}
use Rattle.answers.specs.declared.Refusal.TheVariants.{Reserved}
use Rattle.descriptor.specs.Descriptor.{fields_of, no_fields, reserved, fields_answer, fields_numbers}
use Rattle.descriptor.specs.declared.DescriptorReading.{DescriptorReading}
use Rattle.c_card.specs.Card.{four}
use Rattle.c_fields.specs.Fields.{bytes_of}
use Rattle.urszovely.proofs.urszovely_fields.Statement.{statement}
use Rattle.urszovely.proofs.urszovely_fields.Tie as tie

-- six bits
six : (d : ℕ) → (fields_of d).shift < 256
six d = let h : d / 2 ^ 56 % 64 < 64 = mod-lt (d / 2 ^ 56) (omega arith) in omega arith

small : (d : ℕ) → (fields_answer d).fields.shift < 256
small d = split (reserved d)
  where
    split : (b : Bool) → (cond {A = DescriptorReading} b (record { answer = Err Reserved; fields = no_fields }) (record { answer = no_refusal; fields = fields_of d })).fields.shift < 256
    split true = six 0
    split false = six d

field_bytes_requires : tie.Need-field_bytes-requires
field_bytes_requires c κs =
    let r = c in subst (λ (reading : DescriptorReading). reading.fields.shift < 256) (sym r.read_descriptor-reading.ensures) (small r.args.descriptor)

returns : tie.Need-returns
returns c =
    let n = c in
    let f = n in
    let r = f in (
      c.four.ensures ∙ ap four (n.in_numbers-numbers.ensures ∙ ap (λ (reading : DescriptorReading). fields_numbers reading.answer) r.read_descriptor-reading.ensures),
      f.field_bytes.ensures ∙ ap (λ (reading : DescriptorReading). bytes_of reading.fields) r.read_descriptor-reading.ensures,
    )

pub urszovely_fields_spec : {M : Type 1} → statement M
urszovely_fields_spec = tie.close (tie.spec (λ c κs. search rules) field_bytes_requires (λ c κs. search rules) (λ c κs. search rules) returns)
