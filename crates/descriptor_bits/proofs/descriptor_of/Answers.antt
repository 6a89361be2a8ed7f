-- `descriptor_bits::descriptor_of` is the sum of the fields at their bits: none is shifted out of the 64.
use Rattle.std.proofs.Common.{arith, ◌≡◌, refl, ◌≤◌, Bool, true, false}
use mir.Val.{bool_byte}
use Rattle.descriptor.specs.Descriptor.{bit, descriptor_of}
use Rattle.descriptor_bits.proofs.descriptor_of.Goals as goal

number_of : (yes : Bool) → (bool_byte yes ≡ bit yes) × (bit yes ≤ 1)
number_of true = (refl, omega arith)
number_of false = (refl, omega arith)

pub returns : goal.returns
unfolding descriptor_of
returns c = omega (arith, c.from.ensures, number_of c.args.fields.non_zero)
