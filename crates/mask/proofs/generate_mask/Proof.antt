-- `mask::generate_mask` is the answer to any numbers, and leaves the memory so: each return is where the definition's tests lead.
use mathlib.Core.Path.{◌≡◌, refl, sym, ap₂, ◌∙◌}
use mathlib.Core.Bool.{true, false}
use Prim.Native.Nat.{ℕ, ◌/◌}
use native.Mathlib.Omega.{arith}
use borrow.Author.Tests.{lt-ltb, le-ltb, not-true, not-false}
use borrow.Author.Rules.{rules}
use lib.Dec.{ltb}
use lib.ListN.{length, take}
use lib.Seq.{length-take-le}
use Rattle.descriptor.specs.Descriptor.{fields_of, reserved, shift_limit}
use Rattle.mask.specs.Mask.{mask_size, mask_columns, mask_of}
use Rattle.descriptor.specs.declared.Fields.{Fields}
use Rattle.mask.proofs.Sizes.{sized}
use Rattle.mask.proofs.generate_mask.Statement.{statement}
use Rattle.mask.proofs.generate_mask.Tie as tie

-- what each test says of the numbers asked
size_known : (c : tie.Else-not-is_mask_size) → mask_size c.args.m c.args.n ≡ true
size_known c = sym c.is_mask_size.ensures ∙ c.if-not-is_mask_size.false

none_reserved : (c : tie.Else-has_reserved) → reserved c.args.descriptor ≡ false
none_reserved c = sym c.has_reserved.ensures ∙ c.if-has_reserved.false

shift_allowed : (c : tie.Else-limit-fields)
    → let a = c.args in ltb (shift_limit a.m) (fields_of a.descriptor).shift ≡ false
shift_allowed c =
    let limit = c.shift_limit-limit in
    let fields = c.fields_of-fields in
    ap₂ (λ (n : ℕ) (f : Fields). ltb n f.shift) (sym limit.ensures.0) (sym fields.ensures) ∙ le-ltb limit.result fields.result.shift c.if-limit-fields.false

shift_above : (c : tie.Then-limit-fields)
    → let a = c.args in ltb (shift_limit a.m) (fields_of a.descriptor).shift ≡ true
shift_above c =
    let limit = c.shift_limit-limit in
    let fields = c.fields_of-fields in
    ap₂ (λ (n : ℕ) (f : Fields). ltb n f.shift) (sym limit.ensures.0) (sym fields.ensures) ∙ lt-ltb limit.result fields.result.shift c.if-limit-fields.true

-- the part that is lent has N / 8 bytes
part_long : (c : tie.Else-mask-needed) → let a = c.args in length (take (a.n / 8) a.mask.now) ≡ a.n / 8
part_long c = let a = c.args in length-take-le (a.n / 8) a.mask.now c.if-mask-needed.false

returns : tie.Need-returns-then-not-is_mask_size
returns c = (rw (sym c.is_mask_size.ensures ∙ c.if-not-is_mask_size.true), refl)

returns_3 : tie.Need-returns-then-limit-fields
returns_3 c =
    let two = c in
    let limit = c.shift_limit-limit in
    (rw (size_known two.before.before.before.before.before.before, none_reserved two.before.before.before.before, shift_above c, limit.ensures.0), refl)

returns_4 : tie.Need-returns-then-mask-needed
returns_4 c =
    let two = c in
    let a = two.args in
    (rw (size_known two.before.before.before.before.before.before.before, none_reserved two.before.before.before.before.before, shift_allowed c.before, lt-ltb (length a.mask.now) (a.n / 8) c.if-mask-needed.true), refl)

fill_mask_requires : tie.Need-fill_mask-requires
fill_mask_requires c κs =
    let one = c in
    let a = one.args in
    let size = sized a.m a.n (size_known one.before.before.before.before.before.before.before.before.before) in
    let bits = c.sub_bits.ensures in
    let long = part_long c.before.before in
    omega arith

returns_5 : tie.Need-returns
returns_5 c =
    let four = c in
    let two = four in
    let one = two in
    let a = one.args in
    let fill = c.fill_mask in
    let bits = c.sub_bits.ensures in
    let fields = four.fields_of-fields.ensures in
    let long = part_long four.before.before.before.before.before in
    let filled : fill.result ≡ mask_of (mask_columns a.m a.n a.descriptor) a.n =
    fill.ensures.0 ∙ rw (bits, fields, long, (sized a.m a.n (size_known one.before.before.before.before.before.before.before.before.before.before.before.before)).whole) in (
      rw (size_known one.before.before.before.before.before.before.before.before.before.before.before.before, none_reserved two.before.before.before.before.before.before.before.before.before.before, shift_allowed four.before.before.before.before.before.before, le-ltb (length a.mask.now) (a.n / 8) four.if-mask-needed.false) filled,
      rw (filled, fill.ensures.1, bits, fields, long),
    )

pub generate_mask_spec : {M : Type 1} → statement M
generate_mask_spec =
    tie.close
    (tie.spec (λ c κs. tt) returns (λ c κs. tt)
    (λ c. (rw (size_known c.before.before, sym c.has_reserved.ensures ∙ c.if-has_reserved.true), refl)) (λ c κs. tt) (λ c κs. tt) returns_3 returns_4
    (λ c κs. tt) (λ c. search rules) (λ c. sym (part_long c.before.before)) fill_mask_requires (λ c. search rules) returns_5)
