-- Fields to descriptor and back: each field is a run of digits of the sum that is written, and the digits of a descriptor, cut at the fields'
-- ends, add up to it.
use mathlib.Core.Path.{◌≡◌, refl, sym, ◌∙◌}
use mathlib.Core.Bool.{Bool, true, false, not, ◌||◌, true≢false}
use mathlib.Core.List.{List, [], ◌∷◌}
use Prim.Native.Nat.{ℕ, zero, suc, ◌+◌, ◌*◌, ◌/◌, ◌^◌, ◌≤◌, ◌<◌}
use native.Mathlib.Nat.{mod-eq_of_lt, mod-lt, mod-one}
use native.Mathlib.Omega.{arith}
use borrow.Author.Tests.{eqb-true}
use lib.Dec.{eqb, lit<}
use lib.ListN.{length, get_or}
use lib.Pow.{mod-pow-add}
use Rattle.descriptor.specs.Descriptor.{bits, yes, bit, fields_of, reserved, descriptor_of}
use Rattle.descriptor.specs.declared.Fields.{Fields}

-- what the types of the fields say: four counts and four spans, counts and spans of columns below 256
pub record Typed (f : Fields) : Type 0 where
  pub counts : length f.start_counts ≡ 4
  pub spans : length f.first_spans ≡ 4
  pub count : (i : ℕ) → get_or f.start_counts i 0 < 256
  pub skip_span : f.skip_span < 256
  pub use_span : f.use_span < 256

-- a list of four is its four elements
four : {A : Type 0} (l : List A) (z : A) → length l ≡ 4 → get_or l 0 z ∷ get_or l 1 z ∷ get_or l 2 z ∷ get_or l 3 z ∷ [] ≡ l
four [] z e = absurd (omega arith)
four (a ∷ []) z e = absurd (omega arith)
four (a ∷ b ∷ []) z e = absurd (omega arith)
four (a ∷ b ∷ c ∷ []) z e = absurd (omega arith)
four (a ∷ b ∷ c ∷ d ∷ []) z e = refl
four (a ∷ b ∷ c ∷ d ∷ x ∷ l) z e = absurd (omega arith)

pub bit_below : (b : Bool) → bit b ≤ 1
bit_below true = omega arith
bit_below false = omega arith

pub yes_bit : (at d : ℕ) (b : Bool) → bits 1 at d ≡ bit b → yes at d ≡ b
yes_bit at d true e = rw e
yes_bit at d false e = rw e

pub bit_yes : (at d : ℕ) → bit (yes at d) ≡ bits 1 at d
bit_yes at d = digit (bits 1 at d) (mod-lt (d / 2 ^ at) (lit< tt))
  where
    digit : (n : ℕ) → n < 2 → bit (eqb n 1) ≡ n
    digit zero h = refl
    digit (suc zero) h = refl
    digit (suc (suc n)) h = absurd (omega arith)

-- the digits of d are the fields f, at their bits, and the reserved bits are clear
record Cut (f : Fields) (d : ℕ) : Type 0 where
  pub count0 : bits 8 0 d ≡ get_or f.start_counts 0 0
  pub count1 : bits 8 8 d ≡ get_or f.start_counts 1 0
  pub count2 : bits 8 16 d ≡ get_or f.start_counts 2 0
  pub count3 : bits 8 24 d ≡ get_or f.start_counts 3 0
  pub span0 : bits 1 32 d ≡ bit (get_or f.first_spans 0 false)
  pub span1 : bits 1 33 d ≡ bit (get_or f.first_spans 1 false)
  pub span2 : bits 1 34 d ≡ bit (get_or f.first_spans 2 false)
  pub span3 : bits 1 35 d ≡ bit (get_or f.first_spans 3 false)
  pub reserved3 : bits 3 36 d ≡ 0
  pub non_zero : bits 1 39 d ≡ bit f.non_zero
  pub skip_span : bits 8 40 d ≡ f.skip_span
  pub use_span : bits 8 48 d ≡ f.use_span
  pub shift : bits 6 56 d ≡ f.shift
  pub reserved2 : bits 2 62 d ≡ 0

cut : (f : Fields) → Typed f → f.shift < 64 → Cut f (descriptor_of f)
unfolding descriptor_of
cut f t h =
    let c0 = t.count 0 in
    let c1 = t.count 1 in
    let c2 = t.count 2 in
    let c3 = t.count 3 in
    let b0 = bit_below (get_or f.first_spans 0 false) in
    let b1 = bit_below (get_or f.first_spans 1 false) in
    let b2 = bit_below (get_or f.first_spans 2 false) in
    let b3 = bit_below (get_or f.first_spans 3 false) in
    let b = bit_below f.non_zero in
    omega arith

-- the fields of what was written are those that were written
pub fields_back : (f : Fields) → Typed f → f.shift < 64 → fields_of (descriptor_of f) ≡ f
fields_back f t h =
    let d = descriptor_of f in
    let c = cut f t h in
    let s0 = yes_bit 32 d (get_or f.first_spans 0 false) c.span0 in
    let s1 = yes_bit 33 d (get_or f.first_spans 1 false) c.span1 in
    let s2 = yes_bit 34 d (get_or f.first_spans 2 false) c.span2 in
    let s3 = yes_bit 35 d (get_or f.first_spans 3 false) c.span3 in
    let n = yes_bit 39 d f.non_zero c.non_zero in
    let counts = four f.start_counts 0 t.counts in
    let spans = four f.first_spans false t.spans in
    rw (c.count0, c.count1, c.count2, c.count3, s0, s1, s2, s3, n, c.skip_span, c.use_span, c.shift, counts, spans)

pub reserved_clear : (f : Fields) → Typed f → f.shift < 64 → reserved (descriptor_of f) ≡ false
reserved_clear f t h = let c = cut f t h in rw (c.reserved3, c.reserved2)

reserved_parts : (d : ℕ) → reserved d ≡ false → (bits 3 36 d ≡ 0) × (bits 2 62 d ≡ 0)
reserved_parts d r =
    let both = neither (eqb (bits 3 36 d) 0) (eqb (bits 2 62 d) 0) r in
    (eqb-true (bits 3 36 d) 0 both.0, eqb-true (bits 2 62 d) 0 both.1)
  where
    neither : (a b : Bool) → (not a || not b) ≡ false → (a ≡ true) × (b ≡ true)
    neither true true e = (refl, refl)
    neither true false e = (refl, sym e)
    neither false b e = (sym e, absurd (true≢false e))

-- numbers at the fields' bits, cut from the top, add up
added : (d s0 s1 s2 s3 f0 f1 f2 f3 r3 n skip used shift r2 none : ℕ)
    → d ≡ r2 * 2 ^ 62 + (shift * 2 ^ 56 + (used * 2 ^ 48 + (skip * 2 ^ 40 + (n * 2 ^ 39 + (r3 * 2 ^ 36
    + (f3 * 2 ^ 35 + (f2 * 2 ^ 34 + (f1 * 2 ^ 33 + (f0 * 2 ^ 32 + (s3 * 2 ^ 24 + (s2 * 2 ^ 16 + (s1 * 2 ^ 8 + (s0 * 2 ^ 0 + none)))))))))))))
    → r3 ≡ 0 → r2 ≡ 0 → none ≡ 0
    → s0 * 2 ^ 0 + s1 * 2 ^ 8 + s2 * 2 ^ 16 + s3 * 2 ^ 24 + (f0 * 2 ^ 32 + f1 * 2 ^ 33 + f2 * 2 ^ 34 + f3 * 2 ^ 35)
    + n * 2 ^ 39 + skip * 2 ^ 40 + used * 2 ^ 48 + shift * 2 ^ 56
    ≡ d
added d s0 s1 s2 s3 f0 f1 f2 f3 r3 n skip used shift r2 none e a b c = omega arith

-- what is written of the fields of a descriptor without reserved bits is that descriptor
pub descriptor_back : (d : ℕ) → d < 2 ^ 64 → reserved d ≡ false → descriptor_of (fields_of d) ≡ d
unfolding descriptor_of
descriptor_back d h r =
    let clear = reserved_parts d r in
    rw (bit_yes 32 d, bit_yes 33 d, bit_yes 34 d, bit_yes 35 d, bit_yes 39 d)
    (added d _ _ _ _ _ _ _ _ _ _ _ _ _ _ _
    (sym (mod-eq_of_lt h)
    ∙ rw (
      mod-pow-add d 2 62,
      mod-pow-add d 6 56,
      mod-pow-add d 8 48,
      mod-pow-add d 8 40,
      mod-pow-add d 1 39,
      mod-pow-add d 3 36,
      mod-pow-add d 1 35,
      mod-pow-add d 1 34,
      mod-pow-add d 1 33,
      mod-pow-add d 1 32,
      mod-pow-add d 8 24,
      mod-pow-add d 8 16,
      mod-pow-add d 8 8,
      mod-pow-add d 8 0,
    ))
    clear.0 clear.1 (mod-one d))
