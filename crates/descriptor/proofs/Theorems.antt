-- What the definitions mean, in plain for-alls: reading and writing undo each other, and each promise settles its answer.
use Rattle.std.specs.Prelude.{Ok, Err, Result, ⊤}
use mathlib.Core.Path.{◌≡◌, refl, sym, ap, ◌∙◌}
use mathlib.Core.Bool.{Bool, true, false, cond, not}
use Prim.Native.Nat.{ℕ, ◌^◌, ◌≤◌, ◌<◌}
use native.Mathlib.Omega.{arith}
use borrow.Author.Tests.{le-ltb, ltb-false}
use lib.Dec.{eqb, ltb}
use Rattle.answers.specs.declared.Refusal.{Refusal}
use Rattle.answers.specs.Refusals.{answer, no_refusal}
use Rattle.answers.specs.declared.Refusal.TheVariants.{MaskSize, Reserved, Shift}
use Rattle.answers.proofs.OneToOne.{read_back, refused_back, pinned, rung}
use Rattle.laws.proofs.Rungs.{apart, passed_by}
use Rattle.descriptor.specs.Descriptor.{fields_of, no_fields, reserved, fields_answer, descriptor_of, mask_m, shift_limit, descriptor_answer, fields_numbers, descriptor_numbers}
use Rattle.descriptor.specs.declared.Fields.{Fields}
use Rattle.descriptor.specs.declared.DescriptorReading.{DescriptorReading}
use Rattle.descriptor.proofs.Digits.{Typed, fields_back, reserved_clear, descriptor_back}

-- no limit is above 32, so an allowed shift has six bits
pub limit_small : (M : ℕ) → shift_limit M ≤ 32
limit_small M = by (eqb M 32)
  where
    by : (b : Bool) → cond b 16 32 ≤ 32
    by true = omega arith
    by false = omega arith

-- reading what was written for an M gives the same fields
pub read_written : (M d : ℕ) (f : Fields) → Typed f → descriptor_answer (shift_limit M) M f ≡ Ok d → fields_answer d ≡ record { answer = no_refusal; fields = f }
read_written M d f t e =
    let known = passed_by (not (mask_m M)) e (λ q. apart (cc)) in
    let written = passed_by (ltb (shift_limit M) f.shift) known.1 (λ q. apart (cc)) in
    let last = written.1 in
    let same : descriptor_of f ≡ d = cc in
    let below : f.shift < 64 = omega (arith, limit_small M, ltb-false (shift_limit M) f.shift written.0) in
    rw (sym same, reserved_clear f t below, fields_back f t below)

-- writing for an M what was read gives the same descriptor, for every descriptor that reading accepts and writing for this M allows
pub written_read : (M d : ℕ) → d < 2 ^ 64 → mask_m M ≡ true → (fields_answer d).answer ≡ no_refusal → (fields_answer d).fields.shift ≤ shift_limit M
    → descriptor_answer (shift_limit M) M (fields_answer d).fields ≡ Ok d
written_read M d h m = split (reserved d) refl
  where
    read : Bool → DescriptorReading
    read b = cond b (record { answer = Err Reserved; fields = no_fields }) (record { answer = no_refusal; fields = fields_of d })

    split : (b : Bool) → reserved d ≡ b → (read b).answer ≡ no_refusal → (read b).fields.shift ≤ shift_limit M
        → descriptor_answer (shift_limit M) M (read b).fields ≡ Ok d
    split true b e l = absurd (apart (cc))
    split false b e l = rw (m, le-ltb (shift_limit M) (fields_of d).shift l, descriptor_back d h b)

-- two outcomes that the promise of reading allows are equal
pub read_settled : (d : ℕ) (p q : DescriptorReading) → p ≡ fields_answer d → q ≡ fields_answer d → p ≡ q
read_settled d p q e f = e ∙ sym f

-- and so are two that the promise of writing allows
pub write_settled : (limit M : ℕ) (f : Fields) (p q : Result ℕ Refusal) → p ≡ descriptor_answer limit M f → q ≡ descriptor_answer limit M f → p ≡ q
write_settled limit M f p q e g = e ∙ sym g

-- pinning the numbers pins the answer
read_back_lem : (p : Result ⊤ Refusal) → read_back (λ n. no_refusal) Err (fields_numbers p) ≡ p
read_back_lem (Ok _) = refl
read_back_lem (Err r) = refused_back (λ n. no_refusal) Err r

pub read_one_to_one : (p q : Result ⊤ Refusal) → fields_numbers p ≡ fields_numbers q → p ≡ q
read_one_to_one = pinned (λ n. no_refusal) Err fields_numbers read_back_lem

write_back : (p : Result ℕ Refusal) → read_back (λ n. Ok n.a) Err (descriptor_numbers p) ≡ p
write_back (Ok d) = refl
write_back (Err r) = refused_back (λ n. Ok n.a) Err r

pub write_one_to_one : (p q : Result ℕ Refusal) → descriptor_numbers p ≡ descriptor_numbers q → p ≡ q
write_one_to_one = pinned (λ n. Ok n.a) Err descriptor_numbers write_back

-- in document 01's numbers: 15 and a record of zeros, or 0 and the fields
pub read_in_numbers : (d : ℕ) (r : DescriptorReading) → r ≡ fields_answer d
    → (fields_numbers r.answer ≡ cond (reserved d) (answer 15 0 0 0) (answer 0 0 0 0)) × (r.fields ≡ cond (reserved d) no_fields (fields_of d))
read_in_numbers d r e = rw e (rung (λ (r : DescriptorReading). fields_numbers r.answer) (reserved d) refl refl, rung (λ (r : DescriptorReading). r.fields) (reserved d) refl refl)

-- 13, 16 and the limit, or 0 and the descriptor
pub write_in_numbers : (limit M : ℕ) (f : Fields) (r : Result ℕ Refusal) → r ≡ descriptor_answer limit M f
    → descriptor_numbers r
    ≡ cond (not (mask_m M)) (answer 13 0 0 0) (cond (ltb limit f.shift) (answer 16 limit 0 0) (answer 0 (descriptor_of f) 0 0))
write_in_numbers limit M f r e = ap descriptor_numbers e ∙ rung descriptor_numbers (not (mask_m M)) refl (rung descriptor_numbers (ltb limit f.shift) refl refl)
