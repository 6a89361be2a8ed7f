-- What the definitions mean, in plain for-alls: a mask is its pattern's columns, what does not count changes nothing, and the promise settles
-- the answer.
use Rattle.std.specs.Prelude.{Result, Err, Ok}
use mathlib.Core.Path.{◌≡◌, refl, sym, ap, ap₂, fun_ext, ◌∙◌}
use mathlib.Core.Bool.{true, false, cond, not}
use mathlib.Core.List.{List, ◌++◌}
use Prim.Native.Nat.{ℕ, ◌+◌, ◌/◌, ◌%◌, ◌≤◌, ◌<◌}
use native.Mathlib.Omega.{arith}
use borrow.Author.Tests.{le-ltb}
use lib.Dec.{ltb, eqb}
use lib.ListN.{length, get_or, drop, replicate, get_or-append}
use lib.Seq.{drop_at}
use Rattle.answers.specs.declared.Refusal.{Refusal}
use Rattle.mask.specs.declared.Mask.{Mask}
use Rattle.answers.specs.Refusals.{answer}
use Rattle.answers.proofs.OneToOne.{refusal_not_zero, read_back, refused_back, pinned, rung}
use Rattle.descriptor.specs.Descriptor.{yes, fields_of, reserved}
use Rattle.mask_pattern.specs.Pattern.{mask_bytes, zeroed, first_used}
use Rattle.mask.specs.Mask.{mask_size, sub_bits, mask_columns, mask_of, mask_answer, mask_memory, mask_numbers, mask_with}
use Rattle.mask_pattern.specs.Bits.{b_column, mask_bit}
use Rattle.descriptor.specs.declared.Fields.{Fields}
use Rattle.mask_pattern.proofs.Numbers.{zeroed_same, first_same}
use Rattle.mask_pattern.proofs.Bytes.{bytes_length, none_zeroed, all_used_lem, zero_bytes, bytes_bit}
use Rattle.mask.proofs.Sizes.{sized}
use Rattle.mask.proofs.Alike.{Alike, alike_same}
-- the endless pattern runs in turns; a mask repeats from the start of each sub-mask; the first used column is the smallest that is clear
pub use Rattle.mask_pattern.proofs.Pattern.{Turns, turns, all_clear, repeats}
pub use Rattle.mask_pattern.proofs.Least.{Least, first_least, least_one}

-- a mask whose non-zero mask field is 0: no column is zeroed, and every byte is 0
pub clear_mask : (M N d : ℕ) → (fields_of d).non_zero ≡ false → (mask_of (mask_columns M N d) N ≡ mask_with 0 0) × (mask_bytes (mask_columns M N d) (N / 8) ≡ replicate (N / 8) 0)
clear_mask M N d e =
    rw (fun_ext (all_clear (sub_bits M N) (fields_of d) e)) (ap₂ mask_with (none_zeroed 0 N) (all_used_lem 0 N), zero_bytes (N / 8))

-- mask bit p of the lent memory is column p
pub mask_bits : (M N d zeroed used : ℕ) (lent : List ℕ) (p : ℕ) → mask_size M N ≡ true → p < N → mask_bit (mask_memory (mask_with zeroed used) M N d lent) p ≡ mask_columns M N d p
mask_bits M N d zeroed used lent p h l =
    let s = sized M N h in
    let within : p / 8 < length (mask_bytes (mask_columns M N d) (N / 8)) = rw (bytes_length (mask_columns M N d) (N / 8)) (omega arith) in
    ap (λ (byte : ℕ). yes (p % 8) byte) (get_or-append (mask_bytes (mask_columns M N d) (N / 8)) (drop (N / 8) lent) 0 (p / 8) within)
    ∙ bytes_bit (mask_columns M N d) (N / 8) p (omega arith)

-- so the count and the first used column of the answer are those of the lent memory's first N bits
pub mask_counted : (M N d zeroed used : ℕ) (lent : List ℕ) → mask_size M N ≡ true → mask_of (mask_bit (mask_memory (mask_with zeroed used) M N d lent)) N ≡ mask_of (mask_columns M N d) N
mask_counted M N d zeroed used lent h =
    let memory = mask_bit (mask_memory (mask_with zeroed used) M N d lent) in
    let same : (p : ℕ) → p < 0 + N → memory p ≡ mask_columns M N d p = λ p l. mask_bits M N d zeroed used lent p h (omega arith) in
    ap₂ mask_with (zeroed_same memory (mask_columns M N d) 0 N same) (first_same memory (mask_columns M N d) 0 N same)

-- and bytes past N / 8 are as they were
pub past_kept : (M N d zeroed used : ℕ) (lent : List ℕ) → drop (N / 8) (mask_memory (mask_with zeroed used) M N d lent) ≡ drop (N / 8) lent
past_kept M N d zeroed used lent = drop_at (mask_bytes (mask_columns M N d) (N / 8)) (drop (N / 8) lent) (N / 8) (bytes_length (mask_columns M N d) (N / 8))

-- the same answer and the same lent memory after it
pub record Same (limit M N d e : ℕ) (lent : List ℕ) : Type 0 where
  pub answer : mask_answer limit M N d (length lent) ≡ mask_answer limit M N e (length lent)
  pub memory : mask_memory (mask_answer limit M N d (length lent)) M N d lent ≡ mask_memory (mask_answer limit M N e (length lent)) M N e lent

-- the same fields with another shift
abbrev pub with_shift : Fields → ℕ → Fields
with_shift f shift =
    record {
      start_counts = f.start_counts;
      first_spans = f.first_spans;
      non_zero = f.non_zero;
      skip_span = f.skip_span;
      use_span = f.use_span;
      shift = shift;
    }

-- the mask of N columns speaks of B columns shift to N - 1 + shift: with N = 128 and shift 2, as source document 003 has it, of 2 to 129
pub b_columns : (f : Fields) (N p : ℕ) → p < N → (f.shift ≤ b_column f p) × (b_column f p < N + f.shift)
b_columns f N p h = (omega arith, omega arith)

-- descriptors that differ only in an allowed shift
pub shift_changes_nothing : (limit M N d e : ℕ) (lent : List ℕ) → reserved d ≡ reserved e → (fields_of d).shift ≤ limit → (fields_of e).shift ≤ limit
    → fields_of d ≡ with_shift (fields_of e) (fields_of d).shift → Same limit M N d e lent
shift_changes_nothing limit M N d e lent r h l same =
    let alike : Alike M (fields_of d) (fields_of e) =
    record {
      counts = λ i b. ap (λ (f : Fields). get_or f.start_counts i 0) same;
      spans = λ i b. ap (λ (f : Fields). get_or f.first_spans i false) same;
      non_zero = ap (λ (f : Fields). f.non_zero) same;
      skip_span = ap (λ (f : Fields). f.skip_span) same;
      use_span = ap (λ (f : Fields). f.use_span) same;
    } in
    let both = alike_same limit M N d e lent alike (length lent) r (le-ltb limit (fields_of d).shift h ∙ sym (le-ltb limit (fields_of e).shift l)) in
    record { answer = both.0; memory = both.1 }

-- descriptors that differ only in fields of sub-masks that M does not use
pub unused_change_nothing : (limit M N d e : ℕ) (lent : List ℕ) → reserved d ≡ reserved e → (fields_of d).shift ≡ (fields_of e).shift
    → Alike M (fields_of d) (fields_of e) → Same limit M N d e lent
unused_change_nothing limit M N d e lent r shift alike =
    let both = alike_same limit M N d e lent alike (length lent) r (ap (ltb limit) shift) in
    record { answer = both.0; memory = both.1 }

-- two outcomes that the promise of a mask allows are equal, the lent memory too
pub mask_settled : (limit M N d : ℕ) (lent : List ℕ) (p q : Result Mask Refusal) (k l : List ℕ)
    → (p ≡ mask_answer limit M N d (length lent)) × (k ≡ mask_memory p M N d lent)
    → (q ≡ mask_answer limit M N d (length lent)) × (l ≡ mask_memory q M N d lent)
    → (p ≡ q) × (k ≡ l)
mask_settled limit M N d lent p q k l a b =
    let same : p ≡ q = a.0 ∙ sym b.0 in
    (same, a.1 ∙ ap (λ (r : Result Mask Refusal). mask_memory r M N d lent) same ∙ sym b.1)

-- pinning the numbers pins the answer
mask_back : (p : Result Mask Refusal) → read_back (λ n. mask_with n.a n.b) Err (mask_numbers p) ≡ p
mask_back (Ok mask) = refl
mask_back (Err r) = refused_back (λ n. mask_with n.a n.b) Err r

pub mask_one_to_one : (p q : Result Mask Refusal) → mask_numbers p ≡ mask_numbers q → p ≡ q
mask_one_to_one = pinned (λ n. mask_with n.a n.b) Err mask_numbers mask_back

-- in document 01's numbers: 13, 15, 16 with the limit, 11 with N / 8, or 0 with the zeroed columns and the first used one; and the lent memory,
-- the mask and the bytes past it at 0, else untouched
pub mask_in_numbers : (limit M N d : ℕ) (before after : List ℕ) (r : Result Mask Refusal) → r ≡ mask_answer limit M N d (length before)
    → after ≡ mask_memory r M N d before
    → (mask_numbers r
    ≡ cond (not (mask_size M N)) (answer 13 0 0 0)
    (cond (reserved d) (answer 15 0 0 0)
    (cond (ltb limit (fields_of d).shift) (answer 16 limit 0 0)
    (cond (ltb (length before) (N / 8)) (answer 11 (N / 8) 0 0)
    (answer 0 (zeroed (mask_columns M N d) 0 N) (first_used (mask_columns M N d) 0 N) 0)))))
    × (after ≡ cond (eqb (mask_numbers r).number 0) (mask_bytes (mask_columns M N d) (N / 8) ++ drop (N / 8) before) before)
mask_in_numbers limit M N d before after r e left = (
  ap mask_numbers e
      ∙ rung mask_numbers (not (mask_size M N)) refl
      (rung mask_numbers (reserved d) refl
      (rung mask_numbers (ltb limit (fields_of d).shift) refl (rung mask_numbers (ltb (length before) (N / 8)) refl refl))),
  left ∙ memory r,
)
  where
    memory : (r : Result Mask Refusal)
        → mask_memory r M N d before ≡ cond (eqb (mask_numbers r).number 0) (mask_bytes (mask_columns M N d) (N / 8) ++ drop (N / 8) before) before
    memory (Ok mask) = refl
    memory (Err refusal) = rw (refusal_not_zero refusal)
