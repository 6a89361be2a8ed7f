-- What a mask for M reads of its fields, and no more: two descriptors alike in it have the same columns, so the same answer and the same bytes.
use Rattle.std.specs.Prelude.{Result, Ok, Err}
use mathlib.Core.Path.{◌≡◌, refl, ap, ap₂}
use mathlib.Core.Bool.{Bool, true, false}
use mathlib.Core.List.{List, ◌++◌}
use Prim.Native.Nat.{ℕ, ◌+◌, ◌/◌, ◌<◌}
use native.Mathlib.Nat.{div-lt_iff_lt-mul}
use native.Mathlib.Omega.{arith}
use lib.Dec.{ltb}
use lib.ListN.{get_or, drop}
use Rattle.answers.specs.declared.Refusal.{Refusal}
use Rattle.mask.specs.declared.Mask.{Mask}
use Rattle.descriptor.specs.Descriptor.{fields_of, reserved}
use Rattle.mask_pattern.specs.Pattern.{column, mask_bytes}
use Rattle.mask.specs.Mask.{mask_size, sub_masks, sub_bits, mask_columns, mask_of, mask_answer, mask_memory, mask_with}
use Rattle.descriptor.specs.declared.Fields.{Fields}
use Rattle.mask_pattern.proofs.Numbers.{zeroed_same, first_same}
use Rattle.mask_pattern.proofs.Bytes.{bytes_same}
use Rattle.mask.proofs.Sizes.{Sized, sized}

-- alike but for the shift and the fields of sub-masks that M does not use
pub record Alike (M : ℕ) (f g : Fields) : Type 0 where
  pub counts : (i : ℕ) → i < sub_masks M → get_or f.start_counts i 0 ≡ get_or g.start_counts i 0
  pub spans : (i : ℕ) → i < sub_masks M → get_or f.first_spans i false ≡ get_or g.first_spans i false
  pub non_zero : f.non_zero ≡ g.non_zero
  pub skip_span : f.skip_span ≡ g.skip_span
  pub use_span : f.use_span ≡ g.use_span

column_alike : (M N : ℕ) (f g : Fields) → Sized M N → Alike M f g → (p : ℕ) → p < N → column (sub_bits M N) f p ≡ column (sub_bits M N) g p
unfolding column
column_alike M N f g s a p h =
    let used : p / sub_bits M N < sub_masks M = (div-lt_iff_lt-mul {k = sub_bits M N} (omega arith)).1 (omega arith) in
    rw (a.counts (p / sub_bits M N) used, a.spans (p / sub_bits M N) used, a.non_zero, a.skip_span, a.use_span)

module _ (limit M N d e : ℕ) (memory : List ℕ) (alike : Alike M (fields_of d) (fields_of e)) where
  mask_alike : mask_size M N ≡ true → (mask_of (mask_columns M N d) N ≡ mask_of (mask_columns M N e) N) × (mask_bytes (mask_columns M N d) (N / 8) ≡ mask_bytes (mask_columns M N e) (N / 8))
  mask_alike h =
      let s = sized M N h in
      let same : (p : ℕ) → p < N → mask_columns M N d p ≡ mask_columns M N e p = column_alike M N (fields_of d) (fields_of e) s alike in
      let all : (p : ℕ) → p < 0 + N → mask_columns M N d p ≡ mask_columns M N e p = λ p l. same p (omega arith) in (
        ap₂ mask_with (zeroed_same (mask_columns M N d) (mask_columns M N e) 0 N all) (first_same (mask_columns M N d) (mask_columns M N e) 0 N all),
        bytes_same (mask_columns M N d) (mask_columns M N e) (N / 8) (λ p l. same p (omega arith)),
      )

  answered : (r : Result Mask Refusal) → mask_bytes (mask_columns M N d) (N / 8) ≡ mask_bytes (mask_columns M N e) (N / 8) → mask_memory r M N d memory ≡ mask_memory r M N e memory
  answered (Ok mask) b = ap (λ (l : List ℕ). l ++ drop (N / 8) memory) b
  answered (Err refusal) b = refl

  pub alike_same : (room : ℕ) → reserved d ≡ reserved e → ltb limit (fields_of d).shift ≡ ltb limit (fields_of e).shift
      → (mask_answer limit M N d room ≡ mask_answer limit M N e room)
      × (mask_memory (mask_answer limit M N d room) M N d memory ≡ mask_memory (mask_answer limit M N e room) M N e memory)
  alike_same room r l = by (mask_size M N) refl
    where
      by : (b : Bool) → mask_size M N ≡ b
          → (mask_answer limit M N d room ≡ mask_answer limit M N e room)
          × (mask_memory (mask_answer limit M N d room) M N d memory ≡ mask_memory (mask_answer limit M N e room) M N e memory)
      by true h =
          let same = mask_alike h in
          let answer : mask_answer limit M N d room ≡ mask_answer limit M N e room = rw (r, l, same.0) in
          (answer, rw answer (answered (mask_answer limit M N e room) same.1))
      by false h = (rw h, rw h)
