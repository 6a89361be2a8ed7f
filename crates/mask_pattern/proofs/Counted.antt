-- The words of a mask: what their ones and the trailing zeros of their complements say, one word after the other, holds of the columns, and their
-- bytes are the bytes of the columns.
use mathlib.Core.Path.{◌≡◌, refl, sym, ap, fun_ext, ◌∙◌}
use mathlib.Core.Bool.{Bool, true, cond}
use mathlib.Core.List.{List, [], ◌∷◌}
use mathlib.Core.Logic.{⊎_elim}
use Prim.Native.Nat.{ℕ, ◌+◌, ◌-◌, ◌*◌, ◌/◌, ◌%◌, ◌^◌, ◌≤◌, ◌<◌, min}
use native.Mathlib.Nat.{zero-add}
use native.Mathlib.Omega.{arith}
use lib.Dec.{eqb}
use lib.ListN.{length, get_or, length-set, set as store}
use lib.Seq.{get_or-set_same, get_or-set_other}
use lib.Pow.{shr-shr}
use lib.Count.{ones, count_trailing_zeros, ones-le}
use Rattle.descriptor.specs.Descriptor.{yes}
use Rattle.descriptor.specs.declared.Fields.{Fields}
use Rattle.laws.proofs.Order.{le_or_lt}
use Rattle.mask_pattern.specs.Pattern.{column, columns_number, mask_bytes, zeroed, first_used}
use Rattle.mask_pattern.proofs.Numbers.{number_below, number_bit, number_of, ones_zeroed, zeroed_append, first_append, trailing_first}
use Rattle.mask_pattern.proofs.Bytes.{bytes_same}
use Rattle.mask_pattern.proofs.Runs.{side}

-- bit p mod 64 of word p / 64
abbrev pub word_bit : List ℕ → ℕ → Bool
word_bit words p = yes (p % 64) (get_or words (p / 64) 0)

-- byte j of words
pub word_byte : (words : List ℕ) (j : ℕ) → get_or words (j / 8) 0 / 2 ^ (8 * (j % 8)) % 256 ≡ columns_number (word_bit words) (8 * j) 8
word_byte words j =
    let w = get_or words (j / 8) 0 in
    sym (number_of (word_bit words) (8 * j) 8 (w / 2 ^ (8 * (j % 8)))
    (λ k l.
    let digit : (8 * j + k) % 64 ≡ 8 * (j % 8) + k = omega arith in
    let word : (8 * j + k) / 64 ≡ j / 8 = omega arith in
    rw (digit, word) (ap (λ (x : ℕ). eqb (x % 2) 1) (sym (shr-shr w (8 * (j % 8)) k)))))

-- words that are numbers of columns hold the columns, and their bytes are the bytes of the columns
pub words_bytes : (set : ℕ → Bool) (words : List ℕ) (n : ℕ) → ((i : ℕ) → 64 * i < 8 * n → get_or words i 0 ≡ columns_number set (64 * i) (min (8 * n - 64 * i) 64))
    → mask_bytes (word_bit words) n ≡ mask_bytes set n
words_bytes set words n h =
    bytes_same (word_bit words) set n
    (λ k l.
    let whole : 64 * (k / 64) + k % 64 ≡ k = omega arith in
    ap (yes (k % 64)) (h (k / 64) (omega arith))
    ∙ number_bit set (64 * (k / 64)) (min (8 * n - 64 * (k / 64)) 64) (k % 64) (omega arith)
    ∙ ap set whole)

-- where the non-zero mask is 1 the columns are those of the sub-masks side by side
pub columns_set : (size : ℕ) (f : Fields) → f.non_zero ≡ true → column size f ≡ side f.skip_span f.use_span size f.start_counts f.first_spans
unfolding column
columns_set size f on = fun_ext (λ q. rw on)

-- what is known once the words of the first p of n columns are made
module _ (set : ℕ → Bool) (n : ℕ) where
  pub record Counted (words : List ℕ) (count first p : ℕ) : Type 0 where
    pub most : p ≤ n
    pub at_word : p < n → p % 64 ≡ 0
    pub room : length words ≡ 4
    pub counted : count ≡ zeroed set 0 p
    pub few : count ≤ p
    pub least : first ≡ first_used set 0 p
    pub held : (i : ℕ) → 64 * i < p → get_or words i 0 ≡ columns_number set (64 * i) (min (n - 64 * i) 64)

  pub none_counted : Counted (0 ∷ 0 ∷ 0 ∷ 0 ∷ []) 0 0 0
  unfolding zeroed first_used
  none_counted =
      record {
        most = omega arith;
        at_word = λ h. refl;
        room = refl;
        counted = refl;
        few = omega arith;
        least = refl;
        held = λ i h. absurd (omega arith);
      }

  -- one word more
  pub one_more : (words : List ℕ) (count first p step word further : ℕ) → Counted words count first p → n ≤ 256 → p < n → step ≡ min (n - p) 64
      → word ≡ columns_number set p step
      → further ≡ cond (eqb first p) (p + count_trailing_zeros 64 (18446744073709551615 - word)) first
      → Counted (store words (p / 64) word) (count + ones word) further (p + step)
  one_more words count first p step word further c small h s w f =
      record {
        most = omega arith;
        at_word = λ l. let whole = c.at_word h in omega arith;
        room = simp length-set c.room;
        counted = rw (c.counted, w, ones_zeroed set p step, zeroed_append set 0 p step, zero-add p);
        few = omega (arith, c.few, ones-le step word (rw w (number_below set p step)));
        least = f ∙ rw (w, trailing_first set 64 p step (omega arith), c.least, first_append set 0 p step, zero-add p);
        held = λ i l.
            ⊎_elim
            (λ (there : p ≤ 64 * i).
            let whole = c.at_word h in
            let here : i ≡ p / 64 = omega arith in
            let from : p ≡ 64 * (p / 64) = omega arith in
            rw here
            (get_or-set_same words (p / 64) word 0 (omega (arith, c.room))
            ∙ w
            ∙ ap (columns_number set p) s
            ∙ ap (λ (q : ℕ). columns_number set q (min (n - q) 64)) from))
            (λ (before : 64 * i < p).
            get_or-set_other words (p / 64) i word 0 (λ (e : i ≡ p / 64). let whole = c.at_word h in omega arith) ∙ c.held i before)
            (le_or_lt p (64 * i));
      }
