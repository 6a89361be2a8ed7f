-- Registers that are written back as they were read leave every array as given, a sort above 2 too, and where only some were dealt or
-- collected the other entries: by cases on the sort.
use Rattle.std.specs.Prelude.{Result, ⊤, Ok, Err}
use mathlib.Core.Path.{◌≡◌, refl, sym, ap, ◌∙◌}
use mathlib.Core.Bool.{Bool, true, false, cond}
use mathlib.Core.List.{List, []}
use Prim.Native.Nat.{ℕ, zero, suc, ◌+◌, ◌*◌, ◌/◌, ◌%◌, ◌≤◌, ◌<◌}
use native.Mathlib.Omega.{arith}
use native.Mathlib.Decide.{dec_le}
use native.Mathlib.Nat.{le_of_suc-le-suc, not-suc-le-zero}
use borrow.Author.Tests.{eqb-true}
use lib.Dec.{eqb}
use lib.ListN.{length, get_or}
use Rattle.answers.specs.declared.Refusal.{Refusal}
use Rattle.fragment.specs.Kinds.{at}
use Rattle.fragment.specs.Fragment.{is_place}
use Rattle.c_bits.specs.declared.Bits.{Bits}
use Rattle.c_bits.specs.declared.Bits.TheVariants.{Empty, Single, Double}
use Rattle.values.specs.Rows.{entry}
use Rattle.values.specs.Values.{is_own, dealt, collected}
use Rattle.values.specs.Registers.{deal_answer, collect_answer, filled}
use Rattle.values.specs.Holdings.{collect_holdings_answer}
use Rattle.values.proofs.Rows.{each_at, each_equal}
use Rattle.values.proofs.Theorems.{dealt_other, collected_other}
use Rattle.c_bits.specs.Bits.{made, register_from, register_at, rows_from, sort_after, single_after, double_after, entries_after, registers_held, dealt_bits, collected_bits, lanes_from, collected_from_numbers}
use Rattle.c_bits.proofs.Made.{written}

pub made_at : {A : Type 0} (n : ℕ) (f : ℕ → A) (k : ℕ) (other : A) → k < n → get_or (made n f) k other ≡ f k
unfolding made
made_at zero f k other h = absurd (not-suc-le-zero h)
made_at (suc n) f zero other h = refl
made_at (suc n) f (suc k) other h = made_at n (λ j. f (suc j)) k other (le_of_suc-le-suc h)

pub made_length : {A : Type 0} (n : ℕ) (f : ℕ → A) → length (made n f) ≡ n
unfolding made
made_length zero f = refl
made_length (suc n) f = ap suc (made_length n (λ k. f (suc k)))

made_past : {A : Type 0} (n : ℕ) (f : ℕ → A) (k : ℕ) (other : A) → n ≤ k → get_or (made n f) k other ≡ other
unfolding made
made_past zero f k other h = refl
made_past (suc n) f zero other h = absurd (not-suc-le-zero h)
made_past (suc n) f (suc k) other h = made_past n (λ j. f (suc j)) k other (le_of_suc-le-suc h)

module _ (rows : ℕ) (sorts singles doubles : List ℕ) where
  -- entry j of the arrays is entry j of the rows
  pub entry_at : (j : ℕ) → j < 8 * rows → entry Empty (rows_from rows sorts singles doubles) (j / 8) (j % 8) ≡ register_at sorts singles doubles j
  entry_at j h =
      let row : j / 8 < rows = omega arith in
      let same : 8 * (j / 8) + j % 8 ≡ j = omega arith in
      ap (λ (l : List Bits). get_or l (j % 8) Empty) (made_at rows (λ r. made 8 (λ k. register_at sorts singles doubles (8 * r + k))) (j / 8) [] row)
      ∙ made_at 8 (λ k. register_at sorts singles doubles (8 * (j / 8) + k)) (j % 8) Empty (omega arith)
      ∙ ap (register_at sorts singles doubles) same

  -- past the end stands an empty one, which writes nothing
  as_given : {A : Type 0} (other : A) (write : Bits → A → A) (l : List A) → ((x : A) → write Empty x ≡ x)
      → ((j : ℕ) → write (register_at sorts singles doubles j) (get_or l j other) ≡ get_or l j other) → entries_after write (rows_from rows sorts singles doubles) l ≡ l
  as_given {A} other write l nothing kept =
      sym (each_equal other (written write (rows_from rows sorts singles doubles)) l l refl (λ j h. sym (by_place j (dec_le (8 * rows) j))))
    where
      by_place : (j : ℕ) → Dec (8 * rows ≤ j) → written write (rows_from rows sorts singles doubles) j (get_or l j other) ≡ get_or l j other
      by_place j (no d) = ap (λ (r : Bits). write r (get_or l j other)) (entry_at j (omega arith)) ∙ kept j
      by_place j (yes p) =
          let row : rows ≤ j / 8 = omega arith in
          ap (λ (r : List Bits). write (get_or r (j % 8) Empty) (get_or l j other))
          (made_past rows (λ r. made 8 (λ k. register_at sorts singles doubles (8 * r + k))) (j / 8) [] row)
          ∙ nothing (get_or l j other)

  pub sort_kept : (s : ℕ) (x y : ℕ) → sort_after (register_from s x y) s ≡ s
  sort_kept s x y = split (eqb s 1) (eqb s 2) refl refl
    where
      split : (a b : Bool) → eqb s 1 ≡ a → eqb s 2 ≡ b → sort_after (cond a (Single x) (cond b (Double y) Empty)) s ≡ s
      split true b e f = sym (eqb-true s 1 e)
      split false true e f = sym (eqb-true s 2 f)
      split false false e f = refl

  pub single_kept : (a b : Bool) (x y : ℕ) → single_after (cond a (Single x) (cond b (Double y) Empty)) x ≡ x
  single_kept true b x y = refl
  single_kept false true x y = refl
  single_kept false false x y = refl

  pub double_kept : (a b : Bool) (x y : ℕ) → double_after (cond a (Single x) (cond b (Double y) Empty)) y ≡ y
  double_kept true b x y = refl
  double_kept false true x y = refl
  double_kept false false x y = refl

  -- what is refused leaves the caller's arrays as given
  pub record LeftAsGiven : Type 0 where
    pub of_sorts : entries_after sort_after (rows_from rows sorts singles doubles) sorts ≡ sorts
    pub of_singles : entries_after single_after (rows_from rows sorts singles doubles) singles ≡ singles
    pub of_doubles : entries_after double_after (rows_from rows sorts singles doubles) doubles ≡ doubles

  pub left_as_given : LeftAsGiven
  left_as_given = record {
    of_sorts = as_given 0 sort_after sorts (λ x. refl) (λ j. sort_kept (get_or sorts j 0) (get_or singles j 0) (get_or doubles j 0));
    of_singles = as_given 0 single_after singles (λ x. refl) (λ j. single_kept (eqb (get_or sorts j 0) 1) (eqb (get_or sorts j 0) 2) (get_or singles j 0) (get_or doubles j 0));
    of_doubles = as_given 0 double_after doubles (λ x. refl) (λ j. double_kept (eqb (get_or sorts j 0) 1) (eqb (get_or sorts j 0) 2) (get_or singles j 0) (get_or doubles j 0));
  }

  -- entry j of the three arrays after registers are written back
  pub record EntryStays (registers : List (List Bits)) (j : ℕ) : Type 0 where
    pub of_sort : length sorts ≡ 8 * rows → get_or (entries_after sort_after registers sorts) j 0 ≡ get_or sorts j 0
    pub of_single : length singles ≡ 8 * rows → get_or (entries_after single_after registers singles) j 0 ≡ get_or singles j 0
    pub of_double : length doubles ≡ 8 * rows → get_or (entries_after double_after registers doubles) j 0 ≡ get_or doubles j 0

  -- a register that stayed leaves its entry
  entry_stays : (registers : List (List Bits)) (j : ℕ) → j < 8 * rows
      → entry Empty registers (j / 8) (j % 8) ≡ entry Empty (rows_from rows sorts singles doubles) (j / 8) (j % 8) → EntryStays registers j
  entry_stays registers j h same = record {
    of_sort = λ e. stays 0 sort_after sorts e (sort_kept (get_or sorts j 0) (get_or singles j 0) (get_or doubles j 0));
    of_single = λ e. stays 0 single_after singles e (single_kept (eqb (get_or sorts j 0) 1) (eqb (get_or sorts j 0) 2) (get_or singles j 0) (get_or doubles j 0));
    of_double = λ e. stays 0 double_after doubles e (double_kept (eqb (get_or sorts j 0) 1) (eqb (get_or sorts j 0) 2) (get_or singles j 0) (get_or doubles j 0));
  }
    where
      stays : {A : Type 0} (other : A) (write : Bits → A → A) (l : List A) → length l ≡ 8 * rows
          → write (register_at sorts singles doubles j) (get_or l j other) ≡ get_or l j other → get_or (entries_after write registers l) j other ≡ get_or l j other
      stays other write l e kept =
          each_at (written write registers) l j other (rw e h) ∙ ap (λ (g : Bits). write g (get_or l j other)) (same ∙ entry_at j h) ∙ kept

-- what is filled or not stays where filling keeps it
filled_keeps : (m : Result ⊤ Refusal) (new given : List (List Bits)) (r k : ℕ) → entry Empty new r k ≡ entry Empty given r k
    → entry Empty (filled m new given) r k ≡ entry Empty given r k
filled_keeps (Ok _) new given r k e = e
filled_keeps (Err refusal) new given r k e = refl

module _ (kind c : ℕ) (sorts singles doubles : List ℕ) (j : ℕ) where
  -- dealing leaves every entry whose register is not the computation's
  pub dealing_leaves : (tile : List (List Bits)) → j < 256 → is_own kind c (j / 8) (j % 8) ≡ false
      → EntryStays 32 sorts singles doubles (dealt_bits kind c tile (rows_from 32 sorts singles doubles)) j
  dealing_leaves tile h o =
      let given : List (List Bits) = rows_from 32 sorts singles doubles in
      entry_stays 32 sorts singles doubles (dealt_bits kind c tile given) j h
      (filled_keeps (deal_answer kind c (registers_held tile)) (dealt Empty kind c tile given) given (j / 8) (j % 8) (dealt_other Empty kind c tile given (j / 8) (j % 8) o))

  -- collecting leaves every entry whose place is not one of the matrix, from registers as from holdings
  collected_leaves : (m : Result ⊤ Refusal) (lanes : List (List Bits)) → j < 64 → is_place kind (at c (j / 8) (j % 8)) ≡ false
      → let given = rows_from 8 sorts singles doubles in EntryStays 8 sorts singles doubles (filled m (collected Empty kind c lanes given) given) j
  collected_leaves m lanes h p =
      let given : List (List Bits) = rows_from 8 sorts singles doubles in
      entry_stays 8 sorts singles doubles (filled m (collected Empty kind c lanes given) given) j h
      (filled_keeps m (collected Empty kind c lanes given) given (j / 8) (j % 8) (collected_other Empty kind c lanes given (j / 8) (j % 8) p))

  pub collecting_leaves : (lanes : List (List Bits)) → j < 64 → is_place kind (at c (j / 8) (j % 8)) ≡ false
      → EntryStays 8 sorts singles doubles (collected_bits kind c lanes (rows_from 8 sorts singles doubles)) j
  collecting_leaves lanes = collected_leaves (collect_answer kind c (registers_held lanes)) lanes

  pub collecting_from_holdings_leaves : (numbers : List ℕ) → j < 64 → is_place kind (at c (j / 8) (j % 8)) ≡ false
      → EntryStays 8 sorts singles doubles (collected_from_numbers kind c numbers (rows_from 8 sorts singles doubles)) j
  collecting_from_holdings_leaves numbers = collected_leaves (collect_holdings_answer kind c) (lanes_from kind numbers)
