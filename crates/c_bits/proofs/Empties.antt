-- Registers that are dealt or collected into empty ones and written back leave the arrays as promised: the computation's own are the same,
-- and every other is empty and writes nothing where it would have written what was read.
use Rattle.std.specs.Prelude.{Ok, Result, ⊤}
use mathlib.Core.Path.{◌≡◌, refl, sym, ap, ◌∙◌}
use mathlib.Core.Bool.{Bool, true, false}
use mathlib.Core.List.{List, []}
use Prim.Native.Nat.{ℕ, ◌+◌, ◌*◌, ◌/◌, ◌%◌, ◌<◌}
use native.Mathlib.Omega.{arith}
use lib.Dec.{eqb}
use lib.ListN.{length, get_or, replicate, length-replicate, get_or-replicate}
use Rattle.answers.specs.Refusals.{no_refusal}
use Rattle.answers.specs.declared.Refusal.{Refusal}
use Rattle.fragment.specs.Kinds.{at}
use Rattle.fragment.specs.Fragment.{is_place}
use Rattle.c_bits.specs.declared.Bits.{Bits}
use Rattle.c_bits.specs.declared.Bits.TheVariants.{Empty}
use Rattle.values.specs.Rows.{entry}
use Rattle.values.specs.Values.{is_own, dealt, collected}
use Rattle.values.specs.Registers.{deal_answer, filled}
use Rattle.values.proofs.Rows.{Shape, each_length, each_at, each_equal}
use Rattle.values.proofs.Theorems.{dealt_own, dealt_other, collected_place, collected_other}
use Rattle.c_bits.specs.Bits.{made, register_at, rows_from, empties, sort_after, single_after, double_after, entries_after, registers_held, dealt_bits}
use Rattle.c_bits.proofs.Made.{written}
use Rattle.c_bits.proofs.Given.{made_at, made_length, entry_at, sort_kept, single_kept, double_kept}

pub empties_at : (rows r k : ℕ) → r < rows → k < 8 → entry Empty (empties rows) r k ≡ Empty
empties_at rows r k h i =
    ap (λ (l : List Bits). get_or l k Empty) (get_or-replicate rows r (replicate 8 Empty) [] h) ∙ get_or-replicate 8 k Empty Empty i

pub empties_shape : (rows : ℕ) → Shape rows 8 (empties rows)
empties_shape rows = record {
  of_rows = length-replicate rows (replicate 8 Empty);
  of_columns = λ r h. ap length (get_or-replicate rows r (replicate 8 Empty) [] h) ∙ length-replicate 8 Empty;
}

module _ (rows : ℕ) (sorts singles doubles : List ℕ) where
  pub given_shape : Shape rows 8 (rows_from rows sorts singles doubles)
  given_shape =
      let row : ℕ → List Bits = λ r. made 8 (λ k. register_at sorts singles doubles (8 * r + k)) in
      record {
        of_rows = made_length rows row;
        of_columns = λ r h. ap length (made_at rows row r [] h) ∙ made_length 8 (λ k. register_at sorts singles doubles (8 * r + k));
      }

  -- two sets of registers that leave the arrays alike
  pub record WrittenAlike (bare whole : List (List Bits)) : Type 0 where
    pub of_sorts : length sorts ≡ 8 * rows → entries_after sort_after bare sorts ≡ entries_after sort_after whole sorts
    pub of_singles : length singles ≡ 8 * rows → entries_after single_after bare singles ≡ entries_after single_after whole singles
    pub of_doubles : length doubles ≡ 8 * rows → entries_after double_after bare doubles ≡ entries_after double_after whole doubles

  -- the own ones are the same; of the others the first are empty and the second as read
  record OnlyOwn (own : ℕ → Bool) (bare whole : List (List Bits)) : Type 0 where
    of_own : (j : ℕ) → j < 8 * rows → own j ≡ true → entry Empty bare (j / 8) (j % 8) ≡ entry Empty whole (j / 8) (j % 8)
    of_bare : (j : ℕ) → j < 8 * rows → own j ≡ false → entry Empty bare (j / 8) (j % 8) ≡ Empty
    of_whole : (j : ℕ) → j < 8 * rows → own j ≡ false
        → entry Empty whole (j / 8) (j % 8) ≡ entry Empty (rows_from rows sorts singles doubles) (j / 8) (j % 8)

  written_alike : (own : ℕ → Bool) (bare whole : List (List Bits)) → OnlyOwn own bare whole → WrittenAlike bare whole
  written_alike own bare whole o = record {
    of_sorts = λ e. alike 0 sort_after sorts e (λ x. refl) (λ j. sort_kept rows sorts singles doubles (get_or sorts j 0) (get_or singles j 0) (get_or doubles j 0));
    of_singles = λ e.
        alike 0 single_after singles e (λ x. refl)
        (λ j. single_kept rows sorts singles doubles (eqb (get_or sorts j 0) 1) (eqb (get_or sorts j 0) 2) (get_or singles j 0) (get_or doubles j 0));
    of_doubles = λ e.
        alike 0 double_after doubles e (λ x. refl)
        (λ j. double_kept rows sorts singles doubles (eqb (get_or sorts j 0) 1) (eqb (get_or sorts j 0) 2) (get_or singles j 0) (get_or doubles j 0));
  }
    where
      alike : {A : Type 0} (other : A) (write : Bits → A → A) (l : List A) → length l ≡ 8 * rows → ((x : A) → write Empty x ≡ x)
          → ((j : ℕ) → write (register_at sorts singles doubles j) (get_or l j other) ≡ get_or l j other) → entries_after write bare l ≡ entries_after write whole l
      alike {A} other write l e nothing kept =
          each_equal other (written write whole) l (entries_after write bare l) (each_length (written write bare) l)
          (λ j h. each_at (written write bare) l j other h ∙ entry_alike j (rw (sym e) h) (own j) refl)
        where
          write_in : ℕ → Bits → A
          write_in j r = write r (get_or l j other)

          entry_alike : (j : ℕ) → j < 8 * rows → (b : Bool) → own j ≡ b → written write bare j (get_or l j other) ≡ written write whole j (get_or l j other)
          entry_alike j h true p = ap (write_in j) (o.of_own j h p)
          entry_alike j h false p =
              ap (write_in j) (o.of_bare j h p)
              ∙ nothing (get_or l j other)
              ∙ sym (ap (write_in j) (o.of_whole j h p ∙ entry_at rows sorts singles doubles j h) ∙ kept j)

module _ (kind c : ℕ) (sorts singles doubles : List ℕ) where
  -- what is dealt to empty lanes is written as what is dealt to the given ones
  pub dealt_to_empties : (tile : List (List Bits)) → deal_answer kind c (registers_held tile) ≡ no_refusal
      → WrittenAlike 32 sorts singles doubles (dealt Empty kind c tile (empties 32)) (dealt_bits kind c tile (rows_from 32 sorts singles doubles))
  dealt_to_empties tile d =
      let given : List (List Bits) = rows_from 32 sorts singles doubles in
      rw d
      (written_alike 32 sorts singles doubles (λ j. is_own kind c (j / 8) (j % 8)) (dealt Empty kind c tile (empties 32)) (dealt Empty kind c tile given)
      (record {
        of_own = λ j h o.
            dealt_own Empty kind c tile (empties 32) (j / 8) (j % 8) (empties_shape 32) o
            ∙ sym (dealt_own Empty kind c tile given (j / 8) (j % 8) (given_shape 32 sorts singles doubles) o);
        of_bare = λ j h o. dealt_other Empty kind c tile (empties 32) (j / 8) (j % 8) o ∙ empties_at 32 (j / 8) (j % 8) (omega arith) (omega arith);
        of_whole = λ j h o. dealt_other Empty kind c tile given (j / 8) (j % 8) o;
      }))

  -- and what is collected into an empty tile as what is collected into the given one
  pub collected_into_empties : (m : Result ⊤ Refusal) (lanes : List (List Bits)) → m ≡ no_refusal
      → let given = rows_from 8 sorts singles doubles in
      WrittenAlike 8 sorts singles doubles (collected Empty kind c lanes (empties 8)) (filled m (collected Empty kind c lanes given) given)
  collected_into_empties m lanes d =
      let given : List (List Bits) = rows_from 8 sorts singles doubles in
      rw d
      (written_alike 8 sorts singles doubles (λ j. is_place kind (at c (j / 8) (j % 8))) (collected Empty kind c lanes (empties 8)) (collected Empty kind c lanes given)
      (record {
        of_own = λ j h o.
            collected_place Empty kind c lanes (empties 8) (j / 8) (j % 8) (empties_shape 8) o
            ∙ sym (collected_place Empty kind c lanes given (j / 8) (j % 8) (given_shape 8 sorts singles doubles) o);
        of_bare = λ j h o. collected_other Empty kind c lanes (empties 8) (j / 8) (j % 8) o ∙ empties_at 8 (j / 8) (j % 8) (omega arith) (omega arith);
        of_whole = λ j h o. collected_other Empty kind c lanes given (j / 8) (j % 8) o;
      }))
