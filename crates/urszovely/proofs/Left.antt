-- What dealing and collecting leave in arrays of registers: as given where refused, and where done what the stored registers leave, which
-- were dealt or collected into empty ones.
use Rattle.std.specs.Prelude.{Err, Result, ⊤}
use Prim.Native.Nat.{ℕ, ◌*◌}
use mathlib.Core.Path.{◌≡◌, sym, ap, ◌∙◌}
use mathlib.Core.List.{List}
use lib.ListN.{length}
use Rattle.answers.specs.declared.Refusal.{Refusal}
use Rattle.c_bits.specs.declared.Bits.{Bits}
use Rattle.values.specs.Registers.{filled}
use Rattle.c_bits.specs.Bits.{rows_from, sort_after, single_after, double_after, entries_after}
use Rattle.c_bits.proofs.Given.{left_as_given}
use Rattle.c_bits.proofs.Empties.{WrittenAlike}
use Rattle.urszovely.specs.Answers.{RegistersWritten}

module _ (rows : ℕ) (sorts singles doubles : List ℕ) where
  pub untouched : (m : Result ⊤ Refusal) (new : List (List Bits)) (refusal : Refusal) → m ≡ Err refusal
      → RegistersWritten (filled m new (rows_from rows sorts singles doubles)) sorts singles doubles sorts singles doubles
  untouched m new refusal e =
      let same = left_as_given rows sorts singles doubles in
      rw e (record { of_sorts = sym same.of_sorts; of_singles = sym same.of_singles; of_doubles = sym same.of_doubles })

  pub stored : length sorts ≡ 8 * rows → length singles ≡ 8 * rows → length doubles ≡ 8 * rows → (put bare whole : List (List Bits)) → put ≡ bare → WrittenAlike rows sorts singles doubles bare whole
      → (sorts' singles' doubles' : List ℕ)
      → (sorts' ≡ entries_after sort_after put sorts) × ((singles' ≡ entries_after single_after put singles) × (doubles' ≡ entries_after double_after put doubles))
      → RegistersWritten whole sorts singles doubles sorts' singles' doubles'
  stored s x y put bare whole e alike sorts' singles' doubles' now = record {
    of_sorts = now.0 ∙ ap (λ (r : List (List Bits)). entries_after sort_after r sorts) e ∙ alike.of_sorts s;
    of_singles = now.1.0 ∙ ap (λ (r : List (List Bits)). entries_after single_after r singles) e ∙ alike.of_singles x;
    of_doubles = now.1.1 ∙ ap (λ (r : List (List Bits)). entries_after double_after r doubles) e ∙ alike.of_doubles y;
  }
