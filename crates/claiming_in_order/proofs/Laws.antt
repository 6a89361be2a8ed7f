-- The pass over a card's elements: what placing one element's row leaves in it, which elements claim nothing, and which clashes first.
use mathlib.Core.Path.{◌≡◌, ap, ◌∙◌, subst}
use mathlib.Core.Bool.{true}
use mathlib.Core.List.{List}
use Prim.Native.Nat.{ℕ, ◌+◌, ◌-◌, ◌<◌}
use native.Mathlib.Omega.{arith}
use borrow.Author.Tests.{ne_eqb}
use lib.IntN.{ℤ}
use lib.ListN.{length}
use Rattle.card.specs.Card.{elements, copies, cells}
use Rattle.card.specs.Lists.{all, within, product}
use Rattle.card.specs.Limits.{most_extent}
use Rattle.card.specs.Packed.{card_of, Admits, ListOf}
use Rattle.card.specs.declared.Card.{Card}
use Rattle.card.proofs.Admitted.{checked, fitting, numbered}
use Rattle.reuse.specs.Clauses.{Element}
use Rattle.reuse.proofs.Walk.{extents_there_lem}
use Rattle.rules.specs.Rules.{spot}
use Rattle.rules.specs.Walked.{PlacedRow}
use Rattle.rules.specs.Copies.{cells_of, copy_cells}
use Rattle.rules.specs.Reuse.{leader}
use Rattle.idle.proofs.Theorems.{checks_passed}
use Rattle.claims.specs.Claims.{OwnedTable, FirstClash}
use Rattle.claims.specs.Rows.{entry_met, cell_met}
use Rattle.claims.proofs.Steps.{owners_follow, clash_first}
use Rattle.judgement.specs.Judgement.{placed}
use Rattle.claiming_runs.proofs.Laws.{readable, copies_row}
use Rattle.claiming_in_order.specs.Clauses.{Pass}

-- a pass is over an admitted card
pub admits : {numbers : List ℕ} {strides : List ℤ} {count : ℕ} {row : List ℕ} → Pass numbers strides count row → Admits numbers strides
admits {numbers} {strides} p = record { whole = p.whole; admitted = checks_passed (card_of numbers strides) p.admitted }

-- its shard's iters can be read, and each of its elements looked at
pub listed : {numbers : List ℕ} {strides : List ℤ} {count : ℕ} {row : List ℕ} → Pass numbers strides count row → ListOf numbers 0
listed {numbers} {strides} p = readable numbers strides (admits p)

pub element_of_lem : {numbers : List ℕ} {strides : List ℤ} {count : ℕ} {row : List ℕ} (p : Pass numbers strides count row) (flat : ℕ) → flat < count → Element numbers flat
element_of_lem {numbers} {strides} p flat h =
    let card = card_of numbers strides in
    let numbers_fit = numbered card (checked card (admits p).admitted).numbers in
    let same = extents_there_lem numbers strides p.whole.all_numbers (listed p) in
    record {
      all_numbers = p.whole.all_numbers;
      of = listed p;
      some_extents = subst (λ (l : List ℕ). all (within 1 most_extent) l ≡ true) same (fitting card.shard numbers_fit.shard).extents;
      element = omega (arith, p.all_elements, ap product same);
    }

-- element flat's row is placed
module _ (card : Card) (flat : ℕ) {row after : List ℕ} {outside : ℕ} (is : PlacedRow (spot card flat) row after outside) (one_each : length row ≡ copies card)
  where
    pub row_cells : after ≡ copy_cells card flat
    unfolding copy_cells
    row_cells = is.cells ∙ ap (cells_of (spot card flat)) one_each

-- an element that follows claims nothing
pub claims_follow : (card : Card) (y count : ℕ) {table : List ℕ} → (leader card y ≡ y → ⊥) → OwnedTable (placed card) y (cells card) table count
    → OwnedTable (placed card) (y + 1) (cells card) table count
claims_follow card y count {table} follows so_far = record {
  size = so_far.size;
  owners = owners_follow (placed card) y table (rw (ne_eqb (leader card y) y follows)) so_far.owners;
  counted = so_far.counted;
}

-- an element that meets an owner is the first that clashes
pub claims_clash : (card : Card) (y count : ℕ) {table : List ℕ} → OwnedTable (placed card) y (cells card) table count → leader card y ≡ y → y < elements card
    → 0 < entry_met table (copy_cells card y)
    → FirstClash (placed card) (elements card) (entry_met table (copy_cells card y) - 1) y (cell_met table (entry_met table (copy_cells card y)) (copy_cells card y) - 1)
claims_clash card y count {table} so_far leads h met =
    clash_first (placed card) y table so_far.owners (copy_cells card y) (copies_row card y leads) (elements card) h met
