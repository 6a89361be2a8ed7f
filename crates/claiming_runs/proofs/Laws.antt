-- Who claims which cell of a card's table: a row of cells of an element that leads is that of its claims, and a cleared table has those of no element.
use Rattle.std.specs.Prelude.{Ok}
use mathlib.Core.Path.{◌≡◌, sym, ap, ◌∙◌}
use mathlib.Core.List.{List}
use Prim.Native.Nat.{ℕ, ◌+◌, ◌<◌}
use native.Mathlib.Omega.{arith}
use lib.IntN.{ℤ}
use lib.ListN.{length, replicate, length-replicate}
use Rattle.answers.specs.Refusals.{no_refusal}
use Rattle.card.specs.Card.{elements, copies, cells}
use Rattle.card.specs.Packed.{card_of, Admits, ListOf}
use Rattle.card.specs.Admission.{admission}
use Rattle.card.specs.declared.Card.{Card}
use Rattle.card.proofs.Admitted.{checked, sized}
use Rattle.card.proofs.Listed.{shard_list}
use Rattle.rules.specs.Rules.{spot}
use Rattle.rules.specs.Copies.{copy_cells}
use Rattle.rules.specs.Reuse.{leader}
use Rattle.rules.proofs.Filling.{cells_length, cells_at}
use Rattle.claims.specs.Claims.{OwnedTable}
use Rattle.claims.specs.Rows.{RowOf, RowWithin}
use Rattle.claims.proofs.Steps.{row_within, owners_none}
use Rattle.claims.proofs.Rows.{occupied_none}
use Rattle.owners.specs.Owners.{entry_limit}
use Rattle.judgement.specs.Judgement.{placed}
use Rattle.judgement.proofs.Run.{few_copies, all_within}
use Rattle.judgement.proofs.Theorems.{own_copies}
use Rattle.claiming_runs.specs.Clauses.{Claimable}

-- the shard's iters of an admitted card can be read
pub readable : (numbers : List ℕ) (strides : List ℤ) → Admits numbers strides → ListOf numbers 0
readable numbers strides a = shard_list numbers strides (checked (card_of numbers strides) a.admitted).counts

-- the cells of the copies of an element that leads are its row
pub copies_row : (card : Card) (flat : ℕ) → leader card flat ≡ flat → RowOf (placed card) flat (copy_cells card flat)
unfolding copy_cells
copies_row card flat leads = record {
  size = cells_length (spot card flat) (copies card) ∙ sym (own_copies card flat leads);
  cells = λ r h. cells_at (spot card flat) (copies card) r (omega (arith, few_copies card flat));
}

-- a placed row can be claimed: it lies in the cells, has a copy, and its entry is a number of the table
pub record RowReady (flat : ℕ) (row table : List ℕ) : Type 0 where
  pub within : RowWithin row table
  pub some : 0 < length row
  pub small : flat + 1 < entry_limit

pub row_ready : (card : Card) (flat : ℕ) (table : List ℕ) → admission card ≡ no_refusal → Claimable card flat table → {row : List ℕ} → row ≡ copy_cells card flat
    → RowReady flat row table
row_ready card flat table admitted claimable {row} e =
    let n = sized card admitted in
    let is = copies_row card flat claimable.leads in
    let inside = all_within card claimable.inside in
    record {
      within =
          rw e
          (row_within (placed card) (elements card) table (rw claimable.size inside) flat (copy_cells card flat) claimable.element is);
      some = rw e (omega (arith, is.size, own_copies card flat claimable.leads));
      small = omega (arith, claimable.element);
    }

-- the claims so far: a cleared table has those of no element
pub claims_none : (card : Card) → OwnedTable (placed card) 0 (cells card) (replicate (cells card) 0) 0
claims_none card = record {
  size = length-replicate (cells card) 0;
  owners = owners_none (placed card) (cells card);
  counted = sym (occupied_none (cells card));
}

-- it has exactly the cells
pub cleared_size : (card : Card) {table : List ℕ} → table ≡ replicate (cells card) 0 → length table ≡ cells card
cleared_size card e = ap length e ∙ length-replicate (cells card) 0

-- the owners of so many elements, counted otherwise
pub owned_as : (card : Card) {n k count sum : ℕ} {table : List ℕ} → n ≡ k → count ≡ sum → OwnedTable (placed card) n (cells card) table count
    → OwnedTable (placed card) k (cells card) table sum
owned_as card e d o = rw (sym e, sym d) o
