-- One element claimed after the smaller ones: a row where no cell has an owner adds its claims, and a row of one cell is written by one store.
use mathlib.Core.Path.{◌≡◌, refl, ap, ◌∙◌}
use mathlib.Core.List.{List, [], ◌∷◌}
use Prim.Native.Nat.{ℕ, zero, suc, ◌+◌, ◌≤◌, ◌<◌}
use native.Mathlib.Omega.{arith}
use lib.ListN.{length, get_or, set, replicate, get_or-replicate}
use Rattle.card.specs.Card.{copies, cells}
use Rattle.card.specs.declared.Card.{Card}
use Rattle.rules.specs.Rules.{spot}
use Rattle.rules.specs.Copies.{cell_of, cells_of, copy_cells}
use Rattle.rules.specs.Reuse.{leader}
use Rattle.claims.specs.Claims.{OwnedTable, taken}
use Rattle.claims.specs.Rows.{RowClaim, RowWithin, min_some, entry_met}
use Rattle.claims.proofs.Steps.{claim_none, claim_all, claimed_owners}
use Rattle.claims.proofs.Rows.{occupied_most, occupied_set, taken_owned}
use Rattle.judgement.specs.Judgement.{placed}
use Rattle.claiming_runs.proofs.Laws.{copies_row}

-- element y's row is claimed after those of the smaller ones
module _ (card : Card) (y newly count : ℕ) {before after : List ℕ} (so_far : OwnedTable (placed card) y (cells card) before count)
    (leads : leader card y ≡ y) (claim : RowClaim (copy_cells card y) y newly before after) where
  -- newly occupied cells are cells
  pub claims_count : length after ≡ cells card → count + newly ≤ cells card
  claims_count size = omega (arith, so_far.counted, claim.counted, occupied_most after)

  pub claims_more : RowWithin (copy_cells card y) before → length after ≡ cells card → 0 < newly
      → OwnedTable (placed card) (y + 1) (cells card) after (count + newly)
  claims_more within size some = record {
    size = size;
    owners = claimed_owners (placed card) y before so_far.owners (copy_cells card y) (copies_row card y leads) newly after claim within some;
    counted = omega (arith, so_far.counted, claim.counted);
  }

  -- it meets an owner: the table is as it was
  pub claims_met : newly ≡ 0 → (0 < entry_met after (copy_cells card y)) × (after ≡ before)
  claims_met e = let m = claim.met e in (rw m.1 m.0, m.1)

-- a row of one cell: where the cell has an owner nothing is claimed, else the entry is written
met_one : (table : List ℕ) (c : ℕ) → entry_met table (c ∷ []) ≡ get_or table c 0
met_one table c = by (get_or table c 0)
  where
    by : (n : ℕ) → min_some 0 n ≡ n
    by zero = refl
    by (suc n) = refl

pub single_met : (row table : List ℕ) (f c : ℕ) → row ≡ c ∷ [] → (get_or table c 0 ≡ 0 → ⊥) → RowClaim row f 0 table table
single_met row table f c e taken = rw e (claim_none (c ∷ []) f table (omega (arith, met_one table c, taken)))

pub single_claimed : (row table : List ℕ) (f c : ℕ) → row ≡ c ∷ [] → c < length table → get_or table c 0 ≡ 0 → RowClaim row f 1 table (set table c (f + 1))
single_claimed row table f c e h none =
    rw e
    (claim_all (c ∷ []) f 1 table (set table c (f + 1)) within (omega arith) (met_one table c ∙ none) refl
    (omega (arith, occupied_set table c (f + 1) h, ap taken none, taken_owned (f + 1) (omega arith))))
  where
    within : RowWithin (c ∷ []) table
    within zero below = h
    within (suc r) below = absurd (omega arith)

-- the cells of an element that has one copy
pub single_row : (card : Card) (flat : ℕ) → copies card ≡ 1 → copy_cells card flat ≡ cell_of (spot card flat 0) ∷ []
unfolding copy_cells
single_row card flat e = ap (cells_of (spot card flat)) e

-- in cleared cells it meets nobody
pub single_free : (card : Card) (flat : ℕ) {table : List ℕ} → copies card ≡ 1 → table ≡ replicate (cells card) 0 → cell_of (spot card flat 0) < cells card
    → entry_met table (copy_cells card flat) ≡ 0
single_free card flat {table} e cleared h =
    let c = cell_of (spot card flat 0) in
    ap (entry_met table) (single_row card flat e) ∙ met_one table c ∙ ap (λ (l : List ℕ). get_or l c 0) cleared ∙ get_or-replicate (cells card) c 0 0 h
