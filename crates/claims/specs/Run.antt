-- The verdict's claims run over any layout, so that loads compute. Nothing here has to be believed: proofs/Run.antt shows that the
-- run comes to the one outcome that Claims.antt allows.
use Rattle.std.specs.Prelude.{List, [], ◌∷◌, ℕ, zero, suc, ◌+◌, ◌-◌, replicate}
use Rattle.claims.specs.Claims.{CopiesAt, occupied}
use Rattle.claims.specs.Outcome.{Outcome, Owned, Clash}
use Rattle.claims.specs.Rows.{entry_met, cell_met, row_written}

-- where so many copies go, from copy r on
abbrev pub row_from : (ℕ → ℕ) → ℕ → ℕ → List ℕ
row_from at zero r = []
row_from at (suc left) r = at r ∷ row_from at left (r + 1)

-- claim so many elements, from y on, in the table of the smaller ones
abbrev pub claim_from : CopiesAt → ℕ → ℕ → List ℕ → Outcome
claim_from p zero y table = Owned table (occupied table)
claim_from p (suc left) y table =
    let row = row_from (p.at y) (p.copies y) 0 in
    elim (entry_met table row) [
      | zero ↦ claim_from p left (y + 1) (row_written (y + 1) row table)
      | suc x ↦ Clash (entry_met table row - 1) y (cell_met table (entry_met table row) row - 1)
    ]

abbrev pub run : CopiesAt → ℕ → ℕ → Outcome
run p n cells = claim_from p n 0 (replicate cells 0)
