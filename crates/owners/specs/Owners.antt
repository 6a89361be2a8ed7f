-- The refusal of an element whose row meets an owner: document 01's 8.
use Rattle.std.specs.Prelude.{List, ℕ, ◌-◌}
use Rattle.claims.specs.Rows.{entry_met, cell_met}
use Rattle.answers.specs.declared.Flat.{Flat}
use Rattle.answers.specs.declared.Refusal.{Refusal}
use Rattle.answers.specs.declared.Refusal.TheVariants.{Shared}

-- an entry of the table is below this
abbrev pub entry_limit : ℕ
entry_limit = 4294967296

-- x the smallest owner that the row of y meets, and the cell the smallest it shares with x
abbrev pub clash_of : List ℕ → List ℕ → Flat → Refusal
clash_of table row y =
    Shared (record { 0 = entry_met table row - 1 }) y (record { 0 = cell_met table (entry_met table row) row - 1 })
