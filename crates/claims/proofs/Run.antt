-- The run comes to an outcome that Claims.antt allows: the steps' laws, by induction on the elements that are left.
use mathlib.Core.Path.{◌≡◌, refl, ap, ◌∙◌, subst}
use mathlib.Core.List.{List}
use Prim.Native.Nat.{ℕ, zero, suc, ◌+◌, ◌<◌}
use native.Mathlib.Nat.{zero-add}
use native.Mathlib.Omega.{arith}
use lib.ListN.{length, get_or, replicate, length-replicate}
use Rattle.claims.specs.Claims.{CopiesAt, Owners}
use Rattle.claims.specs.Outcome.{Inside, ClaimsComeTo}
use Rattle.claims.specs.Rows.{RowOf, entry_met, row_written}
use Rattle.claims.specs.Run.{row_from, claim_from, run}
use Rattle.claims.proofs.Rows.{written_length}
use Rattle.claims.proofs.Steps.{row_within, owners_none, owners_more, clash_first}

module _ (at : ℕ → ℕ) where
  row_length : (k r : ℕ) → length (row_from at k r) ≡ k
  row_length zero r = refl
  row_length (suc k) r = ap suc (row_length k (r + 1))

  row_at : (k r i : ℕ) → i < k → get_or (row_from at k r) i 0 ≡ at (r + i)
  row_at zero r i h = absurd (omega arith)
  row_at (suc k) r zero h = ap at (omega arith)
  row_at (suc k) r (suc i) h = row_at k (r + 1) i (omega arith) ∙ ap at (omega arith)

row_is : (p : CopiesAt) (f : ℕ) → RowOf p f (row_from (p.at f) (p.copies f) 0)
row_is p f =
    record {
      size = row_length (p.at f) (p.copies f) 0;
      cells = λ r h. row_at (p.at f) (p.copies f) 0 r h ∙ ap (p.at f) (zero-add r);
    }

module _ (p : CopiesAt) (n cells : ℕ) (inside : Inside p n cells) where
  -- claiming element y and then what is left comes to an outcome where what is left does, and where y's row meets somebody
  step : (left y : ℕ) (table : List ℕ) → y < n → length table ≡ cells → Owners p y table
      → ((after : List ℕ) → length after ≡ cells → Owners p (y + 1) after → ClaimsComeTo p n cells (claim_from p left (y + 1) after))
      → (entry : ℕ) → entry_met table (row_from (p.at y) (p.copies y) 0) ≡ entry → ClaimsComeTo p n cells (claim_from p (suc left) y table)
  step left y table h l o next zero q =
      let row = row_from (p.at y) (p.copies y) 0 in
      let w = row_within p n table (rw l inside) y row h (row_is p y) in
      rw (q, claim_from) (next (row_written (y + 1) row table) (written_length (y + 1) row table ∙ l) (owners_more p y table o row (row_is p y) w q))
  step left y table h l o next (suc x) q =
      let row = row_from (p.at y) (p.copies y) 0 in
      rw (q, claim_from) (clash_first p y table o row (row_is p y) n h (omega arith))

  claim_comes : (left y : ℕ) (table : List ℕ) → y + left ≡ n → length table ≡ cells → Owners p y table → ClaimsComeTo p n cells (claim_from p left y table)
  claim_comes zero y table e l o = record { size = l; owners = subst (λ (m : ℕ). Owners p m table) (omega arith) o; counted = refl }
  claim_comes (suc left) y table e l o =
      step left y table (omega arith) l o (λ after. claim_comes left (y + 1) after (omega arith)) _ refl

  -- the run comes to the outcome
  pub run_comes : ClaimsComeTo p n cells (run p n cells)
  run_comes = claim_comes n 0 (replicate cells 0) (zero-add n) (length-replicate cells 0) (owners_none p cells)
