-- Claiming the elements in order: with y in the place of n the owners' line is the loop's invariant, and each step of the loop is one
-- law here.
use mathlib.Core.Path.{◌≡◌, refl, sym, ◌∙◌, subst}
use mathlib.Core.Logic.{◌⊎◌, ⊎_elim}
use mathlib.Core.List.{List}
use Prim.Native.Nat.{ℕ, zero, suc, ◌+◌, ◌-◌, ◌≤◌, ◌<◌}
use native.Mathlib.Nat.{eq-or-lt_of_le}
use native.Mathlib.Omega.{arith}
use lib.ListN.{length, get_or, replicate}
use Rattle.laws.proofs.Order.{le_or_lt}
use Rattle.claims.specs.Claims.{CopiesAt, Claims, Owners, occupied, FirstClash}
use Rattle.claims.specs.Outcome.{Inside}
use Rattle.claims.specs.Rows.{RowOf, RowWithin, entry_met, cell_met, row_written, RowClaim}
use Rattle.claims.proofs.Rows.{Among, among_claims, claims_among, met_nobody, met_somebody, met_smallest, cell_met_lem, written_at, occupied_claimed}

nobody : (n c : ℕ) → ◌≡◌ {A = ℕ} (get_or (replicate n 0) c 0) 0
nobody zero c = refl
nobody (suc n) zero = refl
nobody (suc n) (suc c) = nobody n c

-- a cleared table has the owners of no element
pub owners_none : (p : CopiesAt) (cells : ℕ) → Owners p 0 (replicate cells 0)
owners_none p cells = λ f c. (λ e. absurd (omega (arith, nobody cells c)), λ h. absurd (omega (arith, h.0)))

-- where every copy lies in the cells, each element's row lies in the table of the cells
pub row_within : (p : CopiesAt) (n : ℕ) (table : List ℕ) → Inside p n (length table) → (y : ℕ) (row : List ℕ) → y < n → RowOf p y row → RowWithin row table
row_within p n table inside y row h is = λ r k.
    let below : r < p.copies y = omega (arith, is.size) in omega (arith, is.cells r below, inside y r h below)

-- a row that meets somebody is not claimed, and one that meets nobody is
pub claim_none : (row : List ℕ) (f : ℕ) (table : List ℕ) → 0 < entry_met table row → RowClaim row f 0 table table
claim_none row f table h = record { met = λ e. (h, refl); claimed = λ k. absurd (omega arith); counted = omega arith }

pub claim_all : (row : List ℕ) (f newly : ℕ) (before after : List ℕ) → RowWithin row before → 0 < length row → entry_met before row ≡ 0
    → after ≡ row_written (f + 1) row before → newly + occupied before ≡ occupied after → RowClaim row f newly before after
claim_all row f newly before after w h free e counted =
    let more = rw (sym e) at (occupied_claimed (f + 1) row before (omega arith) w h free) in
    record { met = λ none. absurd (omega arith); claimed = λ k. (free, e); counted = counted }

module _ (p : CopiesAt) (y : ℕ) (table : List ℕ) (owners : Owners p y table) (row : List ℕ) (is : RowOf p y row) where
  -- element y's row meets nobody: with the row written the table has the owners of one element more
  pub owners_more : RowWithin row table → entry_met table row ≡ 0 → Owners p (y + 1) (row_written (y + 1) row table)
  owners_more w free f c =
      let last : f < y + 1 → (f ≡ y) ⊎ (f < y) = λ h. eq-or-lt_of_le (omega arith) in
      ⊎_elim
      (λ (mine : Among row c × (get_or (row_written (y + 1) row table) c 0 ≡ y + 1)). (
        λ e.
            let same : y ≡ f = omega arith in
            (omega arith, subst (λ (n : ℕ). Claims p n c) same (among_claims p y row is c mine.0)),
        λ h.
            ⊎_elim (λ (same : f ≡ y). omega arith)
            (λ (less : f < y). absurd (omega (arith, (owners f c).1 (less, h.1), met_nobody table row free c mine.0)))
            (last h.0),
      ))
      (λ (other : (Among row c → ⊥) × (get_or (row_written (y + 1) row table) c 0 ≡ get_or table c 0)). (
        λ e.
            let before = (owners f c).0 (sym other.1 ∙ e) in
            (omega arith, before.1),
        λ h.
            ⊎_elim (λ (same : f ≡ y). absurd (other.0 (claims_among p y row is c (subst (λ (n : ℕ). Claims p n c) same h.1))))
            (λ (less : f < y). other.1 ∙ (owners f c).1 (less, h.1))
            (last h.0),
      ))
      (written_at (y + 1) row table w c)

  -- element y's row meets somebody: this is the first clash
  pub clash_first : (n : ℕ) → y < n → 0 < entry_met table row → FirstClash p n (entry_met table row - 1) y (cell_met table (entry_met table row) row - 1)
  clash_first n h met =
      let entry : ℕ = entry_met table row in
      let x : ℕ = entry - 1 in
      let some = met_somebody table row met in
      let cell = cell_met_lem table entry row some.0 some.1 some.2 in
      let owner = (owners x (cell_met table entry row - 1)).0 (omega (arith, cell.has)) in
      record {
        element = h;
        ordered = owner.0;
        shared = record { one = owner.1; other = among_claims p y row is _ cell.among };
        smallest_y = λ a b c less below s.
            ⊎_elim (λ (k : y ≤ b). omega arith)
            (λ (k : b < y). absurd (omega (arith, (owners a c).1 (omega arith, s.one), (owners b c).1 (k, s.other))))
            (le_or_lt y b);
        smallest_x = λ a c s.
            ⊎_elim (λ (k : y ≤ a). omega (arith, owner.0))
            (λ (k : a < y).
            let entry-a = (owners a c).1 (k, s.one) in
            omega (arith, met_smallest table row c (claims_among p y row is c s.other) (omega arith)))
            (le_or_lt y a);
        smallest_cell = λ c s.
            cell.smallest c (claims_among p y row is c s.other) (omega (arith, (owners x c).1 (owner.0, s.one)));
      }

-- the two steps of the loop over the elements, from what claiming row y ensures
module _ (p : CopiesAt) (y : ℕ) (before : List ℕ) (owners : Owners p y before) (row : List ℕ) (is : RowOf p y row) (newly : ℕ) (after : List ℕ)
    (claim : RowClaim row y newly before after) where
  pub claimed_owners : RowWithin row before → 0 < newly → Owners p (y + 1) after
  claimed_owners w h =
      let done = claim.claimed h in rw done.1 (owners_more p y before owners row is w done.0)

  pub met_clash : (n : ℕ) → y < n → newly ≡ 0 → FirstClash p n (entry_met before row - 1) y (cell_met before (entry_met before row) row - 1)
  met_clash n h e = clash_first p y before owners row is n h (claim.met e).0

-- an element without copies claims nothing: the table has the owners of one element more as it is
pub owners_follow : (p : CopiesAt) (y : ℕ) (table : List ℕ) → p.copies y ≡ 0 → Owners p y table → Owners p (y + 1) table
owners_follow p y table none owners f c = (
  λ e. let o = (owners f c).0 e in (omega (arith, o.0), o.1),
  λ h.
      ⊎_elim (λ (same : f ≡ y). absurd (omega (arith, subst (λ (n : ℕ). h.1.copy < p.copies n) same h.1.below)))
      (λ (less : f < y). (owners f c).1 (less, h.1))
      (eq-or-lt_of_le (omega (arith, h.0))),
)
