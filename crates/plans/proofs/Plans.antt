-- What the copies of a plan leave, and the planner's plan number by number.
use mathlib.Core.Path.{◌≡◌, refl, sym, ap, ◌∙◌}
use mathlib.Core.Bool.{Bool, true, false, cond, ◌&&◌}
use mathlib.Core.List.{List, [], ◌∷◌}
use Prim.Native.Nat.{ℕ, zero, suc, ◌+◌, ◌*◌, ◌-◌, ◌≤◌, ◌<◌}
use native.Mathlib.Nat.{not-suc-le-zero}
use native.Mathlib.Omega.{arith}
use native.Mathlib.Numerals.{add-one}
use lib.Dec.{ltb}
use lib.ListN.{length, get_or, take, drop, length-set, length-drop}
use lib.Seq.{drop-cons, get_or-set_same, get_or-set_other}
use borrow.Author.Tests.{lt-ltb, ltb-true}
use Rattle.laws.proofs.Rungs.{apart}
use Rattle.claims.specs.Claims.{taken, occupied}
use Rattle.plans.specs.Plans.{copied, carried, outside_from, cell_holding, plan_from}

-- two numbers more of a plan
twice_next : (k : ℕ) → 2 * (k + 1) ≡ suc (suc (2 * k))
twice_next k = omega arith

two_more : (plan : List ℕ) (k : ℕ) → 2 * k + 1 < length plan → drop (2 * k) plan ≡ get_or plan (2 * k) 0 ∷ get_or plan (2 * k + 1) 0 ∷ drop (2 * (k + 1)) plan
two_more plan k h =
    rw (twice_next k, drop-cons plan (2 * k) 0 (omega arith), drop-cons plan (suc (2 * k)) 0 (omega arith), sym (add-one (2 * k))) refl

-- the copies up to k are made
pub carried_step : (plan table : List ℕ) (k : ℕ) → 2 * k + 1 < length plan
    → carried (drop (2 * (k + 1)) plan) (copied (get_or plan (2 * k) 0) (get_or plan (2 * k + 1) 0) table) ≡ carried (drop (2 * k) plan) table
carried_step plan table k h = rw (two_more plan k h) refl

-- fewer than two numbers are no copy
pub carried_none : (plan table : List ℕ) → length plan < 2 → carried plan table ≡ table
carried_none [] table h = refl
carried_none (from ∷ []) table h = refl
carried_none (from ∷ to ∷ plan) table h = absurd (omega arith)

pub carried_end : (plan table : List ℕ) (k : ℕ) → length plan < 2 * k + 2 → carried (drop (2 * k) plan) table ≡ table
carried_end plan table k h = carried_none (drop (2 * k) plan) table (omega (arith, length-drop (2 * k) plan))

-- a table is as long after the copies as before
pub carried_length : (plan table : List ℕ) → length (carried plan table) ≡ length table
carried_length [] table = refl
carried_length (from ∷ []) table = refl
carried_length (from ∷ to ∷ plan) table = carried_length plan (copied from to table) ∙ length-set table _ _

-- the copies up to k lie inside
pub outside_step : (cells : ℕ) (plan : List ℕ) (k : ℕ) → 2 * k + 1 < length plan → get_or plan (2 * k) 0 < cells → get_or plan (2 * k + 1) 0 < cells
    → outside_from cells (k + 1) (drop (2 * (k + 1)) plan) ≡ outside_from cells k (drop (2 * k) plan)
outside_step cells plan k h from to =
    rw (two_more plan k h, lt-ltb (get_or plan (2 * k) 0) cells from, lt-ltb (get_or plan (2 * k + 1) 0) cells to) refl

-- a copy that names two cells
pub both_inside : (from to cells : ℕ) → (ltb from cells && ltb to cells) ≡ true → (from < cells) × (to < cells)
both_inside from to cells e = split (ltb from cells) (ltb to cells) refl refl e
  where
    split : (a b : Bool) → ltb from cells ≡ a → ltb to cells ≡ b → (a && b) ≡ true → (from < cells) × (to < cells)
    split true true f t e = (ltb-true from cells f, ltb-true to cells t)
    split true false f t e = absurd (apart cc)
    split false b f t e = absurd (apart cc)

-- an odd number is left over
left_over : (cells k : ℕ) (rest : List ℕ) → length rest ≡ 1 → outside_from cells k rest ≡ k + 1
left_over cells k [] h = absurd (omega arith)
left_over cells k (from ∷ []) h = refl
left_over cells k (from ∷ to ∷ rest) h = absurd (omega arith)

pub outside_odd : (cells : ℕ) (plan : List ℕ) (k : ℕ) → length plan ≡ 2 * k + 1 → outside_from cells k (drop (2 * k) plan) ≡ k + 1
outside_odd cells plan k h = left_over cells k (drop (2 * k) plan) (omega (arith, length-drop (2 * k) plan))

-- where none is outside, there are two numbers for each copy, and each names a cell
pub record NamesCells (cells : ℕ) (plan : List ℕ) : Type 0 where
  pub pairs : (k : ℕ) → 2 * k < length plan → 2 * k + 1 < length plan
  pub cell : (i : ℕ) → i < length plan → get_or plan i 0 < cells

inside_two : (cells from to : ℕ) (plan : List ℕ) → from < cells → to < cells → NamesCells cells plan → NamesCells cells (from ∷ to ∷ plan)
inside_two cells from to plan f t rest = record { pairs = pairs; cell = cell }
  where
    pairs : (k : ℕ) → 2 * k < length (from ∷ to ∷ plan) → 2 * k + 1 < length (from ∷ to ∷ plan)
    pairs zero h = omega arith
    pairs (suc k) h = omega (arith, rest.pairs k (omega arith))

    cell : (i : ℕ) → i < length (from ∷ to ∷ plan) → get_or (from ∷ to ∷ plan) i 0 < cells
    cell zero h = f
    cell (suc zero) h = t
    cell (suc (suc i)) h = rest.cell i (omega arith)

inside_split : (cells from to index : ℕ) (plan : List ℕ) → (outside_from cells (index + 1) plan ≡ 0 → NamesCells cells plan) → (a b : Bool)
    → ltb from cells ≡ a → ltb to cells ≡ b → cond (a && b) (outside_from cells (index + 1) plan) (index + 1) ≡ 0 → NamesCells cells (from ∷ to ∷ plan)
inside_split cells from to index plan rest true true f t e = inside_two cells from to plan (ltb-true from cells f) (ltb-true to cells t) (rest e)
inside_split cells from to index plan rest true false f t e = absurd (omega arith)
inside_split cells from to index plan rest false b f t e = absurd (omega arith)

pub none_outside : (cells index : ℕ) (plan : List ℕ) → outside_from cells index plan ≡ 0 → NamesCells cells plan
none_outside cells index [] e = record { pairs = λ k h. absurd (not-suc-le-zero h); cell = λ i h. absurd (not-suc-le-zero h) }
none_outside cells index (from ∷ []) e = absurd (omega arith)
none_outside cells index (from ∷ to ∷ plan) e =
    inside_split cells from to index plan (none_outside cells (index + 1) plan) (ltb from cells) (ltb to cells) refl refl e

-- no more cells are occupied than there are
pub occupied_most : (table : List ℕ) → occupied table ≤ length table
occupied_most [] = omega arith
occupied_most (zero ∷ table) = let rest = occupied_most table in omega arith
occupied_most (suc owner ∷ table) = let rest = occupied_most table in omega arith

module _ (first : List ℕ) where
  -- a cell before those of a plan stays
  pub before_stays : (second : List ℕ) (c : ℕ) (t : List ℕ) (d : ℕ) → d < c → get_or (carried (plan_from first second c) t) d 0 ≡ get_or t d 0
  before_stays [] c t d h = refl
  before_stays (zero ∷ second) c t d h = before_stays second (c + 1) t d (omega arith)
  before_stays (suc owner ∷ second) c t d h =
      before_stays second (c + 1) (copied (cell_holding first (suc owner) - 1) c t) d (omega arith)
      ∙ get_or-set_other t c d (get_or t (cell_holding first (suc owner) - 1) 0) 0 (λ e. omega arith)

  -- where from: a cell that holds the owner, and to which no copy goes
  pub record Sources (second : List ℕ) (c : ℕ) (t : List ℕ) : Type 0 where
    pub holds : (i owner : ℕ) → get_or second i 0 ≡ suc owner → get_or t (cell_holding first (suc owner) - 1) 0 ≡ suc owner
    pub apart : (i j owner : ℕ) → get_or second i 0 ≡ suc owner → 0 < get_or second j 0 → cell_holding first (suc owner) - 1 ≡ c + j → ⊥

  -- then each occupied cell of the second holds its owner in the end
  pub carried_right : (second : List ℕ) (c : ℕ) (t : List ℕ) → c + length second ≤ length t → Sources second c t
      → (i : ℕ) → 0 < get_or second i 0 → get_or (carried (plan_from first second c) t) (c + i) 0 ≡ get_or second i 0
  carried_right [] c t l s i h = absurd (not-suc-le-zero h)
  carried_right (zero ∷ second) c t l s zero h = absurd (not-suc-le-zero h)
  carried_right (zero ∷ second) c t l s (suc i) h =
      let next : c + suc i ≡ c + 1 + i = omega arith in
      rw next
      (carried_right second (c + 1) t (omega arith)
      (record { holds = λ j owner e. s.holds (suc j) owner e; apart = λ j k owner e o q. s.apart (suc j) (suc k) owner e o (omega arith) })
      i h)
  carried_right (suc owner ∷ second) c t l s zero h =
      let from = cell_holding first (suc owner) - 1 in
      let here : c + 0 ≡ c = omega arith in
      rw here
      (before_stays second (c + 1) (copied from c t) c (omega arith)
      ∙ get_or-set_same t c (get_or t from 0) 0 (omega arith)
      ∙ s.holds 0 owner refl)
  carried_right (suc owner ∷ second) c t l s (suc i) h =
      let from = cell_holding first (suc owner) - 1 in
      let next : c + suc i ≡ c + 1 + i = omega arith in
      rw next
      (carried_right second (c + 1) (copied from c t) (omega (arith, length-set t c (get_or t from 0)))
      (record {
        holds = λ j other e.
            get_or-set_other t c (cell_holding first (suc other) - 1) (get_or t from 0) 0
            (λ q. s.apart (suc j) 0 other e (omega arith) (q ∙ omega arith))
            ∙ s.holds (suc j) other e;
        apart = λ j k other e o q. s.apart (suc j) (suc k) other e o (omega arith);
      })
      i h)

  -- a plan from cells of the first lies inside
  pub plan_inside : (cells : ℕ) (second : List ℕ) (c index : ℕ) → c + length second ≤ cells
      → ((i owner : ℕ) → get_or second i 0 ≡ suc owner → cell_holding first (suc owner) - 1 < cells)
      → outside_from cells index (plan_from first second c) ≡ 0
  plan_inside cells [] c index l s = refl
  plan_inside cells (zero ∷ second) c index l s = plan_inside cells second (c + 1) index (omega arith) (λ i. s (suc i))
  plan_inside cells (suc owner ∷ second) c index l s =
      rw (lt-ltb (cell_holding first (suc owner) - 1) cells (s 0 owner refl), lt-ltb c cells (omega arith))
      (plan_inside cells second (c + 1) (index + 1) (omega arith) (λ i. s (suc i)))

  -- two numbers for each occupied cell of the second
  pub plan_length : (second : List ℕ) (c : ℕ) → length (plan_from first second c) ≡ 2 * occupied second
  plan_length [] c = refl
  plan_length (zero ∷ second) c = let rest = plan_length second (c + 1) in omega arith
  plan_length (suc owner ∷ second) c = let rest = plan_length second (c + 1) in omega arith

  -- the copy to cell d stands after those to the occupied cells before it
  pub plan_at : (second : List ℕ) (c d owner : ℕ) → get_or second d 0 ≡ suc owner
      → (get_or (plan_from first second c) (2 * occupied (take d second)) 0 ≡ cell_holding first (suc owner) - 1)
      × (get_or (plan_from first second c) (2 * occupied (take d second) + 1) 0 ≡ c + d)
  plan_at [] c d owner e = absurd (omega arith)
  plan_at (zero ∷ second) c zero owner e = absurd (omega arith)
  plan_at (zero ∷ second) c (suc d) owner e =
      let rest = plan_at second (c + 1) d owner e in
      let same : taken 0 + occupied (take d second) ≡ occupied (take d second) = omega arith in
      rw same (rest.0, rest.1 ∙ omega arith)
  plan_at (suc other ∷ second) c zero owner e = (ap (λ (o : ℕ). cell_holding first o - 1) e, omega arith)
  plan_at (suc other ∷ second) c (suc d) owner e =
      let rest = plan_at second (c + 1) d owner e in
      let next : 2 * (taken (suc other) + occupied (take d second)) ≡ suc (suc (2 * occupied (take d second))) = omega arith in
      let odd : suc (suc (2 * occupied (take d second))) + 1 ≡ suc (suc (2 * occupied (take d second) + 1)) = omega arith in
      (rw next rest.0, rw (next, odd) (rest.1 ∙ omega arith))
