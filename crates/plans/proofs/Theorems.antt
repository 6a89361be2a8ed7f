-- What the definitions mean in plain for-alls, and that the planner's plans are accepted.
use mathlib.Core.Path.{◌≡◌, refl, sym, ap, ◌∙◌, subst}
use mathlib.Core.Bool.{Bool, true, false, cond, not, ◌&&◌, true≢false}
use mathlib.Core.Logic.{◌↔◌, ◌⊎◌, inl, inr, ⊎_elim}
use mathlib.Core.List.{List, [], ◌∷◌}
use Prim.Native.Nat.{ℕ, zero, suc, ◌+◌, ◌*◌, ◌-◌, ◌≤◌, ◌<◌}
use native.Mathlib.Nat.{not-suc-le-zero, eq-zero-or-pos}
use native.Mathlib.Omega.{arith}
use lib.Dec.{eqb, ltb}
use lib.ListN.{length, get_or, set, get_or-eq_default}
use lib.Seq.{get_or-set_other}
use borrow.Author.Tests.{eq-eqb, eqb-true, eqb-false, ne_eqb, lt-ltb, ltb-true, ltb-false}
use Rattle.laws.proofs.Order.{le_or_lt}
use Rattle.laws.proofs.Rungs.{apart}
use Rattle.claims.specs.Claims.{CopiesAt, Owners, taken, occupied}
use Rattle.plans.specs.Plans.{carried, outside_from, first_outside, first_from, wrong, first_wrong, Carries, both, first_shared, cell_holding, plan_from, planned, Complete}
use Rattle.plans.proofs.Search.{Found, first_found, first_none, none_first}
use Rattle.plans.proofs.Plans.{Sources, carried_right, plan_inside, plan_length, NamesCells, none_outside}

-- a cell that has an entry is one of the table's
has_cell : (table : List ℕ) (c : ℕ) → 0 < get_or table c 0 → c < length table
has_cell table c h =
    ⊎_elim (λ (past : length table ≤ c). absurd (omega (arith, get_or-eq_default table 0 past))) (λ (less : c < length table). less)
    (le_or_lt (length table) c)

-- a cell is not wrong exactly when, where it has an owner, it holds it
not_wrong : (holds owner : ℕ) → wrong holds owner ≡ false → 0 < owner → holds ≡ owner
not_wrong holds owner e h = split (eqb owner 0) (eqb holds owner) refl refl e
  where
    split : (a b : Bool) → eqb owner 0 ≡ a → eqb holds owner ≡ b → (not a && not b) ≡ false → holds ≡ owner
    split true b ea eb e = absurd (omega (arith, eqb-true owner 0 ea))
    split false true ea eb e = eqb-true holds owner eb
    split false false ea eb e = absurd (apart cc)

right_not_wrong : (holds owner : ℕ) → (0 < owner → holds ≡ owner) → wrong holds owner ≡ false
right_not_wrong holds zero right = refl
right_not_wrong holds (suc owner) right = rw (eq-eqb holds (suc owner) (right (omega arith)), ne_eqb (suc owner) 0 (λ e. omega arith)) refl

-- no cell is wrong exactly when every occupied cell of the second holds its owner
pub right_exactly : (held second : List ℕ) → (first_wrong held second ≡ 0) ↔ ((c : ℕ) → 0 < get_or second c 0 → get_or held c 0 ≡ get_or second c 0)
right_exactly held second = (
  λ e c h.
      not_wrong (get_or held c 0) (get_or second c 0)
      (first_none (λ c. wrong (get_or held c 0) (get_or second c 0)) (length second) 0 e c (omega arith) (omega (arith, has_cell second c h)))
      h,
  λ right.
      none_first (λ c. wrong (get_or held c 0) (get_or second c 0)) (length second) 0
      (λ c h l. right_not_wrong (get_or held c 0) (get_or second c 0) (right c)),
)

-- the first wrong cell has an owner and holds something else, and every occupied cell before it holds its owner
pub record FirstWrongCell (held second : List ℕ) (k : ℕ) : Type 0 where
  pub owned : 0 < get_or second k 0
  pub other : get_or held k 0 ≡ get_or second k 0 → ⊥
  pub before : (c : ℕ) → c < k → 0 < get_or second c 0 → get_or held c 0 ≡ get_or second c 0

is_wrong_lem : (holds owner : ℕ) → wrong holds owner ≡ true → (0 < owner) × (holds ≡ owner → ⊥)
is_wrong_lem holds zero e = absurd (apart cc)
is_wrong_lem holds (suc owner) e =
    (omega arith, λ same. true≢false (sym e ∙ right_not_wrong holds (suc owner) (λ h. same)))

pub wrong_first : (held second : List ℕ) (k : ℕ) → first_wrong held second ≡ k + 1 → FirstWrongCell held second k
wrong_first held second k e =
    let found = first_found (λ c. wrong (get_or held c 0) (get_or second c 0)) (length second) 0 k e in
    let there = is_wrong_lem (get_or held k 0) (get_or second k 0) found.yes in
    record {
      owned = there.0;
      other = there.1;
      before = λ c h o. not_wrong (get_or held c 0) (get_or second c 0) (found.least c (omega arith) h) o;
    }

-- two entries are not both occupied
not_both : (one other : ℕ) → both one other ≡ false → 0 < one → 0 < other → ⊥
not_both zero other e h k = omega arith
not_both (suc one) zero e h k = omega arith
not_both (suc one) (suc other) e h k = let f : both (suc one) (suc other) ≡ true = rw (ne_eqb (suc one) 0 (λ e. omega arith), ne_eqb (suc other) 0 (λ e. omega arith)) refl in apart cc

apart_not_both : (one other : ℕ) → (0 < one → 0 < other → ⊥) → both one other ≡ false
apart_not_both zero other none = refl
apart_not_both (suc one) zero none = rw (ne_eqb (suc one) 0 (λ e. omega arith)) refl
apart_not_both (suc one) (suc other) none = absurd (none (omega arith) (omega arith))

-- no cell is shared exactly when no cell is occupied in both
pub apart_exactly : (first second : List ℕ) → (first_shared first second ≡ 0) ↔ ((c : ℕ) → 0 < get_or first c 0 → 0 < get_or second c 0 → ⊥)
apart_exactly first second = (
  λ e c h k.
      not_both (get_or first c 0) (get_or second c 0)
      (first_none (λ c. both (get_or first c 0) (get_or second c 0)) (length second) 0 e c (omega arith) (omega (arith, has_cell second c k)))
      h k,
  λ none.
      none_first (λ c. both (get_or first c 0) (get_or second c 0)) (length second) 0
      (λ c h l. apart_not_both (get_or first c 0) (get_or second c 0) (none c)),
)

-- the smallest shared cell is occupied in both, and none before it is
pub record FirstSharedCell (first second : List ℕ) (k : ℕ) : Type 0 where
  pub one : 0 < get_or first k 0
  pub two : 0 < get_or second k 0
  pub before : (c : ℕ) → c < k → 0 < get_or first c 0 → 0 < get_or second c 0 → ⊥

is_both : (one other : ℕ) → both one other ≡ true → (0 < one) × (0 < other)
is_both zero other e = absurd (apart cc)
is_both (suc one) zero e = absurd (true≢false (sym e ∙ apart_not_both (suc one) 0 (λ h k. omega arith)))
is_both (suc one) (suc other) e = (omega arith, omega arith)

pub shared_first : (first second : List ℕ) (k : ℕ) → first_shared first second ≡ k + 1 → FirstSharedCell first second k
shared_first first second k e =
    let found = first_found (λ c. both (get_or first c 0) (get_or second c 0)) (length second) 0 k e in
    let there = is_both (get_or first k 0) (get_or second k 0) found.yes in
    record {
      one = there.0;
      two = there.1;
      before = λ c h. not_both (get_or first c 0) (get_or second c 0) (found.least c (omega arith) h);
    }

-- no copy is outside exactly when there are two numbers for each copy, and each number is a cell
inside_none : (cells index : ℕ) (plan : List ℕ) → NamesCells cells plan → outside_from cells index plan ≡ 0
inside_none cells index [] h = refl
inside_none cells index (from ∷ []) h = absurd (omega (arith, h.pairs 0 (omega arith)))
inside_none cells index (from ∷ to ∷ plan) h =
    rw (lt-ltb from cells (h.cell 0 (omega arith)), lt-ltb to cells (h.cell 1 (omega arith)))
    (inside_none cells (index + 1) plan
    (record { pairs = λ k l. omega (arith, h.pairs (suc k) (omega arith)); cell = λ i l. h.cell (suc (suc i)) (omega arith) }))

pub inside_exactly : (cells : ℕ) (plan : List ℕ) → (first_outside cells plan ≡ 0) ↔ NamesCells cells plan
inside_exactly cells plan = (none_outside cells 0 plan, inside_none cells 0 plan)

-- copy k is the first outside: it has a number, and one of its two is missing or no cell, and every number before is a cell
pub record FirstCopyOutside (cells : ℕ) (plan : List ℕ) (k : ℕ) : Type 0 where
  pub named : 2 * k < length plan
  pub past : (2 * k + 1 ≡ length plan) ⊎ ((cells ≤ get_or plan (2 * k) 0) ⊎ (cells ≤ get_or plan (2 * k + 1) 0))
  pub before : (i : ℕ) → i < 2 * k → get_or plan i 0 < cells

past_later : (cells from to : ℕ) (plan : List ℕ) (k : ℕ) → from < cells → to < cells → FirstCopyOutside cells plan k → FirstCopyOutside cells (from ∷ to ∷ plan) (suc k)
past_later cells from to plan k f t p = record { named = omega (arith, p.named); past = past; before = before }
  where
    even : 2 * suc k ≡ suc (suc (2 * k))
    even = omega arith

    odd : 2 * suc k + 1 ≡ suc (suc (2 * k + 1))
    odd = omega arith

    past : (2 * suc k + 1 ≡ length (from ∷ to ∷ plan))
        ⊎ ((cells ≤ get_or (from ∷ to ∷ plan) (2 * suc k) 0) ⊎ (cells ≤ get_or (from ∷ to ∷ plan) (2 * suc k + 1) 0))
    past =
        ⊎_elim (λ (e : 2 * k + 1 ≡ length plan). inl (omega arith))
        (λ (o : (cells ≤ get_or plan (2 * k) 0) ⊎ (cells ≤ get_or plan (2 * k + 1) 0)). inr (rw (odd, even) o))
        p.past

    before : (i : ℕ) → i < 2 * suc k → get_or (from ∷ to ∷ plan) i 0 < cells
    before zero h = f
    before (suc zero) h = t
    before (suc (suc i)) h = p.before i (omega arith)

past_split : (cells from to index m : ℕ) (plan : List ℕ)
    → (outside_from cells (index + 1) plan ≡ m → (k : ℕ) × (m ≡ index + 1 + k + 1) × FirstCopyOutside cells plan k) → (a b : Bool) → ltb from cells ≡ a
    → ltb to cells ≡ b → cond (a && b) (outside_from cells (index + 1) plan) (index + 1) ≡ m
    → (k : ℕ) × (m ≡ index + k + 1) × FirstCopyOutside cells (from ∷ to ∷ plan) k
past_split cells from to index m plan later true true f t e =
    let r = later e in
    (suc r.0, omega (arith, r.1), past_later cells from to plan r.0 (ltb-true from cells f) (ltb-true to cells t) r.2)
past_split cells from to index m plan later true false f t e =
    (0, omega arith, record { named = omega arith; past = inr (inr (ltb-false to cells t)); before = λ i h. absurd (omega arith) })
past_split cells from to index m plan later false b f t e =
    (0, omega arith, record { named = omega arith; past = inr (inl (ltb-false from cells f)); before = λ i h. absurd (omega arith) })

outside_past : (cells index m : ℕ) (plan : List ℕ) → 0 < m → outside_from cells index plan ≡ m → (k : ℕ) × (m ≡ index + k + 1) × FirstCopyOutside cells plan k
outside_past cells index m [] h e = absurd (omega arith)
outside_past cells index m (from ∷ []) h e =
    (0, omega arith, record { named = omega arith; past = inl (omega arith); before = λ i l. absurd (omega arith) })
outside_past cells index m (from ∷ to ∷ plan) h e =
    past_split cells from to index m plan (outside_past cells (index + 1) m plan h) (ltb from cells) (ltb to cells) refl refl e

-- where a copy is outside, its index plus 1 is that of the first
pub outside_first : (cells : ℕ) (plan : List ℕ) → 0 < first_outside cells plan → (k : ℕ) × (first_outside cells plan ≡ k + 1) × FirstCopyOutside cells plan k
outside_first cells plan h =
    let r = outside_past cells 0 (first_outside cells plan) plan h refl in (r.0, r.1 ∙ omega arith, r.2)

-- the smallest cell with an entry that some cell has
pub record Holding (table : List ℕ) (entry k : ℕ) : Type 0 where
  pub is : cell_holding table entry ≡ k + 1
  pub holds : get_or table k 0 ≡ entry
  pub cell : k < length table
  pub least : (d : ℕ) → get_or table d 0 ≡ entry → k ≤ d

holding_split : (table : List ℕ) (entry c : ℕ) → 0 < entry → get_or table c 0 ≡ entry → (m : ℕ) → cell_holding table entry ≡ m → (k : ℕ) × Holding table entry k
holding_split table entry c h e zero q =
    absurd (eqb-false (get_or table c 0) entry
    (first_none (λ c. eqb (get_or table c 0) entry) (length table) 0 q c (omega arith) (omega (arith, has_cell table c (omega arith))))
    e)
holding_split table entry c h e (suc k) q =
    let found = first_found (λ c. eqb (get_or table c 0) entry) (length table) 0 k (q ∙ omega arith) in (
      k,
      record {
        is = q ∙ omega arith;
        holds = eqb-true (get_or table k 0) entry found.yes;
        cell = omega (arith, found.below);
        least = λ d e. ⊎_elim (λ (h : k ≤ d). h) (λ (l : d < k). absurd (eqb-false (get_or table d 0) entry (found.least d (omega arith) l) e)) (le_or_lt k d);
      },
    )

pub holding : (table : List ℕ) (entry c : ℕ) → 0 < entry → get_or table c 0 ≡ entry → (k : ℕ) × Holding table entry k
holding table entry c h e = holding_split table entry c h e (cell_holding table entry) refl

-- the planner's plan is accepted wherever both are owner tables of the same elements, in one space, and no cell is occupied in both
module _ (n : ℕ) (first second : List ℕ) (one : Complete n first) (two : Complete n second) (alike : length first ≡ length second)
    (none : (c : ℕ) → 0 < get_or first c 0 → 0 < get_or second c 0 → ⊥) where
  -- an owner of the second has a smallest cell in the first
  source : (i owner : ℕ) → get_or second i 0 ≡ suc owner → (k : ℕ) × Holding first (suc owner) k
  source i owner e =
      let there = one.each owner (omega (arith, two.entries i)) in
      holding first (suc owner) there.0 (omega arith) (there.1 ∙ omega arith)

  pub plan_accepted : Carries first second (planned first second)
  plan_accepted = record {
    inside = plan_inside first (length second) second 0 0 (omega arith) (λ i owner e.
        let s = source i owner e in omega (arith, s.1.is, s.1.cell));
    right = (right_exactly (carried (planned first second) first) second).1 (λ c h.
        ap (λ (d : ℕ). get_or (carried (planned first second) first) d 0) (omega arith)
        ∙ carried_right first second 0 first (omega arith)
        (record {
          holds = λ i owner e.
              let s = source i owner e in
              let same : cell_holding first (suc owner) - 1 ≡ s.0 = omega (arith, s.1.is) in
              rw same s.1.holds;
          apart = λ i j owner e o q.
              let s = source i owner e in
              let same : s.0 ≡ j = omega (arith, s.1.is) in
              none j (subst (λ (d : ℕ). 0 < get_or first d 0) same (omega (arith, s.1.holds))) o;
        })
        c h);
  }

-- an entry that is emptied is one less
emptied : (table : List ℕ) (c : ℕ) → 0 < get_or table c 0 → occupied table ≡ occupied (set table c 0) + 1
emptied [] c h = absurd (not-suc-le-zero h)
emptied (zero ∷ table) zero h = absurd (not-suc-le-zero h)
emptied (suc owner ∷ table) zero h = omega arith
emptied (entry ∷ table) (suc c) h = let rest = emptied table c h in omega arith

-- where each of n elements has a cell, as many cells are occupied
pub each_counted : (n : ℕ) (table : List ℕ) → ((f : ℕ) → f < n → (c : ℕ) × (get_or table c 0 ≡ f + 1)) → n ≤ occupied table
each_counted zero table each = omega arith
each_counted (suc n) table each =
    let last = each n (omega arith) in
    let rest = each_counted n (set table last.0 0) (λ f h.
    let there = each f (omega arith) in (
      there.0,
      get_or-set_other table last.0 there.0 0 0
          (λ e. let same : get_or table there.0 0 ≡ get_or table last.0 0 = ap (λ (c : ℕ). get_or table c 0) e in omega (arith, there.1, last.1))
          ∙ there.1,
    )) in
    omega (arith, emptied table last.0 (omega (arith, last.1)))

pub elements_counted : (n : ℕ) (table : List ℕ) → Complete n table → n ≤ occupied table
elements_counted n table o = each_counted n table o.each

-- the owners of elements of which each has a copy are an owner table
pub owners_complete : (p : CopiesAt) (n : ℕ) (table : List ℕ) → Owners p n table → ((f : ℕ) → f < n → 0 < p.copies f) → Complete n table
owners_complete p n table owners some = record {
  entries = λ c. split c (get_or table c 0) refl;
  each = λ f h. (p.at f 0, (owners f (p.at f 0)).1 (h, record { copy = 0; below = some f h; there = refl }));
}
  where
    split : (c entry : ℕ) → get_or table c 0 ≡ entry → get_or table c 0 ≤ n
    split c zero e = omega arith
    split c (suc f) e = omega (arith, ((owners f c).0 (e ∙ omega arith)).0)

-- two elements turned round, from cells 0, 1 and 2 to cells 3 and 4: element 0 is taken from the smaller of its two cells
turned_round : planned (1 ∷ 2 ∷ 1 ∷ 0 ∷ 0 ∷ []) (0 ∷ 0 ∷ 0 ∷ 2 ∷ 1 ∷ []) ≡ 1 ∷ 3 ∷ 0 ∷ 4 ∷ []
turned_round = refl

carried_there : carried (1 ∷ 3 ∷ 0 ∷ 4 ∷ []) (1 ∷ 2 ∷ 1 ∷ 0 ∷ 0 ∷ []) ≡ 1 ∷ 2 ∷ 1 ∷ 2 ∷ 1 ∷ []
carried_there = refl

-- a copy to cell 5 of five cells is the second; the number after two copies is the third
names_outside : first_outside 5 (1 ∷ 3 ∷ 0 ∷ 5 ∷ []) ≡ 2
names_outside = refl

is_left_over : first_outside 5 (1 ∷ 3 ∷ 0 ∷ 4 ∷ 0 ∷ []) ≡ 3
is_left_over = refl

-- two elements that change places by a third cell; in another order the second of them is lost, and cell 0 is the first wrong one
changed_places : carried (0 ∷ 2 ∷ 1 ∷ 0 ∷ 2 ∷ 1 ∷ []) (1 ∷ 2 ∷ 0 ∷ []) ≡ 2 ∷ 1 ∷ 1 ∷ []
changed_places = refl

wrong_order : first_wrong (carried (0 ∷ 1 ∷ 1 ∷ 0 ∷ []) (1 ∷ 2 ∷ 0 ∷ [])) (2 ∷ 1 ∷ 0 ∷ []) ≡ 1
wrong_order = refl

-- tables that overlap in cells 1 and 2: the smaller is named
overlapping : first_shared (1 ∷ 2 ∷ 3 ∷ 0 ∷ []) (0 ∷ 1 ∷ 2 ∷ 3 ∷ []) ≡ 2
overlapping = refl
