-- The three passes write the planner's plan.
use mathlib.Core.Path.{◌≡◌, refl, sym, ap, ◌∙◌, subst}
use mathlib.Core.Bool.{Bool, true, false, cond}
use mathlib.Core.Logic.{◌⊎◌, inl, inr, ⊎_elim}
use mathlib.Core.List.{List, [], ◌∷◌}
use Prim.Native.Nat.{ℕ, zero, suc, ◌+◌, ◌*◌, ◌-◌, ◌/◌, ◌%◌, ◌≤◌, ◌<◌}
use native.Mathlib.Nat.{not-suc-le-zero}
use native.Mathlib.Omega.{arith}
use native.Mathlib.Numerals.{add-one}
use lib.Dec.{eqb}
use lib.ListN.{length, get_or, take, drop, set, length-set}
use lib.Seq.{drop-cons, get_or-set_same, get_or-set_other, ext_get_or}
use borrow.Author.Tests.{eqb-true, eqb-false}
use Rattle.claims.specs.Claims.{taken, occupied}
use Rattle.plans.specs.Plans.{first_from, cell_holding, planned, Complete}
use Rattle.plans.specs.Passes.{entered, entered_from, sourced, sourced_from, aimed, aimed_from, Fits}
use Rattle.plans.proofs.Plans.{plan_length, plan_at}
use Rattle.plans.proofs.Theorems.{holding, elements_counted}

-- the lengths stay
pub entered_length : (entry c : ℕ) (plan : List ℕ) → length (entered entry c plan) ≡ length plan
entered_length zero c plan = refl
entered_length (suc owner) c plan = length-set plan (2 * suc owner - 1) c

pub entered_all_length : (first : List ℕ) (c : ℕ) (plan : List ℕ) → length (entered_from first c plan) ≡ length plan
entered_all_length [] c plan = refl
entered_all_length (entry ∷ first) c plan = entered_length entry c (entered_from first (c + 1) plan) ∙ entered_all_length first (c + 1) plan

pub sourced_length : (entry copy : ℕ) (plan : List ℕ) → length (sourced entry copy plan) ≡ length plan
sourced_length zero copy plan = refl
sourced_length (suc owner) copy plan = length-set plan (2 * copy) (get_or plan (2 * suc owner - 1) 0)

pub sourced_all_length : (second : List ℕ) (copy : ℕ) (plan : List ℕ) → length (sourced_from second copy plan) ≡ length plan
sourced_all_length [] copy plan = refl
sourced_all_length (entry ∷ second) copy plan =
    sourced_all_length second (copy + taken entry) (sourced entry copy plan) ∙ sourced_length entry copy plan

pub aimed_length : (entry copy c : ℕ) (plan : List ℕ) → length (aimed entry copy c plan) ≡ length plan
aimed_length zero copy c plan = refl
aimed_length (suc owner) copy c plan = length-set plan (2 * copy + 1) c

pub aimed_all_length : (second : List ℕ) (copy c : ℕ) (plan : List ℕ) → length (aimed_from second copy c plan) ≡ length plan
aimed_all_length [] copy c plan = refl
aimed_all_length (entry ∷ second) copy c plan =
    aimed_all_length second (copy + taken entry) (c + 1) (aimed entry copy c plan) ∙ aimed_length entry copy c plan

-- what the cells from c on enter is what those behind it enter, and then c
pub entered_step : (first : List ℕ) (c : ℕ) (plan : List ℕ) → c < length first
    → entered (get_or first c 0) c (entered_from (drop (c + 1) first) (c + 1) plan) ≡ entered_from (drop c first) c plan
entered_step first c plan h = rw (drop-cons first c 0 h, add-one c) refl

-- an entry that is somebody's
pub entered_some : (entry c : ℕ) (plan : List ℕ) → 0 < entry → set plan (2 * entry - 1) c ≡ entered entry c plan
entered_some zero c plan h = absurd (omega arith)
entered_some (suc owner) c plan h = refl

pub taken_some : (entry : ℕ) → 0 < entry → taken entry ≡ 1
taken_some zero h = absurd (omega arith)
taken_some (suc owner) h = refl

pub sourced_some : (entry copy : ℕ) (plan : List ℕ) → 0 < entry → set plan (2 * copy) (get_or plan (2 * entry - 1) 0) ≡ sourced entry copy plan
sourced_some zero copy plan h = absurd (omega arith)
sourced_some (suc owner) copy plan h = refl

pub aimed_some : (entry copy c : ℕ) (plan : List ℕ) → 0 < entry → set plan (2 * copy + 1) c ≡ aimed entry copy c plan
aimed_some zero copy c plan h = absurd (omega arith)
aimed_some (suc owner) copy c plan h = refl

-- what is entered for an owner
entered_same : (entry c : ℕ) (plan : List ℕ) → 0 < entry → 2 * entry ≤ length plan → get_or (entered entry c plan) (2 * entry - 1) 0 ≡ c
entered_same zero c plan h l = absurd (omega arith)
entered_same (suc owner) c plan h l = get_or-set_same plan (2 * suc owner - 1) c 0 (omega arith)

entered_other : (entry other c : ℕ) (plan : List ℕ) → (other ≡ entry → ⊥) → 0 < entry → get_or (entered other c plan) (2 * entry - 1) 0 ≡ get_or plan (2 * entry - 1) 0
entered_other entry zero c plan differ h = refl
entered_other entry (suc owner) c plan differ h =
    get_or-set_other plan (2 * suc owner - 1) (2 * entry - 1) c 0 (λ e. differ (omega arith))

-- is its smallest cell
module _ (first plan : List ℕ) (fits : Fits first plan) (entry : ℕ) (some : 0 < entry) where
  abbrev test : ℕ → Bool
  test d = eqb (get_or first d 0) entry

  entered_is : (left c : ℕ) → c + left ≡ length first → 0 < first_from test left c
      → get_or (entered_from (drop c first) c plan) (2 * entry - 1) 0 + 1 ≡ first_from test left c
  entered_is zero c e h = absurd (omega arith)
  entered_is (suc left) c e h =
      rw (sym (entered_step first c plan (omega arith)))
      (split (entered_is left (c + 1) (omega arith)) (eqb (get_or first c 0) entry) refl h)
    where
      split : (0 < first_from test left (c + 1) → get_or (entered_from (drop (c + 1) first) (c + 1) plan) (2 * entry - 1) 0 + 1 ≡ first_from test left (c + 1)) → (b : Bool)
          → eqb (get_or first c 0) entry ≡ b → 0 < cond b (c + 1) (first_from test left (c + 1))
          → get_or (entered (get_or first c 0) c (entered_from (drop (c + 1) first) (c + 1) plan)) (2 * entry - 1) 0 + 1 ≡ cond b (c + 1) (first_from test left (c + 1))
      split later true t h =
          let same : get_or first c 0 ≡ entry = eqb-true (get_or first c 0) entry t in
          let long : length (entered_from (drop (c + 1) first) (c + 1) plan) ≡ length plan = entered_all_length (drop (c + 1) first) (c + 1) plan in
          rw same (ap (λ (n : ℕ). n + 1) (entered_same entry c (entered_from (drop (c + 1) first) (c + 1) plan) some (omega (arith, fits c))))
      split later false t h =
          ap (λ (n : ℕ). n + 1)
          (entered_other entry (get_or first c 0) c (entered_from (drop (c + 1) first) (c + 1) plan) (eqb-false (get_or first c 0) entry t) some)
          ∙ later h

  pub entered_smallest : 0 < cell_holding first entry → get_or (entered_from first 0 plan) (2 * entry - 1) 0 + 1 ≡ cell_holding first entry
  entered_smallest h = entered_is (length first) 0 (omega arith) h

-- the copy from what is entered for an owner: the odd places stay, and the even ones before
source_odd : (entry copy k : ℕ) (plan : List ℕ) → get_or (sourced entry copy plan) (2 * k + 1) 0 ≡ get_or plan (2 * k + 1) 0
source_odd zero copy k plan = refl
source_odd (suc owner) copy k plan =
    get_or-set_other plan (2 * copy) (2 * k + 1) (get_or plan (2 * suc owner - 1) 0) 0 (λ e. omega arith)

pub sources_odd : (second : List ℕ) (copy k : ℕ) (plan : List ℕ) → get_or (sourced_from second copy plan) (2 * k + 1) 0 ≡ get_or plan (2 * k + 1) 0
sources_odd [] copy k plan = refl
sources_odd (entry ∷ second) copy k plan =
    sources_odd second (copy + taken entry) k (sourced entry copy plan) ∙ source_odd entry copy k plan

source_before : (entry copy k : ℕ) (plan : List ℕ) → k < copy → get_or (sourced entry copy plan) (2 * k) 0 ≡ get_or plan (2 * k) 0
source_before zero copy k plan h = refl
source_before (suc owner) copy k plan h = get_or-set_other plan (2 * copy) (2 * k) (get_or plan (2 * suc owner - 1) 0) 0 (λ e. omega arith)

sources_before : (second : List ℕ) (copy k : ℕ) (plan : List ℕ) → k < copy → get_or (sourced_from second copy plan) (2 * k) 0 ≡ get_or plan (2 * k) 0
sources_before [] copy k plan h = refl
sources_before (entry ∷ second) copy k plan h =
    sources_before second (copy + taken entry) k (sourced entry copy plan) (omega arith) ∙ source_before entry copy k plan h

-- an odd place by its owner
by_owner : (owner : ℕ) → 2 * suc owner - 1 ≡ 2 * owner + 1
by_owner owner = omega arith

pub sources_at : (second : List ℕ) (copy : ℕ) (plan : List ℕ) → 2 * (copy + occupied second) ≤ length plan → (d owner : ℕ) → get_or second d 0 ≡ suc owner
    → get_or (sourced_from second copy plan) (2 * (copy + occupied (take d second))) 0 ≡ get_or plan (2 * owner + 1) 0
sources_at [] copy plan l d owner e = absurd (omega arith)
sources_at (zero ∷ second) copy plan l zero owner e = absurd (omega arith)
sources_at (suc other ∷ second) copy plan l zero owner e =
    let here : copy + 0 ≡ copy = omega arith in
    let same : other ≡ owner = omega arith in
    rw here
    (sources_before second (copy + taken (suc other)) copy (sourced (suc other) copy plan) (omega arith)
    ∙ get_or-set_same plan (2 * copy) (get_or plan (2 * suc other - 1) 0) 0 (omega arith)
    ∙ ap (λ (i : ℕ). get_or plan i 0) (by_owner other ∙ ap (λ (o : ℕ). 2 * o + 1) same))
sources_at (entry ∷ second) copy plan l (suc d) owner e =
    let next : copy + (taken entry + occupied (take d second)) ≡ copy + taken entry + occupied (take d second) = omega arith in
    rw next
    (sources_at second (copy + taken entry) (sourced entry copy plan) (omega (arith, sourced_length entry copy plan)) d owner e
    ∙ source_odd entry copy owner plan)

-- the same of where copies go: the even places stay, and the odd ones before
aim_even : (entry copy c k : ℕ) (plan : List ℕ) → get_or (aimed entry copy c plan) (2 * k) 0 ≡ get_or plan (2 * k) 0
aim_even zero copy c k plan = refl
aim_even (suc owner) copy c k plan = get_or-set_other plan (2 * copy + 1) (2 * k) c 0 (λ e. omega arith)

pub aims_even : (second : List ℕ) (copy c k : ℕ) (plan : List ℕ) → get_or (aimed_from second copy c plan) (2 * k) 0 ≡ get_or plan (2 * k) 0
aims_even [] copy c k plan = refl
aims_even (entry ∷ second) copy c k plan =
    aims_even second (copy + taken entry) (c + 1) k (aimed entry copy c plan) ∙ aim_even entry copy c k plan

aim_before : (entry copy c k : ℕ) (plan : List ℕ) → k < copy → get_or (aimed entry copy c plan) (2 * k + 1) 0 ≡ get_or plan (2 * k + 1) 0
aim_before zero copy c k plan h = refl
aim_before (suc owner) copy c k plan h = get_or-set_other plan (2 * copy + 1) (2 * k + 1) c 0 (λ e. omega arith)

aims_before : (second : List ℕ) (copy c k : ℕ) (plan : List ℕ) → k < copy → get_or (aimed_from second copy c plan) (2 * k + 1) 0 ≡ get_or plan (2 * k + 1) 0
aims_before [] copy c k plan h = refl
aims_before (entry ∷ second) copy c k plan h =
    aims_before second (copy + taken entry) (c + 1) k (aimed entry copy c plan) (omega arith) ∙ aim_before entry copy c k plan h

pub aims_at : (second : List ℕ) (copy c : ℕ) (plan : List ℕ) → 2 * (copy + occupied second) ≤ length plan → (d owner : ℕ) → get_or second d 0 ≡ suc owner
    → get_or (aimed_from second copy c plan) (2 * (copy + occupied (take d second)) + 1) 0 ≡ c + d
aims_at [] copy c plan l d owner e = absurd (omega arith)
aims_at (zero ∷ second) copy c plan l zero owner e = absurd (omega arith)
aims_at (suc other ∷ second) copy c plan l zero owner e =
    let here : copy + 0 ≡ copy = omega arith in
    rw here
    (aims_before second (copy + taken (suc other)) (c + 1) copy (aimed (suc other) copy c plan) (omega arith)
    ∙ get_or-set_same plan (2 * copy + 1) c 0 (omega arith)
    ∙ omega arith)
aims_at (entry ∷ second) copy c plan l (suc d) owner e =
    let next : copy + (taken entry + occupied (take d second)) ≡ copy + taken entry + occupied (take d second) = omega arith in
    rw next
    (aims_at second (copy + taken entry) (c + 1) (aimed entry copy c plan) (omega (arith, aimed_length entry copy c plan)) d owner e
    ∙ omega arith)

-- each copy goes to some occupied cell
pub record Aim (second : List ℕ) (k : ℕ) : Type 0 where
  pub cell : ℕ
  pub owner : ℕ
  pub has : get_or second cell 0 ≡ suc owner
  pub index : occupied (take cell second) ≡ k

aim_later : (entry : ℕ) (second : List ℕ) (k : ℕ) → Aim second k → Aim (entry ∷ second) (taken entry + k)
aim_later entry second k a = record { cell = suc a.cell; owner = a.owner; has = a.has; index = ap (λ (n : ℕ). taken entry + n) a.index }

pub aim_of : (second : List ℕ) (k : ℕ) → k < occupied second → Aim second k
aim_of [] k h = absurd (not-suc-le-zero h)
aim_of (zero ∷ second) k h = subst (Aim (zero ∷ second)) (omega arith) (aim_later zero second k (aim_of second k (omega arith)))
aim_of (suc owner ∷ second) zero h = record { cell = 0; owner = owner; has = refl; index = refl }
aim_of (suc owner ∷ second) (suc k) h =
    subst (Aim (suc owner ∷ second)) (omega arith) (aim_later (suc owner) second k (aim_of second k (omega arith)))

-- a number is twice its half, or one more
even_or_odd : (i : ℕ) → (i ≡ 2 * (i / 2)) ⊎ (i ≡ 2 * (i / 2) + 1)
even_or_odd i = split (i % 2) refl
  where
    split : (r : ℕ) → i % 2 ≡ r → (i ≡ 2 * (i / 2)) ⊎ (i ≡ 2 * (i / 2) + 1)
    split zero e = inl (omega arith)
    split (suc r) e = inr (omega arith)

-- what the three passes leave
abbrev pub written : List ℕ → List ℕ → List ℕ → List ℕ
written first second plan = aimed_from second 0 0 (sourced_from second 0 (entered_from first 0 plan))

-- is the planner's plan, wherever both are owner tables of the same elements, and the memory is as long as the plan
module _ (n : ℕ) (first second plan : List ℕ) (one : Complete n first) (two : Complete n second) (long : length plan ≡ 2 * occupied second) where
  pub first_fits : Fits first plan
  first_fits c = omega (arith, one.entries c, elements_counted n second two)

  pub second_fits : Fits second plan
  second_fits c = omega (arith, two.entries c, elements_counted n second two)

  entered_long : length (entered_from first 0 plan) ≡ length plan
  entered_long = entered_all_length first 0 plan

  written_long : length (written first second plan) ≡ length plan
  written_long = aimed_all_length second 0 0 (sourced_from second 0 (entered_from first 0 plan)) ∙ sourced_all_length second 0 (entered_from first 0 plan) ∙ entered_long

  -- the smallest cell with an owner of the second stands at its odd place
  entered_of : (d owner : ℕ) → get_or second d 0 ≡ suc owner → get_or (entered_from first 0 plan) (2 * owner + 1) 0 ≡ cell_holding first (suc owner) - 1
  entered_of d owner e =
      let there = one.each owner (omega (arith, two.entries d)) in
      let h = holding first (suc owner) there.0 (omega arith) (there.1 ∙ omega arith) in
      let entry-is = entered_smallest first plan first_fits (suc owner) (omega arith) (omega (arith, h.1.is)) in
      ap (λ (i : ℕ). get_or (entered_from first 0 plan) i 0) (sym (by_owner owner)) ∙ omega arith

  at_even : (k : ℕ) → k < occupied second → get_or (written first second plan) (2 * k) 0 ≡ get_or (planned first second) (2 * k) 0
  at_even k h =
      let a = aim_of second k h in
      let sourced-there = sources_at second 0 (entered_from first 0 plan) (omega (arith, entered_long)) a.cell a.owner a.has in
      let same : 0 + occupied (take a.cell second) ≡ k = omega (arith, a.index) in
      aims_even second 0 0 k (sourced_from second 0 (entered_from first 0 plan))
      ∙ rw same at sourced-there
      ∙ entered_of a.cell a.owner a.has
      ∙ sym (rw a.index at (plan_at first second 0 a.cell a.owner a.has).0)

  at_odd : (k : ℕ) → k < occupied second → get_or (written first second plan) (2 * k + 1) 0 ≡ get_or (planned first second) (2 * k + 1) 0
  at_odd k h =
      let a = aim_of second k h in
      let aimed-there = aims_at second 0 0 (sourced_from second 0 (entered_from first 0 plan))
      (omega (arith, entered_long, sourced_all_length second 0 (entered_from first 0 plan))) a.cell a.owner a.has in
      let same : 0 + occupied (take a.cell second) ≡ k = omega (arith, a.index) in
      rw same at aimed-there ∙ sym (rw a.index at (plan_at first second 0 a.cell a.owner a.has).1)

  pub written_is_plan : written first second plan ≡ planned first second
  written_is_plan =
      ext_get_or 0 (written first second plan) (planned first second) (written_long ∙ long ∙ sym (plan_length first second 0)) (λ i h.
      let half : i / 2 < occupied second = omega (arith, written_long) in
      ⊎_elim
      (λ (e : i ≡ 2 * (i / 2)). subst (λ (j : ℕ). get_or (written first second plan) j 0 ≡ get_or (planned first second) j 0) (sym e) (at_even (i / 2) half))
      (λ (e : i ≡ 2 * (i / 2) + 1). subst (λ (j : ℕ). get_or (written first second plan) j 0 ≡ get_or (planned first second) j 0) (sym e) (at_odd (i / 2) half))
      (even_or_odd i))
