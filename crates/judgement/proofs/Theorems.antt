-- What the definitions of the verdict and of the owner mean, in plain for-alls: demand 3, and the numbers.
use Rattle.std.specs.Prelude.{Result, Err, Ok}
use mathlib.Core.Path.{◌≡◌, refl, sym, ap, ◌∙◌, subst}
use mathlib.Core.Logic.{◌↔◌, ⊎_elim}
use mathlib.Core.List.{List, ◌++◌}
use Prim.Native.Nat.{ℕ, ◌+◌, ◌≤◌, ◌<◌}
use native.Mathlib.Nat.{le_antisymm}
use native.Mathlib.Omega.{arith}
use borrow.Author.Tests.{eq-eqb}
use lib.ListN.{length, get_or, take, drop, get_or-append}
use lib.Seq.{take_at}
use Rattle.answers.specs.Refusals.{no_refusal}
use Rattle.judgement.specs.declared.Approved.{Approved}
use Rattle.answers.specs.declared.Cell.{Cell}
use Rattle.answers.specs.declared.Flat.{Flat}
use Rattle.answers.specs.declared.Numbers.{Numbers}
use Rattle.answers.specs.declared.Refusal.{Refusal}
use Rattle.answers.specs.declared.Refusal.TheVariants.{CopyOutside, Shared}
use Rattle.answers.proofs.OneToOne.{read_back, refused_back, pinned}
use Rattle.card.specs.Card.{elements, copies, cells}
use Rattle.card.specs.Admission.{admission}
use Rattle.card.specs.declared.Card.{Card}
use Rattle.rules.specs.Rules.{spot}
use Rattle.rules.specs.Copies.{cell_of}
use Rattle.rules.specs.Reuse.{own_components, AreOne, leader, Unmarked}
use Rattle.rules.specs.declared.Spot.TheVariants.{Inside}
use Rattle.rules.proofs.Reuse.{one_spot, leader_element, leader_one, leader_least, leader_smallest, leader_leads, same_leader, led_one, one_is_same}
use Rattle.laws.proofs.Order.{le_or_lt}
use Rattle.idle.specs.Idle.{NoIdlePair}
use Rattle.idle.proofs.Theorems.{admitted_exactly}
use Rattle.claims.specs.Claims.{Claims, Share, occupied, OwnedTable as Owned, FirstClash}
use Rattle.claims.specs.Outcome.{NoneShare}
use Rattle.claims.proofs.Theorems.{owners_none_share, clash_shares, nobody_exactly}
use Rattle.judgement.specs.Judgement.{placed, LiesInside, AllInside, FirstOutside, Judgement, NotAdmitted, NoRoom, OutsideAt, Clashing, Passed, ComesTo}
use Rattle.judgement.specs.Verdict.{verdict_of, table_after, VerdictPromise, asked_spot, OwnerJudgement, NoCell, ByVerdict, OwnerComesTo, read_entry, owner_table_after, owner_of, OwnerPromise, verdict_numbers, owner_numbers, approved_with}
use Rattle.judgement.specs.Plain.{HasCopyIn, SmallestIn, ShareCell, FirstShared, OneClassACell}
use Rattle.judgement.proofs.Unique.{not_both, inside_not_outside, judgement_unique, owner_judgement_unique}
use Rattle.judgement.proofs.Run.{lies_inside, some_leads}

-- two outcomes that the promise of the verdict allows are equal
pub verdict_settled : (card : Card) (before a b : List ℕ) (v w : Result Approved Refusal) → VerdictPromise card before a v → VerdictPromise card before b w
    → (a ≡ b) × (v ≡ w)
verdict_settled card before a b v w h k =
    let same = judgement_unique card (length before) h.judgement k.judgement h.comes k.comes in (
      h.leaves ∙ ap (λ (j : Judgement). table_after card j before) same ∙ sym k.leaves,
      h.answers ∙ ap (verdict_of card) same ∙ sym k.answers,
    )

-- and so are two that the promise of the owner of a cell allows
pub owner_settled : (card : Card) (coordinates before a b : List ℕ) (v w : Result ℕ Refusal) → OwnerPromise card coordinates before a v
    → OwnerPromise card coordinates before b w → (a ≡ b) × (v ≡ w)
owner_settled card coordinates before a b v w h k =
    let same = owner_judgement_unique card coordinates (length before) h.judgement k.judgement h.comes k.comes in (
      h.leaves ∙ ap (λ (j : OwnerJudgement). owner_table_after card j before) same ∙ sym k.leaves,
      h.answers ∙ ap (λ (j : OwnerJudgement). owner_of card coordinates j before) same ∙ sym k.answers,
    )

-- a verdict is an approval
abbrev pub IsApproval : Result Approved Refusal → Type 0
IsApproval (Ok approval) = Unit
IsApproval (Err refusal) = ⊥

-- demand 3 of an outcome of the verdict
pub record Demand3 (card : Card) (after : List ℕ) (verdict : Result Approved Refusal) : Type 0 where
  -- approved exactly when every copy of every element lies in the stated space and no two elements that are not one share a cell
  pub approved : IsApproval verdict ↔ (AllInside card × OneClassACell card)
  -- once approved, each cell's owner is the smallest of the one class placed there
  pub owner : IsApproval verdict → (c f : ℕ) → c < cells card → (get_or after c 0 ≡ f + 1) ↔ SmallestIn card f c
  -- or nobody exactly when none is
  pub nobody : IsApproval verdict → (c : ℕ) → c < cells card → (get_or after c 0 ≡ 0) ↔ ((f : ℕ) → f < elements card → HasCopyIn card f c → ⊥)
  -- and the answer has elements, occupied cells, cells
  pub counts : IsApproval verdict → verdict ≡ approved_with (elements card) (occupied (take (cells card) after)) (cells card)

-- an element that leads has its copies, one that follows has none
module _ (card : Card) (f : ℕ) where
  pub own_copies : leader card f ≡ f → (placed card).copies f ≡ copies card
  own_copies e = rw (eq-eqb (leader card f) f e)

  pub claims_leads : (c : ℕ) → Claims (placed card) f c → leader card f ≡ f
  claims_leads c k = some_leads card f (omega (arith, k.below))

  pub claimed_below : (c : ℕ) (k : Claims (placed card) f c) → k.copy < copies card
  claimed_below c k = omega (arith, own_copies (claims_leads c k), k.below)

  pub copy_claims : (c : ℕ) → leader card f ≡ f → HasCopyIn card f c → Claims (placed card) f c
  copy_claims c leads h =
      record { copy = h.combination; below = omega (arith, own_copies leads, h.below); there = ap cell_of h.there }

-- where its copies lie inside, an element has a copy in each cell that it claims
pub claims_copy : (card : Card) → AllInside card → (f c : ℕ) → f < elements card → Claims (placed card) f c → HasCopyIn card f c
claims_copy card inside f c h k =
    record {
      combination = k.copy;
      below = claimed_below card f c k;
      there = rw (sym k.there) (lies_inside (spot card f k.copy) (inside f k.copy h (claimed_below card f c k)));
    }

module _ (card : Card) (admitted : admission card ≡ no_refusal) where
  -- elements that are one have their copies in the same cells
  pub one_copy : (f g c : ℕ) → AreOne card f g → HasCopyIn card f c → HasCopyIn card g c
  one_copy f g c one h =
      record { combination = h.combination; below = h.below; there = sym (one_spot card f g h.combination admitted one) ∙ h.there }

  -- so where an element has a copy, its leader claims the cell
  pub leader_claims : (f c : ℕ) → f < elements card → HasCopyIn card f c → Claims (placed card) (leader card f) c
  leader_claims f c h has =
      copy_claims card (leader card f) c (leader_leads card f h) (one_copy f (leader card f) c (sym (leader_one card f h)) has)

  -- where every copy lies inside, this is what the theory of claims says: no two different elements share a cell
  pub one_class_exactly : AllInside card → OneClassACell card ↔ NoneShare (placed card) (elements card)
  one_class_exactly inside = (
    λ one x y c hx hy s.
        let a = claims_copy card inside x c hx s.one in
        let b = claims_copy card inside y c hy s.other in
        let same = one x y a.combination b.combination (record { 0 = c }) hx hy a.below b.below a.there b.there in
        sym (claims_leads card x c s.one) ∙ same_leader card x y same ∙ claims_leads card y c s.other,
    λ none x y r s c hx hy hr hs e d.
        led_one card x y hx hy
        (none (leader card x) (leader card y) c.0 (leader_element card x hx) (leader_element card y hy) (record {
          one = leader_claims x c.0 hx (record { combination = r; below = hr; there = e });
          other = leader_claims y c.0 hy (record { combination = s; below = hs; there = d });
        })),
  )

  -- a refusal, where some copy lies outside or two elements that are not one share a cell
  demand_3_refused : (after : List ℕ) (r : Refusal) → (AllInside card × OneClassACell card → ⊥) → Demand3 card after (Err r)
  demand_3_refused after r not_so =
      record {
        approved = (λ h. absurd h, not_so);
        owner = λ h. absurd h;
        nobody = λ h. absurd h;
        counts = λ h. absurd h;
      }

  -- the owner of a cell is the smallest element placed there
  module _ (inside : AllInside card) (one : OneClassACell card) (f c : ℕ) where
    claims_smallest : f < elements card → Claims (placed card) f c → SmallestIn card f c
    claims_smallest h k =
        let has = claims_copy card inside f c h k in
        record {
          element = h;
          has = has;
          smallest = λ g hg other.
              let same = one f g has.combination other.combination (record { 0 = c }) h hg has.below other.below has.there other.there in
              (same, omega (arith, claims_leads card f c k, leader_smallest card f g hg same));
        }

    smallest_claims : SmallestIn card f c → Claims (placed card) f c
    smallest_claims s =
        let led = leader_element card f s.element in
        let at = one_copy f (leader card f) c (sym (leader_one card f s.element)) s.has in
        copy_claims card f c (le_antisymm (leader_least card f s.element) (s.smallest (leader card f) led at).1) s.has

  -- an approval, from the owners of the cells
  demand_3_passed : (owners past : List ℕ) (n : ℕ) → AllInside card → Owned (placed card) (elements card) (cells card) owners n
      → Demand3 card (owners ++ past) (approved_with (elements card) n (cells card))
  demand_3_passed owners past n inside a =
      let entry : (c : ℕ) → c < cells card → get_or (owners ++ past) c 0 ≡ get_or owners c 0 =
      λ c h. get_or-append owners past 0 c (omega (arith, a.size)) in
      let nobody : (c : ℕ) → (get_or owners c 0 ≡ 0) ↔ ((f : ℕ) → f < elements card → Claims (placed card) f c → ⊥) =
      nobody_exactly (placed card) (elements card) owners a.owners in
      let one : OneClassACell card = (one_class_exactly inside).1 (owners_none_share (placed card) (elements card) owners a.owners) in
      record {
        approved = (λ h. (inside, one), λ h. tt);
        owner = λ h c f k. (
          λ e. let o = (a.owners f c).0 (sym (entry c k) ∙ e) in claims_smallest inside one f c o.0 o.1,
          λ s. entry c k ∙ (a.owners f c).1 (s.element, smallest_claims inside one f c s),
        );
        nobody = λ h c k. (
          λ e f below has. (nobody c).0 (sym (entry c k) ∙ e) (leader card f) (leader_element card f below) (leader_claims f c below has),
          λ none. entry c k ∙ (nobody c).1 (λ f below has. none f below (claims_copy card inside f c below has)),
        );
        counts = λ h.
            ap (λ (m : ℕ). approved_with (elements card) m (cells card))
            (a.counted ∙ ap occupied (sym (take_at owners past (cells card) a.size)));
      }

-- Demand 3, for a layout whose numbers lie within the limits and which has no two replica combinations with the same sums, and a long enough
-- table: approved exactly when every copy of every element lies in the stated space and no two elements that are not one share a cell; once
-- approved, each cell's owner is the smallest of the one class placed there, or nobody exactly when none is
pub demand_3 : (card : Card) (before after : List ℕ) (verdict : Result Approved Refusal) → admission card ≡ no_refusal → NoIdlePair card.replica
    → cells card ≤ length before → VerdictPromise card before after verdict → Demand3 card after verdict
demand_3 card before after verdict admitted no_pair long p = rw (p.answers, p.leaves) (go p.judgement p.comes)
  where
    go : (j : Judgement) → ComesTo card (length before) j → Demand3 card (table_after card j before) (verdict_of card j)
    go (NotAdmitted r) h = absurd (not_both card h ((admitted_exactly card).1 (admitted, no_pair)))
    go NoRoom h = absurd (omega arith)
    go (OutsideAt flat axis) h = demand_3_refused card admitted _ _ (λ so. inside_not_outside card so.0 h.1)
    go (Clashing x y cell) h =
        demand_3_refused card admitted _ _
        (λ so. clash_shares (placed card) (elements card) x y cell h.2 ((one_class_exactly card admitted so.0).0 so.1))
    go (Passed owners n) h = demand_3_passed card admitted owners (drop (cells card) before) n h.1 h.2

-- without marks: no two different elements share a cell, where a copy of x and a copy of y lie in one cell x is y
abbrev pub OneElementACell : Card → Type 0
OneElementACell card = (x y r s : ℕ) (c : Cell) → x < elements card → y < elements card → r < copies card → s < copies card
    → spot card x r ≡ Inside c → spot card y s ≡ Inside c → x ≡ y

-- demand 3 as document 01 has it, of a card without marks
pub record Demand3Unmarked (card : Card) (after : List ℕ) (verdict : Result Approved Refusal) : Type 0 where
  -- approved exactly when every copy of every element lies in the stated space and no two different elements share a cell
  pub approved : IsApproval verdict ↔ (AllInside card × OneElementACell card)
  -- once approved, each cell's owner is the one element placed there
  pub owner : IsApproval verdict → (c f : ℕ) → c < cells card → (get_or after c 0 ≡ f + 1) ↔ ((f < elements card) × HasCopyIn card f c)
  -- or nobody exactly when none is
  pub nobody : IsApproval verdict → (c : ℕ) → c < cells card → (get_or after c 0 ≡ 0) ↔ ((f : ℕ) → f < elements card → HasCopyIn card f c → ⊥)
  -- and the answer has elements, occupied cells, cells
  pub counts : IsApproval verdict → verdict ≡ approved_with (elements card) (occupied (take (cells card) after)) (cells card)

pub demand_3_unmarked : (card : Card) (before after : List ℕ) (verdict : Result Approved Refusal) → Unmarked card → admission card ≡ no_refusal
    → NoIdlePair card.replica → cells card ≤ length before → VerdictPromise card before after verdict → Demand3Unmarked card after verdict
demand_3_unmarked card before after verdict none admitted no_pair long p =
    let d = demand_3 card before after verdict admitted no_pair long p in
    record {
      approved = (
        λ h. let so = d.approved.0 h in (so.0, λ x y r s c hx hy hr hs e k. one_is_same card none x y hx hy (so.1 x y r s c hx hy hr hs e k)),
        λ so. d.approved.1 (so.0, λ x y r s c hx hy hr hs e k. ap (own_components card) (so.1 x y r s c hx hy hr hs e k)),
      );
      owner = λ h c f k. (
        λ e. let s = (d.owner h c f k).0 e in (s.element, s.has),
        λ o. (d.owner h c f k).1 (record {
          element = o.0;
          has = o.1;
          smallest = λ g hg other.
              let has = o.1 in
              let same =
              (d.approved.0 h).1 f g has.combination other.combination (record { 0 = c }) o.0 hg has.below other.below
              has.there other.there in
              (same, omega (arith, one_is_same card none f g o.0 hg same));
        }),
      );
      nobody = d.nobody;
      counts = d.counts;
    }

-- the first clash of the leaders is the first over all elements
module _ (card : Card) (admitted : admission card ≡ no_refusal) (x y cell : ℕ) (inside : AllInside card)
    (k : FirstClash (placed card) (elements card) x y cell) where
  x_below : x < elements card
  x_below = omega (arith, k.ordered, k.element)

  x_leads : leader card x ≡ x
  x_leads = claims_leads card x cell k.shared.one

  y_leads : leader card y ≡ y
  y_leads = claims_leads card y cell k.shared.other

  led_share : (a b c : ℕ) → a < elements card → b < elements card → ShareCell card a b c → Share (placed card) (leader card a) (leader card b) c
  led_share a b c ha hb s = record { one = leader_claims card admitted a c ha s.one; other = leader_claims card admitted b c hb s.other }

  -- the larger of two leaders that share a cell is not below y
  not_below : (a b c : ℕ) → a < elements card → b < elements card → ShareCell card a b c → a < b → y ≤ b
  not_below a b c ha hb s less =
      let la = leader_least card a ha in
      let lb = leader_least card b hb in
      let both = led_share a b c ha hb s in
      ⊎_elim
      (λ (h : leader card a ≤ leader card b).
      let apart : leader card a ≡ leader card b → ⊥ = λ e. s.not_one (led_one card a b ha hb e) in
      omega (arith, k.smallest_y (leader card a) (leader card b) c (omega (arith, apart)) (leader_element card b hb) both))
      (λ (h : leader card b < leader card a).
      omega (arith, k.smallest_y (leader card b) (leader card a) c h (leader_element card a ha) (record { one = both.other; other = both.one })))
      (le_or_lt (leader card a) (leader card b))

  pub first_shared_lem : FirstShared card x y cell
  first_shared_lem = record {
    element = k.element;
    ordered = k.ordered;
    shared = record {
      one = claims_copy card inside x cell x_below k.shared.one;
      other = claims_copy card inside y cell k.element k.shared.other;
      not_one = λ one. omega (arith, k.ordered, sym x_leads ∙ same_leader card x y one ∙ y_leads);
    };
    smallest_y = λ a b c less hb s. not_below a b c (omega arith) hb s less;
    smallest_x = λ a c ha s.
        omega (
          arith,
          leader_least card a ha,
          k.smallest_x (leader card a) c (rw y_leads at (led_share a y c ha k.element s)),
        );
    smallest_cell = λ c s.
        k.smallest_cell c (rw (x_leads, y_leads) at (led_share x y c x_below k.element s));
  }

-- and the first over all elements is the first clash of the leaders
module _ (card : Card) (admitted : admission card ≡ no_refusal) (x y cell : ℕ) (inside : AllInside card) (k : FirstShared card x y cell) where
  below_x : x < elements card
  below_x = omega (arith, k.ordered, k.element)

  -- two leaders that are one are the same
  leaders_same : (a b : ℕ) → leader card a ≡ a → leader card b ≡ b → AreOne card a b → a ≡ b
  leaders_same a b la lb one = sym la ∙ same_leader card a b one ∙ lb

  moved : (a b c : ℕ) → a < elements card → b < elements card → ShareCell card a b c → ShareCell card (leader card a) (leader card b) c
  moved a b c ha hb s = record {
    one = one_copy card admitted a (leader card a) c (sym (leader_one card a ha)) s.one;
    other = one_copy card admitted b (leader card b) c (sym (leader_one card b hb)) s.other;
    not_one = λ one. s.not_one (sym (leader_one card a ha) ∙ one ∙ leader_one card b hb);
  }

  turned : (a b c : ℕ) → ShareCell card a b c → ShareCell card b a c
  turned a b c s = record { one = s.other; other = s.one; not_one = λ one. s.not_one (sym one) }

  leads_y : leader card y ≡ y
  leads_y =
      let s = moved x y cell below_x k.element k.shared in
      let lx = leader_least card x below_x in
      let ly = leader_least card y k.element in
      ⊎_elim
      (λ (h : leader card x ≤ leader card y).
      let apart : leader card x ≡ leader card y → ⊥ = λ e. s.not_one (ap (own_components card) e) in
      le_antisymm ly (k.smallest_y (leader card x) (leader card y) cell (omega (arith, apart)) (leader_element card y k.element) s))
      (λ (h : leader card y < leader card x).
      absurd (omega (arith, k.ordered, k.smallest_y (leader card y) (leader card x) cell h (leader_element card x below_x) (turned _ _ cell s))))
      (le_or_lt (leader card x) (leader card y))

  leads_x : leader card x ≡ x
  leads_x =
      let s = rw leads_y at (moved x y cell below_x k.element k.shared) in
      le_antisymm (leader_least card x below_x) (k.smallest_x (leader card x) cell (leader_element card x below_x) s)

  -- what two different leaders claim together they share
  claimed_share : (a b c : ℕ) → a < elements card → b < elements card → (a ≡ b → ⊥) → Share (placed card) a b c → ShareCell card a b c
  claimed_share a b c ha hb apart s = record {
    one = claims_copy card inside a c ha s.one;
    other = claims_copy card inside b c hb s.other;
    not_one = λ one. apart (leaders_same a b (claims_leads card a c s.one) (claims_leads card b c s.other) one);
  }

  pub clash_exactly : FirstClash (placed card) (elements card) x y cell
  clash_exactly = record {
    element = k.element;
    ordered = k.ordered;
    shared = record { one = copy_claims card x cell leads_x k.shared.one; other = copy_claims card y cell leads_y k.shared.other };
    smallest_y = λ a b c less hb s.
        k.smallest_y a b c less hb (claimed_share a b c (omega arith) hb (λ e. omega arith) s);
    smallest_x = λ a c s.
        ⊎_elim (λ (h : y ≤ a). omega (arith, k.ordered))
        (λ (h : a < y). k.smallest_x a c (omega (arith, k.element)) (claimed_share a y c (omega (arith, k.element)) k.element (λ e. omega arith) s))
        (le_or_lt y a);
    smallest_cell = λ c s. k.smallest_cell c (claimed_share x y c below_x k.element (λ e. omega (arith, k.ordered)) s);
  }

-- an approval comes of a judgement that all is passed
pub approved_passed : (card : Card) (before after : List ℕ) (verdict : Result Approved Refusal) → VerdictPromise card before after verdict → IsApproval verdict
    → (owners : List ℕ) × (n : ℕ) × ComesTo card (length before) (Passed owners n) × (verdict ≡ approved_with (elements card) n (cells card))
approved_passed card before after verdict p h = go p.judgement p.comes p.answers
  where
    go : (j : Judgement) → ComesTo card (length before) j → verdict ≡ verdict_of card j
        → (owners : List ℕ) × (n : ℕ) × ComesTo card (length before) (Passed owners n) × (verdict ≡ approved_with (elements card) n (cells card))
    go (NotAdmitted r) c e = absurd (subst IsApproval e h)
    go NoRoom c e = absurd (subst IsApproval e h)
    go (OutsideAt flat axis) c e = absurd (subst IsApproval e h)
    go (Clashing x y cell) c e = absurd (subst IsApproval e h)
    go (Passed owners n) c e = (owners, n, c, e)

module _ (card : Card) (before after : List ℕ) (verdict : Result Approved Refusal) (admitted : admission card ≡ no_refusal) (no_pair : NoIdlePair card.replica)
    (long : cells card ≤ length before) (promise : VerdictPromise card before after verdict) where
  demand : Demand3 card after verdict
  demand = demand_3 card before after verdict admitted no_pair long promise

  -- the entry of a cell is an element's leader plus 1 exactly when the element has a copy there: a follower's cells show its leader
  pub owner_leads : IsApproval verdict → (c f : ℕ) → c < cells card → f < elements card → (get_or after c 0 ≡ leader card f + 1) ↔ HasCopyIn card f c
  owner_leads h c f k below = (
    λ e. one_copy card admitted (leader card f) f c (leader_one card f below) ((demand.owner h c (leader card f) k).0 e).has,
    λ has. (demand.owner h c (leader card f) k).1 (record {
      element = leader_element card f below;
      has = one_copy card admitted f (leader card f) c (sym (leader_one card f below)) has;
      smallest = λ g hg other.
          let same =
          (demand.approved.0 h).1 f g has.combination other.combination (record { 0 = c }) below hg has.below other.below
          has.there other.there in
          (leader_one card f below ∙ same, leader_smallest card f g hg same);
    }),
  )

  -- copies of one element are no clash: elements that are all one are approved, wherever in the space their copies lie
  pub copies_no_clash : ((x y : ℕ) → x < elements card → y < elements card → AreOne card x y) → AllInside card → IsApproval verdict
  copies_no_clash all_one inside = demand.approved.1 (inside, λ x y r s c hx hy hr hs e d. all_one x y hx hy)

  -- x, y and the cell of refusal 8, over all elements: y is the smallest that shares a cell with a smaller one that is not one with it, x the smallest
  -- such for y, and the cell the smallest that they share
  pub clash_means : (x y : Flat) (cell : Cell) → verdict ≡ Err (Shared x y cell) → FirstShared card x.0 y.0 cell.0
  clash_means x y cell e = go promise.judgement promise.comes (sym promise.answers ∙ e)
    where
      go : (j : Judgement) → ComesTo card (length before) j → verdict_of card j ≡ Err (Shared x y cell) → FirstShared card x.0 y.0 cell.0
      go (NotAdmitted r) h q = absurd (not_both card h ((admitted_exactly card).1 (admitted, no_pair)))
      go NoRoom h q = absurd (omega arith)
      go (OutsideAt flat axis) h q = absurd (omega (arith, ap (λ v. (verdict_numbers v).number) q))
      go (Clashing a b c) h q =
          let same_x : a ≡ x.0 = ap (λ v. (verdict_numbers v).a) q in
          let same_y : b ≡ y.0 = ap (λ v. (verdict_numbers v).b) q in
          let same_cell : c ≡ cell.0 = ap (λ v. (verdict_numbers v).c) q in
          rw (sym same_x, sym same_y, sym same_cell) (first_shared_lem card admitted a b c h.1 h.2)
      go (Passed owners n) h q = absurd (omega (arith, ap (λ v. (verdict_numbers v).number) q))

  -- 7 is given exactly with the first: the smallest flat of which a copy lies outside the space, and the smallest axis for it
  pub outside_means : (flat : Flat) (axis : ℕ) → (verdict ≡ Err (CopyOutside flat axis)) ↔ FirstOutside card flat.0 axis
  outside_means flat axis = (
    λ e. go promise.judgement promise.comes (sym promise.answers ∙ e),
    λ first.
        promise.answers
        ∙ ap (verdict_of card)
        (judgement_unique card (length before) promise.judgement (OutsideAt flat.0 axis) promise.comes
        (record { admitted = (admitted_exactly card).1 (admitted, no_pair); enough = long }, first)),
  )
    where
      go : (j : Judgement) → ComesTo card (length before) j → verdict_of card j ≡ Err (CopyOutside flat axis) → FirstOutside card flat.0 axis
      go (NotAdmitted r) h q = absurd (not_both card h ((admitted_exactly card).1 (admitted, no_pair)))
      go NoRoom h q = absurd (omega arith)
      go (OutsideAt f a) h q =
          let same_flat : f ≡ flat.0 = ap (λ v. (verdict_numbers v).a) q in
          let same_axis : a ≡ axis = ap (λ v. (verdict_numbers v).b) q in
          rw (sym same_flat, sym same_axis) h.1
      go (Clashing x y cell) h q = absurd (omega (arith, ap (λ v. (verdict_numbers v).number) q))
      go (Passed owners n) h q = absurd (omega (arith, ap (λ v. (verdict_numbers v).number) q))

-- the owner of a cell is the verdict with one entry read, for coordinates that name a cell
pub owner_by_verdict : (card : Card) (coordinates before after : List ℕ) (owner : Result ℕ Refusal) (cell : Cell)
    → asked_spot card coordinates ≡ Inside cell → OwnerPromise card coordinates before after owner
    → (v : Result Approved Refusal) × VerdictPromise card before after v × (owner ≡ read_entry v (get_or after cell.0 0))
owner_by_verdict card coordinates before after owner cell asked p = go p.judgement p.comes p.answers p.leaves
  where
    go : (j : OwnerJudgement) → OwnerComesTo card coordinates (length before) j → owner ≡ owner_of card coordinates j before
        → after ≡ owner_table_after card j before → (v : Result Approved Refusal) × VerdictPromise card before after v × (owner ≡ read_entry v (get_or after cell.0 0))
    go (NoCell axis) h e l = absurd (subst LiesInside (sym asked ∙ h.1) tt)
    go (ByVerdict j) h e l = (
      verdict_of card j,
      record { judgement = j; comes = h.1; answers = refl; leaves = l },
      e ∙ rw (l, ap cell_of asked),
    )

-- pinning the numbers pins the answer
approval : Numbers → Result Approved Refusal
approval n = approved_with n.a n.b n.c

verdict_back : (v : Result Approved Refusal) → read_back approval Err (verdict_numbers v) ≡ v
unfolding approval
verdict_back (Ok approval) = refl
verdict_back (Err r) = refused_back approval Err r

pub verdict_one_to_one : (v w : Result Approved Refusal) → verdict_numbers v ≡ verdict_numbers w → v ≡ w
verdict_one_to_one = pinned approval Err verdict_numbers verdict_back

owner_back : (o : Result ℕ Refusal) → read_back (λ n. Ok n.a) Err (owner_numbers o) ≡ o
owner_back (Ok entry) = refl
owner_back (Err r) = refused_back (λ n. Ok n.a) Err r

pub owner_one_to_one : (o q : Result ℕ Refusal) → owner_numbers o ≡ owner_numbers q → o ≡ q
owner_one_to_one = pinned (λ n. Ok n.a) Err owner_numbers owner_back
