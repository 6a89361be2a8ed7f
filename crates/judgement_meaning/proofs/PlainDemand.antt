-- Demand 3 without a definition that tests: the limits as inequalities, copies by their finished coordinates, which are whole numbers, and cells as their row-major
-- numbers; by what admitted, inside and one cell mean exactly.
use Rattle.std.specs.Prelude.{Result}
use mathlib.Core.Path.{◌≡◌, refl, sym, ap, ◌∙◌}
use mathlib.Core.Logic.Iff
use mathlib.Core.Logic.{◌↔◌}
use mathlib.Core.List.{List}
use Prim.Native.Nat.{ℕ, ◌+◌, ◌≤◌, ◌<◌}
use lib.IntN.{pos}
use lib.ListN.{length, get_or, take}
use Rattle.answers.specs.declared.Refusal.{Refusal}
use Rattle.judgement.specs.declared.Approved.{Approved}
use Rattle.answers.specs.declared.Cell.{Cell}
use Rattle.card.specs.Card.{elements, copies, cells}
use Rattle.card.specs.declared.Card.{Card}
use Rattle.card.proofs.Within.{WithinLimits, within_limits_exactly}
use Rattle.rules.specs.Rules.{finished, spot}
use Rattle.rules.specs.Copies.{cell_of}
use Rattle.rules.specs.Reuse.{AreOne}
use Rattle.rules.specs.declared.Spot.{Spot}
use Rattle.rules.specs.declared.Spot.TheVariants.{Inside, Outside}
use Rattle.rules.proofs.CellNumber.{LiesOn, InCell, inside_exactly, outside_exactly, same_cell_exactly}
use Rattle.idle.specs.Idle.{NoIdlePair}
use Rattle.claims.specs.Claims.{occupied}
use Rattle.judgement.specs.Judgement.{LiesInside, AllInside}
use Rattle.judgement.specs.Verdict.{VerdictPromise, asked_spot, OwnerPromise, approved_with}
use Rattle.judgement.specs.Plain.{OneClassACell, HasCopyIn, SmallestIn, VerdictSays}
use Rattle.judgement.proofs.Run.{lies_inside}
use Rattle.judgement.proofs.Theorems.{IsApproval, Demand3, demand_3}
use Rattle.judgement.proofs.Plain.{verdict_exactly}
use Rattle.judgement.proofs.OwnerDemand.{OwnerDemand3, demand_3_owner}

-- demand 3 of a card whose numbers lie within the limits, by their inequalities
pub demand_3_within : (card : Card) (before after : List ℕ) (verdict : Result Approved Refusal) → WithinLimits card → NoIdlePair card.replica
    → cells card ≤ length before → VerdictPromise card before after verdict → Demand3 card after verdict
demand_3_within card before after verdict within = demand_3 card before after verdict ((within_limits_exactly card).1 within)

pub demand_3_owner_within : (card : Card) (coordinates before after : List ℕ) (owner : Result ℕ Refusal) (cell : Cell) → WithinLimits card
    → NoIdlePair card.replica → cells card ≤ length before → asked_spot card coordinates ≡ Inside cell
    → OwnerPromise card coordinates before after owner → OwnerDemand3 card cell.0 owner
demand_3_owner_within card coordinates before after owner cell within =
    demand_3_owner card coordinates before after owner cell ((within_limits_exactly card).1 within)

-- every finished coordinate of every copy of every element lies from 0 to below its length
abbrev pub AllLie : Card → Type 0
AllLie card = (flat combination axis : ℕ) → flat < elements card → combination < copies card → axis < 8 → LiesOn card flat combination axis

-- two elements of which a copy each has the same finished coordinates are one
abbrev pub NoneMeet : Card → Type 0
NoneMeet card = (x y r s : ℕ) → x < elements card → y < elements card → r < copies card → s < copies card
    → ((axis : ℕ) → axis < 8 → get_or (finished card x r) axis (pos 0) ≡ get_or (finished card y s) axis (pos 0)) → AreOne card x y

-- element f is placed in cell c: a copy of it has coordinates inside the space, and c is their number
pub record PlacedIn (card : Card) (f c : ℕ) : Type 0 where
  pub combination : ℕ
  pub below : combination < copies card
  pub there : InCell card f combination c

-- f is the smallest of the elements placed in cell c, which are all one with it
pub record SmallestPlaced (card : Card) (f c : ℕ) : Type 0 where
  pub element : f < elements card
  pub has : PlacedIn card f c
  pub smallest : (g : ℕ) → g < elements card → PlacedIn card g c → AreOne card f g × (f ≤ g)

pub record PlainDemand3 (card : Card) (after : List ℕ) (verdict : Result Approved Refusal) : Type 0 where
  -- approved exactly when every coordinate of every copy lies within its length and no two elements that are not one meet
  pub approved : IsApproval verdict ↔ (AllLie card × NoneMeet card)
  -- once approved, each cell's owner is the smallest of the one class placed there
  pub owner : IsApproval verdict → (c f : ℕ) → c < cells card → (get_or after c 0 ≡ f + 1) ↔ SmallestPlaced card f c
  -- or nobody exactly when none is
  pub nobody : IsApproval verdict → (c : ℕ) → c < cells card → (get_or after c 0 ≡ 0) ↔ ((f : ℕ) → f < elements card → PlacedIn card f c → ⊥)
  -- and the answer has elements, occupied cells, cells
  pub counts : IsApproval verdict → verdict ≡ approved_with (elements card) (occupied (take (cells card) after)) (cells card)

-- the same words over where copies go
module _ (card : Card) (eight : length card.lengths ≡ 8) (within : WithinLimits card) where
  in_cell : (flat combination : ℕ) (cell : Cell) → (spot card flat combination ≡ Inside cell) ↔ InCell card flat combination cell.0
  in_cell = inside_exactly card eight within.space

  pub all_lie_exactly : AllInside card ↔ AllLie card
  all_lie_exactly = (
    λ inside f r axis hf hr h.
        ((in_cell f r (record { 0 = cell_of (spot card f r) })).0 (lies_inside (spot card f r) (inside f r hf hr))).each axis h,
    λ all f r hf hr. split f r (λ axis h. all f r axis hf hr h) (spot card f r) refl,
  )
    where
      split : (f r : ℕ) → ((axis : ℕ) → axis < 8 → LiesOn card f r axis) → (s : Spot) → spot card f r ≡ s → LiesInside s
      split f r on (Inside cell) e = tt
      split f r on (Outside axis) e = let o = (outside_exactly card eight within.space f r axis).0 e in o.off (on axis o.an_axis)

  pub none_meet_exactly : AllLie card → OneClassACell card ↔ NoneMeet card
  none_meet_exactly all =
      let inside = all_lie_exactly.1 all in
      let at : (f r : ℕ) → f < elements card → r < copies card → spot card f r ≡ Inside (record { 0 = cell_of (spot card f r) }) =
      λ f r hf hr. lies_inside (spot card f r) (inside f r hf hr) in (
        λ one x y r s hx hy hr hs same.
            let cell = (same_cell_exactly card eight within.space x r y s _ _ (at x r hx hr) (at y s hy hs)).1 same in
            one x y r s (record { 0 = cell_of (spot card x r) }) hx hy hr hs (at x r hx hr) (at y s hy hs ∙ ap Inside (sym cell)),
        λ none x y r s c hx hy hr hs e d. none x y r s hx hy hr hs ((same_cell_exactly card eight within.space x r y s c c e d).0 refl),
      )

  pub placed_exactly : (f c : ℕ) → HasCopyIn card f c ↔ PlacedIn card f c
  placed_exactly f c = (
    λ h. record { combination = h.combination; below = h.below; there = (in_cell f h.combination (record { 0 = c })).0 h.there },
    λ h. record { combination = h.combination; below = h.below; there = (in_cell f h.combination (record { 0 = c })).1 h.there },
  )

  smallest_exactly : (f c : ℕ) → SmallestIn card f c ↔ SmallestPlaced card f c
  smallest_exactly f c = (
    λ s.
        record { element = s.element; has = (placed_exactly f c).0 s.has; smallest = λ g hg other. s.smallest g hg ((placed_exactly g c).1 other) },
    λ s.
        record { element = s.element; has = (placed_exactly f c).1 s.has; smallest = λ g hg other. s.smallest g hg ((placed_exactly g c).0 other) },
  )

-- Demand 3 in these words: every count, extent, stride, offset, axis, length, product and M, B, S within its limits, no two replica combinations with the same
-- sums, and a long enough table
pub demand_3_plain : (card : Card) (before after : List ℕ) (verdict : Result Approved Refusal) → length card.lengths ≡ 8 → WithinLimits card
    → NoIdlePair card.replica → cells card ≤ length before → VerdictSays card before after verdict → PlainDemand3 card after verdict
demand_3_plain card before after verdict eight within no_pair long says =
    let d = demand_3_within card before after verdict within no_pair long ((verdict_exactly card before after verdict).0 says) in
    let lie = all_lie_exactly card eight within in
    record {
      approved = (
        λ h. let so = d.approved.0 h in let all = lie.0 so.0 in (all, (none_meet_exactly card eight within all).0 so.1),
        λ so. d.approved.1 (lie.1 so.0, (none_meet_exactly card eight within so.0).1 so.1),
      );
      owner = λ h c f k. Iff.trans (d.owner h c f k) (smallest_exactly card eight within f c);
      nobody = λ h c k. (
        λ e f below has. (d.nobody h c k).0 e f below ((placed_exactly card eight within f c).1 has),
        λ none. (d.nobody h c k).1 (λ f below has. none f below ((placed_exactly card eight within f c).0 has)),
      );
      counts = d.counts;
    }
