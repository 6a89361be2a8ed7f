-- Each kind's card is placed and judged as PTX's rule says: that it is admitted is computed, kind by kind; that every cell has one owner follows from
-- the registers' being one-to-one with the places.
use Rattle.std.specs.Prelude.{Result, ⊤, Err, Ok}
use mathlib.Core.Path.{◌≡◌, refl, sym, ap, ◌∙◌, subst}
use mathlib.Core.Bool.{Bool, true, false, ◌&&◌, ◌||◌, not, true≢false, and-eq-true_iff}
use mathlib.Core.Logic.{◌↔◌}
use mathlib.Core.List.{List, [], ◌∷◌}
use Prim.Native.Nat.{ℕ, zero, suc, ◌+◌, ◌-◌, ◌*◌, ◌/◌, ◌%◌, ◌≤◌, ◌<◌}
use native.Mathlib.Nat.{mod-one}
use native.Mathlib.Decide.{dec_lt}
use native.Mathlib.Omega.{arith}
use borrow.Author.Tests.{eqb-true, le-leb, leb-true, lt-ltb, ltb-true}
use lib.Dec.{eqb, leb, ltb}
use lib.ListN.{length, get_or, take, drop, replicate, get_or-eq_default}
use Rattle.answers.specs.Refusals.{no_refusal}
use Rattle.judgement.specs.declared.Approved.{Approved}
use Rattle.answers.specs.declared.Refusal.{Refusal}
use Rattle.laws.proofs.Below.{below, below_at}
use Rattle.laws.proofs.Rungs.{apart}
use Rattle.laws.proofs.Tests.{three_of}
use Rattle.answers.specs.declared.Cell.{Cell}
use Rattle.card.specs.Lists.{product}
use Rattle.card.specs.Card.{elements, cells}
use Rattle.card.specs.Admission.{admission}
use Rattle.card.specs.declared.Card.{Card}
use Rattle.rules.specs.RowMajor.{row_major, components, inside}
use Rattle.rules.specs.Rules.{coordinates, spot}
use Rattle.rules.specs.Copies.{copy_cells, outside_axis, cell_of}
use Rattle.rules.specs.Reuse.{Unmarked}
use Rattle.rules.specs.declared.Spot.TheVariants.{Inside}
use Rattle.rules.proofs.RowMajor.{components_inside, components_give_back}
use Rattle.rules.proofs.Spots.{cell_below, cells_equal}
use Rattle.rules.proofs.Whole.{inside_each}
use Rattle.idle.specs.Run.{pair_of}
use Rattle.idle.specs.Admission.{full_admission}
use Rattle.idle.proofs.Theorems.{admitted_exactly}
use Rattle.placement_judged.specs.Placement.{shape_admitted, coordinates_fit, placement_answer, placement_memory, Placing}
use Rattle.placement_judged.proofs.Theorems.{flatten_below}
use Rattle.claims.specs.Claims.{occupied}
use Rattle.judgement.specs.Judgement.{LiesInside, AllInside}
use Rattle.judgement.specs.Verdict.{VerdictPromise, approved_with}
use Rattle.judgement.proofs.Theorems.{IsApproval, OneElementACell, Demand3Unmarked, demand_3_unmarked}
use Rattle.canonical_approval.proofs.Onto.{all_taken}
use Rattle.mma_kinds.specs.declared.MmaPlace.{MmaPlace}
use Rattle.mma_kinds.specs.declared.MmaSlot.{MmaSlot}
use Rattle.mma_kinds.specs.Kinds.{mma_at, kind_table, no_kind, is_accumulator, accumulator, kinds_by_number, kind_of}
use Rattle.mma_kinds.specs.Layouts.{mma_lengths, mma_card, mma_shape, mma_coordinates, mma_element, mma_cell}
use Rattle.mma_kinds.specs.Mma.{is_mma_slot, is_mma_place, is_kind, mma_place}
use Rattle.mma_kinds.proofs.Placed.{slot_coordinates, slot_spot}
use Rattle.mma_kinds.proofs.Back.{back, slot_back, place_back}

abbrev is_admitted : Result ⊤ Refusal → Bool
is_admitted (Ok _) = true
is_admitted (Err refusal) = false

admitted_is : (a : Result ⊤ Refusal) → is_admitted a ≡ true → a ≡ no_refusal
admitted_is (Ok _) e = refl
admitted_is (Err refusal) e = absurd (apart (cc))

-- the test of a number: where it is a kind, its card is admitted, its shape is one of the card's elements, and there are as many elements as cells
abbrev kind_fits : ℕ → Bool
kind_fits kind =
    is_admitted (full_admission (mma_card kind)) && shape_admitted (mma_shape kind) (elements (mma_card kind)) && eqb (elements (mma_card kind)) (cells (mma_card kind))

abbrev fits_or_none : ℕ → Bool
fits_or_none kind = not (is_kind kind) || kind_fits kind

-- the table's numbers, and those of the accumulators
table_fits : below fits_or_none (length kinds_by_number) ≡ true
unfolding kind_table kind_of admission pair_of full_admission
table_fits = refl

accumulators_fit : below (λ n. kind_fits (1008 + 8 * n)) 32 ≡ true
unfolding kind_table kind_of admission pair_of full_admission
accumulators_fit = refl

pub record KindFits (kind : ℕ) : Type 0 where
  pub admitted : full_admission (mma_card kind) ≡ no_refusal
  pub shaped : shape_admitted (mma_shape kind) (elements (mma_card kind)) ≡ true
  pub as_many : elements (mma_card kind) ≡ cells (mma_card kind)

fits_then : (kind : ℕ) → kind_fits kind ≡ true → KindFits kind
fits_then kind e =
    let t = three_of (is_admitted (full_admission (mma_card kind))) (shape_admitted (mma_shape kind) (elements (mma_card kind))) _ e in
    record {
      admitted = admitted_is (full_admission (mma_card kind)) t.0;
      shaped = t.1;
      as_many = eqb-true (elements (mma_card kind)) (cells (mma_card kind)) t.2;
    }

-- a number that is a kind is an accumulator's or one of the table's
pub past_the_rows : (kind : ℕ) → is_accumulator kind ≡ false → length kinds_by_number ≤ kind → is_kind kind ≡ false
unfolding kind_of
past_the_rows kind e many = rw (e, get_or-eq_default kinds_by_number no_kind many)

pub kind_facts : (kind : ℕ) → is_kind kind ≡ true → KindFits kind
kind_facts kind known = split (is_accumulator kind) refl
  where
    second : (a b : Bool) → (not a || b) ≡ true → a ≡ true → b ≡ true
    second true b e h = e
    second false b e h = absurd (apart (cc))

    split : (b : Bool) → is_accumulator kind ≡ b → KindFits kind
    split true e =
        let t = three_of _ _ _ e in
        let least = leb-true 1008 kind t.0 in
        let most = leb-true kind _ t.1 in
        let whole = eqb-true (kind % 8) 0 t.2 in
        let n : ℕ = (kind - 1008) / 8 in
        let same : 1008 + 8 * n ≡ kind = omega (arith, least, whole) in
        subst KindFits same (fits_then (1008 + 8 * n) (below_at (λ m. kind_fits (1008 + 8 * m)) 32 accumulators_fit n (omega (arith, most))))
    split false e =
        elim (dec_lt kind (length kinds_by_number)) [
          | yes few ↦ fits_then kind (second (is_kind kind) (kind_fits kind) (below_at fits_or_none (length kinds_by_number) table_fits kind few) known)
          | no many ↦ absurd (true≢false (sym known ∙ past_the_rows kind e (omega (arith, many))))
        ]

module _ (kind : ℕ) where
  coordinates_fit_lem : (p : MmaPlace) → is_mma_place kind p ≡ true → coordinates_fit (mma_shape kind) (mma_coordinates p) ≡ true
  coordinates_fit_lem p e =
      let t = three_of (ltb p.matrix (kind_of kind).matrices) (ltb p.row (kind_of kind).rows) (ltb p.column (kind_of kind).columns) e in
      rw (t.0, t.1, t.2)

  -- a register is one of a kind
  slot_of_kind : (warp lane i : ℕ) → is_mma_slot kind warp lane i ≡ true → is_kind kind ≡ true
  slot_of_kind warp lane i e =
      let t = three_of (ltb warp (kind_of kind).warps) (ltb lane 32) (ltb i (kind_of kind).registers) e in
      lt-ltb 0 (kind_of kind).registers (omega (arith, ltb-true i (kind_of kind).registers t.2))

  -- placing what a register holds, its matrix, row and column in the kind's shape, gives one copy, in that warp, lane and register
  pub mma_is_layout : (warp lane i : ℕ) → is_mma_slot kind warp lane i ≡ true → (before after : List ℕ) (p : Result ℕ Refusal) → 1 ≤ length before
      → Placing (mma_card kind) (mma_shape kind) (mma_coordinates (mma_place kind warp lane i)) before after p
      → (p ≡ Ok 1) × (after ≡ mma_cell kind warp lane i ∷ drop 1 before)
  unfolding placement_answer placement_memory copy_cells outside_axis
  mma_is_layout warp lane i e before after p room placing =
      let k = kind_facts kind (slot_of_kind warp lane i e) in
      let fits = coordinates_fit_lem (mma_place kind warp lane i) (slot_back kind warp lane i e).0 in
      let there = slot_spot kind warp lane i e 0 in (
        placing.answer_is ∙ rw (k.admitted, k.shaped, fits, le-leb 1 (length before) room, there),
        placing.memory_is ∙ rw (k.admitted, k.shaped, fits, le-leb 1 (length before) room, there),
      )

  -- each element is held by a register
  element_held : (flat : ℕ) → is_kind kind ≡ true → flat < elements (mma_card kind)
      → (s : MmaSlot) × (is_mma_slot kind s.warp s.lane s.register ≡ true) × (mma_element kind (mma_place kind s.warp s.lane s.register) ≡ flat)
  element_held flat known h =
      let sizes : List ℕ = (kind_of kind).matrices ∷ (kind_of kind).rows ∷ (kind_of kind).columns ∷ [] in
      let all : product sizes ≡ elements (mma_card kind) = eqb-true (product sizes) (elements (mma_card kind)) (kind_facts kind known).shaped in
      let below : flat < product sizes = subst (λ (n : ℕ). flat < n) (sym all) h in
      let cs = components sizes flat in
      let p = mma_at (get_or cs 0 0) (get_or cs 1 0) (get_or cs 2 0) in
      let each = inside_each sizes cs (components_inside sizes flat (omega (arith, below))) in
      let there : is_mma_place kind p ≡ true =
      rw (
        lt-ltb (get_or cs 0 0) (kind_of kind).matrices (each 0 (omega arith)),
        lt-ltb (get_or cs 1 0) (kind_of kind).rows (each 1 (omega arith)),
        lt-ltb (get_or cs 2 0) (kind_of kind).columns (each 2 (omega arith)),
      ) in
      let b = place_back kind p there in
      (back kind p, b.0, ap (mma_element kind) b.1 ∙ components_give_back sizes flat below)

  -- each cell is that of a register
  cell_held : (c : ℕ) → c < cells (mma_card kind)
      → (s : MmaSlot) × (is_mma_slot kind s.warp s.lane s.register ≡ true) × (mma_cell kind s.warp s.lane s.register ≡ c)
  cell_held c h =
      let sizes : List ℕ = mma_lengths kind in
      let cs = components sizes c in
      let each = inside_each sizes cs (components_inside sizes c (omega (arith, h))) in
      let s : MmaSlot = record { warp = get_or cs 1 0; lane = get_or cs 2 0; register = get_or cs 7 0 } in
      let there : is_mma_slot kind s.warp s.lane s.register ≡ true =
      rw (
        lt-ltb (get_or cs 1 0) (kind_of kind).warps (each 1 (omega arith)),
        lt-ltb (get_or cs 2 0) 32 (each 2 (omega arith)),
        lt-ltb (get_or cs 7 0) (kind_of kind).registers (each 7 (omega arith)),
      ) in
      let zero_at : (k : ℕ) → get_or sizes k 0 ≡ 1 → k < 8 → 0 ≡ get_or cs k 0 =
      λ k one small. let low = each k small in omega (arith, one, low) in (
        s,
        there,
        (λ j. row_major sizes (zero_at 0 refl (omega arith) j ∷ s.warp ∷ s.lane ∷ zero_at 3 refl (omega arith) j ∷ zero_at 4 refl (omega arith) j ∷ zero_at 5 refl (omega arith) j ∷ zero_at 6 refl (omega arith) j ∷ s.register ∷ []))
            ∙ components_give_back sizes c h,
      )

  -- so every copy lies inside, and no two elements share a cell
  all_inside : is_kind kind ≡ true → AllInside (mma_card kind)
  all_inside known flat r h hr =
      let s = element_held flat known h in
      subst (λ (n : ℕ). LiesInside (spot (mma_card kind) n r)) s.2 (rw (slot_spot kind s.0.warp s.0.lane s.0.register s.1 r) tt)

  one_a_cell : is_kind kind ≡ true → OneElementACell (mma_card kind)
  one_a_cell known x y r q c hx hy hr hq e d =
      let s = element_held x known hx in
      let t = element_held y known hy in
      let same = (cells_equal (mma_card kind) x r y q c c e d).0 refl in
      let xs = slot_coordinates kind s.0.warp s.0.lane s.0.register s.1 r in
      let ys = slot_coordinates kind t.0.warp t.0.lane t.0.register t.1 q in
      let both = sym xs ∙ ap (λ (n : ℕ). coordinates (mma_card kind) n r) s.2 ∙ same ∙ ap (λ (n : ℕ). coordinates (mma_card kind) n q) (sym t.2) ∙ ys in
      sym s.2 ∙ (λ j. mma_element kind (mma_place kind (get_or (both j) 1 0) (get_or (both j) 2 0) (get_or (both j) 7 0))) ∙ t.2

-- a kind's card has no marks
unmarked : (kind : ℕ) → Unmarked (mma_card kind)
unmarked kind k h = none_in (mma_card kind).shard.count 8 k
  where
    none_in : (n m k : ℕ) → get_or (take n (replicate m false)) k false ≡ false
    none_in zero m k = refl
    none_in (suc n) zero k = refl
    none_in (suc n) (suc m) zero = refl
    none_in (suc n) (suc m) (suc k) = none_in n m k

pub record MmaOwnersByRule (kind : ℕ) (after : List ℕ) (verdict : Result Approved Refusal) : Type 0 where
  -- as many elements as cells, and every cell is occupied
  pub approved : verdict ≡ approved_with (cells (mma_card kind)) (cells (mma_card kind)) (cells (mma_card kind))
  -- the owner of a register's cell is what the register holds
  pub owners : (warp lane i : ℕ) → is_mma_slot kind warp lane i ≡ true → get_or after (mma_cell kind warp lane i) 0 ≡ mma_element kind (mma_place kind warp lane i) + 1

-- whatever the promise of the verdict on a kind's card allows is this approval
pub mma_approved : (kind : ℕ) → is_kind kind ≡ true → (before after : List ℕ) (verdict : Result Approved Refusal) → cells (mma_card kind) ≤ length before
    → VerdictPromise (mma_card kind) before after verdict → MmaOwnersByRule kind after verdict
mma_approved kind known before after verdict room promise =
    let card = mma_card kind in
    let k = kind_facts kind known in
    let free = (admitted_exactly card).0 k.admitted in
    let demand = demand_3_unmarked card before after verdict (unmarked kind) free.0 free.1 room promise in
    let approval = demand.approved.1 (all_inside kind known, one_a_cell kind known) in
    let owners : (warp lane i : ℕ) → is_mma_slot kind warp lane i ≡ true → get_or after (mma_cell kind warp lane i) 0 ≡ mma_element kind (mma_place kind warp lane i) + 1 =
    λ warp lane i e.
    let there = slot_spot kind warp lane i e 0 in
    (demand.owner approval (mma_cell kind warp lane i) (mma_element kind (mma_place kind warp lane i))
    (cell_below card (mma_element kind (mma_place kind warp lane i)) 0 (record { 0 = mma_cell kind warp lane i }) there)
    ).1 (
      flatten_below (mma_shape kind) (mma_coordinates (mma_place kind warp lane i)) (elements card) k.shaped (coordinates_fit_lem kind (mma_place kind warp lane i) (slot_back kind warp lane i e).0),
      record { combination = 0; below = omega arith; there = there },
    ) in
    let full : occupied (take (cells card) after) ≡ cells card =
    all_taken (cells card) after (λ c h empty.
    let s = cell_held kind c h in
    let owned = owners s.0.warp s.0.lane s.0.register s.1 in
    let entry : get_or after (mma_cell kind s.0.warp s.0.lane s.0.register) 0 ≡ 0 = ap (λ (n : ℕ). get_or after n 0) s.2 ∙ empty in
    omega (arith, owned, entry)) in
    record {
      approved = demand.counts approval ∙ (λ j. approved_with (k.as_many j) (full j) (cells card));
      owners = owners;
    }
