-- Which canonical layouts are approved. But for `K_too_wide` and `K_swizzled_exactly`, which say where one is not, the conditions are sufficient and not
-- necessary: strides of rows and columns that interleave without a clash are not described.
use Rattle.std.specs.Prelude.{Result, ⊤, Ok, Err}
use mathlib.Core.Path.{◌≡◌, refl, sym, ap, subst, ◌∙◌}
use mathlib.Core.Logic.{◌↔◌, ⊎_elim}
use mathlib.Core.Bool.{Bool, true, false, not, ◌&&◌, ◌||◌, and-eq-true_iff}
use mathlib.Core.List.{List, [], ◌∷◌}
use Prim.Native.Nat.{ℕ, zero, suc, ◌+◌, ◌-◌, ◌*◌, ◌/◌, ◌%◌, ◌^◌, ◌≤◌, ◌<◌}
use native.Mathlib.Nat.{mul-le-mul_right, mul-one, le_refl, le_of_eq, mul_comm}
use native.Mathlib.Omega.{arith}
use borrow.Author.Tests.{leb-true, eqb-true}
use lib.Count.{count_leading_zeros}
use lib.Dec.{leb}
use lib.ListN.{length, get_or, take, replicate}
use lib.Pow.{pow-add, pow_pos}
use Rattle.answers.specs.Refusals.{no_refusal}
use Rattle.answers.specs.declared.Refusal.{Refusal}
use Rattle.swizzle.specs.Swizzle.{permitted, swizzled}
use Rattle.swizzle.specs.Mode.{known_bits, bit_length, swizzle_of_mode}
use Rattle.swizzle.proofs.Widths.{at_known_bits, known_parts}
use Rattle.swizzle.proofs.Theorems.{demand_3_swizzle, mode_permitted}
use Rattle.card.specs.Lists.{within}
use Rattle.card.specs.Card.{marks_of, elements, cells}
use Rattle.card.specs.Admission.{counts_fit, axes_fit, swizzle_fits, admission}
use Rattle.rules.specs.RowMajor.{row_major, components, inside, position}
use Rattle.rules.specs.Rules.{spot_at, spot}
use Rattle.rules.specs.Copies.{cell_of}
use Rattle.rules.specs.declared.Spot.TheVariants.{Inside}
use Rattle.rules.proofs.RowMajor.{row_major_below}
use Rattle.rules.proofs.Reuse.{components_back}
use Rattle.rules.specs.Reuse.{Unmarked}
use Rattle.idle.specs.Idle.{NoIdlePair}
use Rattle.idle.proofs.Theorems.{admitted_exactly}
use Rattle.judgement.specs.Judgement.{AllInside, Judgement, NotAdmitted, NoRoom, OutsideAt, Clashing, Passed, Judged, ComesTo}
use Rattle.judgement.specs.Verdict.{verdict_of, approved_with}
use Rattle.judgement.proofs.Run.{lies_inside}
use Rattle.judgement.proofs.Theorems.{IsApproval, OneElementACell, demand_3_unmarked}
use Rattle.judgement.proofs.Plain.{verdict_exactly}
use Rattle.laws.proofs.Order.{le_or_lt}
use Rattle.claims.specs.Claims.{occupied}
use Rattle.canonical.specs.Rule.{is_k, plain, pieces, uses_lbo, across_rows, across_columns}
use Rattle.canonical.specs.Canonical.{stride_fits, checked, in_elements, canonical_card, PromiseBy, CanonicalPromise}
use Rattle.canonical.specs.declared.Canonical.{Canonical}
use Rattle.canonical.specs.declared.Reported.{Reported}
use Rattle.canonical.proofs.Theorems.{checks_passed}
use Rattle.canonical_approval.specs.Nested.{Digit, ◌by◌, value, sizes, top, Nested, StridesPacked}
use Rattle.canonical_approval.proofs.OnM.{space, at_m, position_at, Lies, address, moved, spot_on}
use Rattle.canonical_approval.proofs.Approved.{stays_below, its_elements, its_inside, all_inside, one_a_cell, nested_under, nested_once}
use Rattle.canonical_approval.proofs.Turned.{four_inside, third_first, third_back, third_inside, fourth_first, fourth_back, fourth_inside, fourth_back_inside, four_sum, five_sum, swap_inside, third_second, fourth_second, four_swapped, five_swapped}
use Rattle.canonical_approval.proofs.Onto.{packed_nested, decoded, onto, all_taken}

-- T elements are 2^M of them
pub T_power : (bits : ℕ) → known_bits bits ≡ true → 2 ^ (bit_length (128 / bits) - 1) ≡ 128 / bits
unfolding bit_length count_leading_zeros
T_power = at_known_bits (λ n. 2 ^ (bit_length (128 / n) - 1) ≡ 128 / n) refl refl refl refl refl refl

-- no iter is marked, and no element has a second copy
none_marked : (n k : ℕ) → get_or (replicate n false) k false ≡ false
none_marked zero k = refl
none_marked (suc n) zero = refl
none_marked (suc n) (suc k) = none_marked n k

module _ (a : Canonical) where
  abbrev T : ℕ
  T = 128 / a.bits

  -- the swizzle's width, of which eight make a block
  abbrev pub wide : ℕ
  wide = pieces a.mode * T

  abbrev pub rows : ℕ
  rows = across_rows a.major a.mode (in_elements a.bits a.lbo) (in_elements a.bits a.sbo)

  abbrev pub columns : ℕ
  columns = across_columns a.major a.mode T (in_elements a.bits a.lbo) (in_elements a.bits a.sbo)

  -- the digits of the card, as its shard has them
  abbrev pub digits_k : List Digit
  digits_k = a.m by rows ∷ 8 by wide ∷ (2 * a.k) by columns ∷ T by 1 ∷ []

  abbrev pub digits_mn : List Digit
  digits_mn = a.m by rows ∷ pieces a.mode by T ∷ T by 1 ∷ a.k by columns ∷ 8 by wide ∷ []

  lies_K : is_k a.major ≡ true → Lies (canonical_card a) digits_k a.length
  lies_K e = record { its_shard = rw e; its_replica = refl; its_offset = refl; its_lengths = refl }

  lies_MN : is_k a.major ≡ false → Lies (canonical_card a) digits_mn a.length
  lies_MN e = record { its_shard = rw e; its_replica = refl; its_offset = refl; its_lengths = refl }

  unmarked : Unmarked (canonical_card a)
  unmarked k h = by_major (is_k a.major) refl
    where
      by_major : (b : Bool) → is_k a.major ≡ b → get_or (marks_of (canonical_card a)) k false ≡ false
      by_major true e = rw e (none_marked 4 k)
      by_major false e = rw e (none_marked 5 k)

  no_pair : NoIdlePair (canonical_card a).replica
  no_pair x y h k same = omega (arith, h, k)

  -- an admitted card with room for its cells is approved exactly when all lies inside and no two elements share a cell
  pub approved_exactly : (before after : List ℕ) (r : Reported) → checked a ≡ no_refusal → admission (canonical_card a) ≡ no_refusal → a.length ≤ length before
      → CanonicalPromise a before after r → IsApproval r.verdict ↔ (AllInside (canonical_card a) × OneElementACell (canonical_card a))
  approved_exactly before after r passed admitted room p =
      let q = subst (λ (c : Result ⊤ Refusal). PromiseBy c a before after r) passed p in
      (demand_3_unmarked (canonical_card a) before after r.verdict unmarked admitted no_pair (omega arith)
      ((verdict_exactly (canonical_card a) before after r.verdict).0 q.0)).approved

  -- a block of the swizzle is as long as it is wide
  block : known_bits a.bits ≡ true → 2 ^ (bit_length (128 / a.bits) - 1 + a.mode) ≡ wide
  block k =
      pow-add 2 (bit_length (128 / a.bits) - 1) a.mode
      ∙ ap (λ (n : ℕ). n * 2 ^ a.mode) (T_power a.bits k)
      ∙ mul_comm T (2 ^ a.mode)

  its_swizzle : checked a ≡ no_refusal → permitted (bit_length (128 / a.bits) - 1) a.mode 3 ≡ true
  its_swizzle passed =
      mode_permitted a.bits a.mode (swizzle_of_mode a.bits a.mode) (rw (checks_passed a passed).0)

  -- checks 1, 3, 6 and 17 are always passed: of the verdict's refusals only 2, 4, 5, 11, 7 and 8 can come
  pub others_passed : checked a ≡ no_refusal
      → (counts_fit (canonical_card a) ≡ true) × (axes_fit (canonical_card a) ≡ true) × (swizzle_fits (canonical_card a) ≡ true) × NoIdlePair (canonical_card a).replica
  others_passed passed = (counts (is_k a.major) refl, axes (is_k a.major) refl, its_swizzle passed, no_pair)
    where
      counts : (b : Bool) → is_k a.major ≡ b → counts_fit (canonical_card a) ≡ true
      counts true e = rw e refl
      counts false e = rw e refl

      axes : (b : Bool) → is_k a.major ≡ b → axes_fit (canonical_card a) ≡ true
      axes true e = rw e refl
      axes false e = rw e refl

  -- what is asked is passed on to a verdict: the checks, the card's own and the table's length are passed, and the length is a multiple of the width
  pub record PassedOn (before : List ℕ) : Type 0 where
    pub passed : checked a ≡ no_refusal
    pub admitted : admission (canonical_card a) ≡ no_refusal
    pub room : a.length ≤ length before
    pub whole : a.length % wide ≡ 0

  -- where some order of the digits is nested, the layout is approved
  module _ (ds : List Digit) (lies : Lies (canonical_card a) ds a.length) (before after : List ℕ) (r : Reported) (on : PassedOn before) (promise : CanonicalPromise a before after r) where
    by_nesting : (es : List Digit) (turn : List ℕ → List ℕ) → Nested es → top es ≤ a.length
        → ((x : ℕ) → x < elements (canonical_card a) → inside (sizes es) (turn (components (sizes ds) x)) ≡ true)
        → ((x : ℕ) → address (canonical_card a) ds a.length lies x ≡ value es (turn (components (sizes ds) x)))
        → ((x y : ℕ) → turn (components (sizes ds) x) ≡ turn (components (sizes ds) y) → components (sizes ds) x ≡ components (sizes ds) y)
        → IsApproval r.verdict
    by_nesting es turn nested high turned-inside turned-value turned-once =
        let known-bits = (known_parts a.bits a.mode (checks_passed a on.passed).0).0 in
        let blocks : a.length % 2 ^ (bit_length (128 / a.bits) - 1 + a.mode) ≡ 0 = ap (λ (n : ℕ). a.length % n) (block known-bits) ∙ on.whole in
        let under = nested_under (canonical_card a) ds a.length lies es turn nested high turned-inside turned-value turned-once in
        let once = nested_once (canonical_card a) ds a.length lies es turn nested high turned-inside turned-value turned-once in
        let fit = its_swizzle on.passed in
        (approved_exactly before after r on.passed on.admitted on.room promise).1
        (all_inside (canonical_card a) ds a.length lies fit blocks under, one_a_cell (canonical_card a) ds a.length lies fit blocks under once)

    -- and where it is packed up to the length, every cell has an owner
    by_packing : (es : List Digit) (turn back : List ℕ → List ℕ) → StridesPacked es → top es ≡ a.length
        → ((x : ℕ) → x < elements (canonical_card a) → inside (sizes es) (turn (components (sizes ds) x)) ≡ true)
        → ((x : ℕ) → address (canonical_card a) ds a.length lies x ≡ value es (turn (components (sizes ds) x)))
        → ((x y : ℕ) → turn (components (sizes ds) x) ≡ turn (components (sizes ds) y) → components (sizes ds) x ≡ components (sizes ds) y)
        → ((x : ℕ) → inside (sizes es) (decoded es x) ≡ true → inside (sizes ds) (back (decoded es x)) ≡ true)
        → ((x : ℕ) → turn (back (decoded es x)) ≡ decoded es x)
        → r.verdict ≡ approved_with (elements (canonical_card a)) a.length a.length
    by_packing es turn back packed full turned-inside turned-value turned-once back_inside back-turned =
        let card = canonical_card a in
        let L = a.length in
        let approved = by_nesting es turn (packed_nested es packed) (omega (arith, full)) turned-inside turned-value turned-once in
        let known-bits = (known_parts a.bits a.mode (checks_passed a on.passed).0).0 in
        let M = bit_length (128 / a.bits) - 1 in
        let blocks : L % 2 ^ (M + a.mode) ≡ 0 = ap (λ (n : ℕ). L % n) (block known-bits) ∙ on.whole in
        let fit = its_swizzle on.passed in
        let q = subst (λ (c : Result ⊤ Refusal). PromiseBy c a before after r) on.passed promise in
        let d = demand_3_unmarked card before after r.verdict unmarked on.admitted no_pair (omega (arith, on.room))
        ((verdict_exactly card before after r.verdict).0 q.0) in
        let all-cells : cells card ≡ L = omega arith in
        let owned : (c : ℕ) → c < L → get_or after c 0 ≡ 0 → ⊥ =
        λ c h empty.
        let x = swizzled M a.mode 3 c in
        let x_below : x < top es = omega (arith, full, stays_below M a.mode 3 c L blocks h) in
        let there = onto es packed x x_below in
        let cs = back (decoded es x) in
        let cs-inside = back_inside x there.0 in
        let flat = row_major (sizes ds) cs in
        let flat-below : flat < elements card = omega (arith, its_elements card ds L lies, row_major_below (sizes ds) cs cs-inside) in
        let at : address card ds L lies flat ≡ x =
        turned-value flat
        ∙ ap (λ (l : List ℕ). value es (turn l)) (components_back (sizes ds) cs cs-inside)
        ∙ ap (value es) (back-turned x)
        ∙ there.1 in
        let moved_to : moved card ds L lies flat ≡ c = ap (swizzled M a.mode 3) at ∙ (demand_3_swizzle M a.mode 3 fit).twice c in
        let cell : row_major (space L) (at_m c) ≡ c = omega arith in
        let spot_at_lem : spot card flat 0 ≡ Inside (record { 0 = c }) =
        spot_on card ds L lies flat 0
        ∙ ap (λ (n : ℕ). spot_at (position (space L) (at_m n))) moved_to
        ∙ ap spot_at (position_at c L h)
        ∙ ap (λ (n : ℕ). Inside (record { 0 = n })) cell in
        (d.nobody approved c (omega (arith, all-cells, h))).0 empty flat flat-below (record { combination = 0; below = omega arith; there = spot_at_lem }) in
        d.counts approved
        ∙ ap (λ (n : ℕ). approved_with (elements card) (occupied (take n after)) n) all-cells
        ∙ ap (λ (n : ℕ). approved_with (elements card) n L) (all_taken L after owned)

  module _ (before after : List ℕ) (r : Reported) (on : PassedOn before) (promise : CanonicalPromise a before after r) where
    -- K-major, swizzled: a row of 2k pieces within the width, blocks of eight rows apart
    pub K_swizzled_approved : is_k a.major ≡ true → plain a.mode ≡ false → 2 * a.k ≤ pieces a.mode → 8 * wide ≤ rows → a.m * rows ≤ a.length
        → IsApproval r.verdict
    K_swizzled_approved k s narrow apart-rows high =
        let next : columns ≡ T = rw (s, k) in
        let within-width : 2 * a.k * columns ≤ wide = rw next (mul-le-mul_right T narrow) in
        by_nesting digits_k (lies_K k) before after r on promise digits_k (λ cs. cs)
        (apart-rows, (within-width, (omega (arith, next), (le_refl 1, tt)))) high
        (λ x h. its_inside (canonical_card a) digits_k a.length (lies_K k) x h) (λ x. refl) (λ x y e. e)

    -- K-major without swizzling: blocks of eight rows apart, and columns beyond them
    pub K_plain_approved : is_k a.major ≡ true → plain a.mode ≡ true → 8 * wide ≤ rows → a.m * rows ≤ columns → 2 * a.k * columns ≤ a.length
        → IsApproval r.verdict
    K_plain_approved k s apart-rows beyond high =
        let T_short : T * 1 ≤ wide = omega (arith, mul-le-mul_right T (pow_pos a.mode)) in
        by_nesting digits_k (lies_K k) before after r on promise
        ((2 * a.k) by columns ∷ a.m by rows ∷ 8 by wide ∷ T by 1 ∷ []) third_first
        (beyond, (apart-rows, (T_short, (le_refl 1, tt)))) high
        (λ x h.
        let c : ℕ → ℕ = λ i. get_or (components (sizes digits_k) x) i 0 in
        third_inside a.m 8 (2 * a.k) T (c 0) (c 1) (c 2) (c 3) (its_inside (canonical_card a) digits_k a.length (lies_K k) x h))
        (λ x. four_sum _ _ _ _) (λ x y e. ap third_back e)

    -- MN-major, in every mode: blocks of eight columns apart across rows, and columns beyond them
    pub MN_approved : is_k a.major ≡ false → 8 * wide ≤ rows → a.m * rows ≤ columns → a.k * columns ≤ a.length → IsApproval r.verdict
    MN_approved k apart-rows beyond high =
        by_nesting digits_mn (lies_MN k) before after r on promise
        (a.k by columns ∷ a.m by rows ∷ 8 by wide ∷ pieces a.mode by T ∷ T by 1 ∷ []) fourth_first
        (beyond, (apart-rows, (le_refl wide, (omega arith, (le_refl 1, tt))))) high
        (λ x h.
        let c : ℕ → ℕ = λ i. get_or (components (sizes digits_mn) x) i 0 in
        fourth_inside a.m (pieces a.mode) T a.k 8 (c 0) (c 1) (c 2) (c 3) (c 4) (its_inside (canonical_card a) digits_mn a.length (lies_MN k) x h))
        (λ x. five_sum _ _ _ _ _) (λ x y e. ap fourth_back e)

    -- and both with the columns within and rows beyond them
    pub K_plain_rows_beyond : is_k a.major ≡ true → plain a.mode ≡ true → 8 * wide ≤ columns → 2 * a.k * columns ≤ rows → a.m * rows ≤ a.length
        → IsApproval r.verdict
    K_plain_rows_beyond k s apart-columns beyond high =
        let T_short : T * 1 ≤ wide = omega (arith, mul-le-mul_right T (pow_pos a.mode)) in
        by_nesting digits_k (lies_K k) before after r on promise
        (a.m by rows ∷ (2 * a.k) by columns ∷ 8 by wide ∷ T by 1 ∷ []) third_second
        (beyond, (apart-columns, (T_short, (le_refl 1, tt)))) high
        (λ x h.
        let c : ℕ → ℕ = λ i. get_or (components (sizes digits_k) x) i 0 in
        swap_inside (2 * a.k) a.m (c 2) (c 0) (8 ∷ T ∷ []) (c 1 ∷ c 3 ∷ [])
        (third_inside a.m 8 (2 * a.k) T (c 0) (c 1) (c 2) (c 3) (its_inside (canonical_card a) digits_k a.length (lies_K k) x h)))
        (λ x. four_swapped _ _ _ _) (λ x y e. ap third_second e)

    pub MN_rows_beyond : is_k a.major ≡ false → 8 * wide ≤ columns → a.k * columns ≤ rows → a.m * rows ≤ a.length → IsApproval r.verdict
    MN_rows_beyond k apart-columns beyond high =
        by_nesting digits_mn (lies_MN k) before after r on promise
        (a.m by rows ∷ a.k by columns ∷ 8 by wide ∷ pieces a.mode by T ∷ T by 1 ∷ []) fourth_second
        (beyond, (apart-columns, (le_refl wide, (omega arith, (le_refl 1, tt))))) high
        (λ x h.
        let c : ℕ → ℕ = λ i. get_or (components (sizes digits_mn) x) i 0 in
        swap_inside a.k a.m (c 3) (c 0) (8 ∷ pieces a.mode ∷ T ∷ []) (c 4 ∷ c 1 ∷ c 2 ∷ [])
        (fourth_inside a.m (pieces a.mode) T a.k 8 (c 0) (c 1) (c 2) (c 3) (c 4) (its_inside (canonical_card a) digits_mn a.length (lies_MN k) x h)))
        (λ x. five_swapped _ _ _ _ _)
        (λ x y e. ap (λ (l : List ℕ). get_or l 0 0 ∷ get_or l 3 0 ∷ get_or l 4 0 ∷ get_or l 1 0 ∷ get_or l 2 0 ∷ []) e)

    -- Packed layouts: approved, and every cell of the length has an owner
    pub K_swizzled_packed : is_k a.major ≡ true → plain a.mode ≡ false → 2 * a.k ≡ pieces a.mode → rows ≡ 8 * wide → a.length ≡ a.m * rows
        → r.verdict ≡ approved_with (elements (canonical_card a)) a.length a.length
    K_swizzled_packed k s narrow apart-rows full =
        let next : columns ≡ T = rw (s, k) in
        let within-width : 2 * a.k * columns ≡ wide = rw (next, narrow) refl in
        by_packing digits_k (lies_K k) before after r on promise digits_k (λ cs. cs) (λ cs. cs)
        (sym apart-rows, (within-width, (omega (arith, next), (refl, tt)))) (sym full)
        (λ x h. its_inside (canonical_card a) digits_k a.length (lies_K k) x h) (λ x. refl) (λ x y e. e) (λ x h. h) (λ x. refl)

    pub K_plain_packed : is_k a.major ≡ true → plain a.mode ≡ true → rows ≡ 8 * wide → columns ≡ a.m * rows → a.length ≡ 2 * a.k * columns
        → r.verdict ≡ approved_with (elements (canonical_card a)) a.length a.length
    K_plain_packed k s apart-rows beyond full =
        let one : a.mode ≡ 0 = eqb-true a.mode 0 s in
        let T-wide : T * 1 ≡ wide = rw one (omega arith) in
        let es = (2 * a.k) by columns ∷ a.m by rows ∷ 8 by wide ∷ T by 1 ∷ [] in
        by_packing digits_k (lies_K k) before after r on promise es third_first third_back
        (sym beyond, (sym apart-rows, (T-wide, (refl, tt)))) (sym full)
        (λ x h.
        let c : ℕ → ℕ = λ i. get_or (components (sizes digits_k) x) i 0 in
        third_inside a.m 8 (2 * a.k) T (c 0) (c 1) (c 2) (c 3) (its_inside (canonical_card a) digits_k a.length (lies_K k) x h))
        (λ x. four_sum _ _ _ _) (λ x y e. ap third_back e)
        (λ x h.
        let c : ℕ → ℕ = λ i. get_or (decoded es x) i 0 in
        third_inside 8 (2 * a.k) a.m T (c 2) (c 0) (c 1) (c 3) (third_inside (2 * a.k) a.m 8 T (c 0) (c 1) (c 2) (c 3) h))
        (λ x. refl)

    pub MN_packed : is_k a.major ≡ false → rows ≡ 8 * wide → columns ≡ a.m * rows → a.length ≡ a.k * columns
        → r.verdict ≡ approved_with (elements (canonical_card a)) a.length a.length
    MN_packed k apart-rows beyond full =
        let es = a.k by columns ∷ a.m by rows ∷ 8 by wide ∷ pieces a.mode by T ∷ T by 1 ∷ [] in
        by_packing digits_mn (lies_MN k) before after r on promise es fourth_first fourth_back
        (sym beyond, (sym apart-rows, (refl, (omega arith, (refl, tt))))) (sym full)
        (λ x h.
        let c : ℕ → ℕ = λ i. get_or (components (sizes digits_mn) x) i 0 in
        fourth_inside a.m (pieces a.mode) T a.k 8 (c 0) (c 1) (c 2) (c 3) (c 4) (its_inside (canonical_card a) digits_mn a.length (lies_MN k) x h))
        (λ x. five_sum _ _ _ _ _) (λ x y e. ap fourth_back e)
        (λ x h.
        let c : ℕ → ℕ = λ i. get_or (decoded es x) i 0 in
        fourth_back_inside a.m (pieces a.mode) T a.k 8 (c 1) (c 3) (c 4) (c 0) (c 2) h)
        (λ x. refl)

    -- and both with the columns within and rows beyond them
    pub K_plain_packed_rows_beyond : is_k a.major ≡ true → plain a.mode ≡ true → columns ≡ 8 * wide → rows ≡ 2 * a.k * columns → a.length ≡ a.m * rows
        → r.verdict ≡ approved_with (elements (canonical_card a)) a.length a.length
    K_plain_packed_rows_beyond k s apart-columns beyond full =
        let one : a.mode ≡ 0 = eqb-true a.mode 0 s in
        let T-wide : T * 1 ≡ wide = rw one (omega arith) in
        let es = a.m by rows ∷ (2 * a.k) by columns ∷ 8 by wide ∷ T by 1 ∷ [] in
        by_packing digits_k (lies_K k) before after r on promise es third_second third_second
        (sym beyond, (sym apart-columns, (T-wide, (refl, tt)))) (sym full)
        (λ x h.
        let c : ℕ → ℕ = λ i. get_or (components (sizes digits_k) x) i 0 in
        swap_inside (2 * a.k) a.m (c 2) (c 0) (8 ∷ T ∷ []) (c 1 ∷ c 3 ∷ [])
        (third_inside a.m 8 (2 * a.k) T (c 0) (c 1) (c 2) (c 3) (its_inside (canonical_card a) digits_k a.length (lies_K k) x h)))
        (λ x. four_swapped _ _ _ _) (λ x y e. ap third_second e)
        (λ x h.
        let c : ℕ → ℕ = λ i. get_or (decoded es x) i 0 in
        swap_inside 8 a.m (c 2) (c 0) ((2 * a.k) ∷ T ∷ []) (c 1 ∷ c 3 ∷ []) (third_inside a.m (2 * a.k) 8 T (c 0) (c 1) (c 2) (c 3) h))
        (λ x. refl)

    pub MN_packed_rows_beyond : is_k a.major ≡ false → columns ≡ 8 * wide → rows ≡ a.k * columns → a.length ≡ a.m * rows
        → r.verdict ≡ approved_with (elements (canonical_card a)) a.length a.length
    MN_packed_rows_beyond k apart-columns beyond full =
        let es = a.m by rows ∷ a.k by columns ∷ 8 by wide ∷ pieces a.mode by T ∷ T by 1 ∷ [] in
        by_packing digits_mn (lies_MN k) before after r on promise es fourth_second fourth_second
        (sym beyond, (sym apart-columns, (refl, (omega arith, (refl, tt))))) (sym full)
        (λ x h.
        let c : ℕ → ℕ = λ i. get_or (components (sizes digits_mn) x) i 0 in
        swap_inside a.k a.m (c 3) (c 0) (8 ∷ pieces a.mode ∷ T ∷ []) (c 4 ∷ c 1 ∷ c 2 ∷ [])
        (fourth_inside a.m (pieces a.mode) T a.k 8 (c 0) (c 1) (c 2) (c 3) (c 4) (its_inside (canonical_card a) digits_mn a.length (lies_MN k) x h)))
        (λ x. five_swapped _ _ _ _ _) (λ x y e. ap fourth_second e)
        (λ x h.
        let c : ℕ → ℕ = λ i. get_or (decoded es x) i 0 in
        fourth_back_inside a.m (pieces a.mode) T a.k 8 (c 0) (c 3) (c 4) (c 1) (c 2)
        (swap_inside a.m a.k (c 0) (c 1) (8 ∷ pieces a.mode ∷ T ∷ []) (c 2 ∷ c 3 ∷ c 4 ∷ []) h))
        (λ x. refl)

  -- an approved layout passed the checks, its card's own and the table's length
  approved_checks : (before after : List ℕ) (r : Reported) → CanonicalPromise a before after r → IsApproval r.verdict
      → (checked a ≡ no_refusal) × Judged (canonical_card a) (length before)
  approved_checks before after r promise approved = by_checks (checked a) refl promise
    where
      by_judgement : (j : Judgement) → ComesTo (canonical_card a) (length before) j → IsApproval (verdict_of (canonical_card a) j) → Judged (canonical_card a) (length before)
      by_judgement (NotAdmitted refusal) h i = absurd i
      by_judgement NoRoom h i = absurd i
      by_judgement (OutsideAt flat axis) h i = absurd i
      by_judgement (Clashing x y cell) h i = absurd i
      by_judgement (Passed owners occupied) h i = h.0

      by_checks : (c : Result ⊤ Refusal) → checked a ≡ c → PromiseBy c a before after r → (checked a ≡ no_refusal) × Judged (canonical_card a) (length before)
      by_checks (Ok _) e o =
          let p = (verdict_exactly (canonical_card a) before after r.verdict).0 o.0 in
          (e, by_judgement p.judgement p.comes (subst IsApproval p.answers approved))
      by_checks (Err refusal) e o = absurd (subst (λ (x : Reported). IsApproval x.verdict) o.0 approved)

  -- m is 1 or more, and T too
  some_m : checked a ≡ no_refusal → 1 ≤ a.m
  some_m passed =
      let used = not (uses_lbo a.major a.mode) || stride_fits a.lbo in
      let p = (and-eq-true_iff (leb a.major 1 && within 1 8 a.m && within 1 8 a.k && used) (stride_fits a.sbo)).0 (checks_passed a passed).1 in
      let q = (and-eq-true_iff (leb a.major 1 && within 1 8 a.m && within 1 8 a.k) used).0 p.0 in
      let s = (and-eq-true_iff (leb a.major 1 && within 1 8 a.m) (within 1 8 a.k)).0 q.0 in
      let t = (and-eq-true_iff (leb a.major 1) (within 1 8 a.m)).0 s.0 in
      leb-true 1 a.m ((and-eq-true_iff (leb 1 a.m) (leb a.m 8)).0 t.1).0

  -- the first piece of row 1 and the piece past the width of row 0
  abbrev second_row : List ℕ
  second_row = 0 ∷ 1 ∷ 0 ∷ 0 ∷ []

  abbrev past_width : List ℕ
  past_width = 0 ∷ 0 ∷ pieces a.mode ∷ 0 ∷ []

  -- K-major, swizzled: no layout with a row of more than the width is approved, whatever SBO and the length. Figure 189 is one of these
  pub K_too_wide : (before after : List ℕ) (r : Reported) → CanonicalPromise a before after r → is_k a.major ≡ true → plain a.mode ≡ false
      → pieces a.mode < 2 * a.k → IsApproval r.verdict → ⊥
  K_too_wide before after r promise k s broad approved =
      let so = approved_checks before after r promise approved in
      let card = canonical_card a in
      let lies = lies_K k in
      let known-bits = (known_parts a.bits a.mode (checks_passed a so.0).0).0 in
      let some-T : 0 < T = subst (λ (n : ℕ). 0 < n) (T_power a.bits known-bits) (pow_pos (bit_length (128 / a.bits) - 1)) in
      let next : columns ≡ T = rw (s, k) in
      let both = (approved_exactly before after r so.0 ((admitted_exactly card).0 so.1.admitted).0 (omega (arith, so.1.enough)) promise).0 approved in
      let m_there = some_m so.0 in
      let in-x : inside (sizes digits_k) past_width ≡ true = four_inside a.m 8 (2 * a.k) T 0 0 (pieces a.mode) 0 m_there (omega arith) broad some-T in
      let in-y : inside (sizes digits_k) second_row ≡ true = four_inside a.m 8 (2 * a.k) T 0 1 0 0 m_there (omega arith) (omega (arith, broad)) some-T in
      let x = row_major (sizes digits_k) past_width in
      let y = row_major (sizes digits_k) second_row in
      let below : (cs : List ℕ) → inside (sizes digits_k) cs ≡ true → row_major (sizes digits_k) cs < elements card =
      λ cs i. omega (arith, its_elements card digits_k a.length lies, row_major_below (sizes digits_k) cs i) in
      let at_x : components (sizes digits_k) x ≡ past_width = components_back (sizes digits_k) past_width in-x in
      let at_y : components (sizes digits_k) y ≡ second_row = components_back (sizes digits_k) second_row in-y in
      let values : value digits_k past_width ≡ value digits_k second_row = rw next (omega arith) in
      let same : address card digits_k a.length lies x ≡ address card digits_k a.length lies y =
      ap (value digits_k) at_x ∙ values ∙ ap (value digits_k) (sym at_y) in
      let spots : spot card x 0 ≡ spot card y 0 =
      spot_on card digits_k a.length lies x 0
      ∙ ap (λ (n : ℕ). spot_at (position (space a.length) (at_m (swizzled card.swizzle.m card.swizzle.b card.swizzle.s n)))) same
      ∙ sym (spot_on card digits_k a.length lies y 0) in
      let there = lies_inside (spot card x 0) (both.0 x 0 (below past_width in-x) (omega arith)) in
      let one : x ≡ y = both.1 x y 0 0 (record { 0 = cell_of (spot card x 0) }) (below past_width in-x) (below second_row in-y) (omega arith) (omega arith) there (sym spots ∙ there) in
      let lists : past_width ≡ second_row = sym at_x ∙ ap (components (sizes digits_k)) one ∙ at_y in
      let none : pieces a.mode ≡ 0 = ap (λ (l : List ℕ). get_or l 2 0) lists in
      omega (arith, none, pow_pos a.mode)

  -- so a swizzled K-major layout whose blocks of eight rows lie apart is approved exactly when a row of 2k pieces lies within the width
  pub K_swizzled_exactly : (before after : List ℕ) (r : Reported) → PassedOn before → CanonicalPromise a before after r → is_k a.major ≡ true → plain a.mode ≡ false
      → 8 * wide ≤ rows → a.m * rows ≤ a.length → IsApproval r.verdict ↔ (2 * a.k ≤ pieces a.mode)
  K_swizzled_exactly before after r on promise k s apart-rows high = (
    λ approved. ⊎_elim (λ (h : 2 * a.k ≤ pieces a.mode). h) (λ (h : pieces a.mode < 2 * a.k). absurd (K_too_wide before after r promise k s h approved)) (le_or_lt (2 * a.k) (pieces a.mode)),
    λ narrow. K_swizzled_approved before after r on promise k s narrow apart-rows high,
  )
