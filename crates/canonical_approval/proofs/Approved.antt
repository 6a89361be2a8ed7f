-- A card on axis m alone is approved where its addresses lie below a length of whole blocks of the swizzle and no two are the same.
use mathlib.Core.Path.{◌≡◌, refl, sym, ap, ap₂, subst, ◌∙◌}
use mathlib.Core.Bool.{Bool, true, false}
use mathlib.Core.List.{List, [], ◌∷◌, map}
use Prim.Native.Nat.{ℕ, zero, suc, ◌+◌, ◌*◌, ◌/◌, ◌%◌, ◌^◌, ◌≤◌, ◌<◌}
use native.Mathlib.Nat.{add-zero, div-lt_iff_lt-mul, lt_of_lt_of_le}
use native.Mathlib.Omega.{arith}
use lib.ListN.{get_or}
use lib.Pow.{pow_pos, split}
use Rattle.answers.specs.declared.Cell.{Cell}
use Rattle.swizzle.specs.Swizzle.{permitted, swizzled}
use Rattle.swizzle.proofs.Laws.{swizzled_block}
use Rattle.swizzle.proofs.Theorems.{demand_3_swizzle}
use Rattle.card.specs.Card.{listed, extent_of, elements, copies}
use Rattle.card.specs.Lists.{product}
use Rattle.card.specs.declared.Iter.{Iter}
use Rattle.card.specs.declared.Card.{Card}
use Rattle.rules.specs.RowMajor.{row_major, components, inside}
use Rattle.rules.specs.Rules.{spot_at, spot}
use Rattle.rules.specs.Copies.{cell_of}
use Rattle.rules.specs.declared.Position.{Position}
use Rattle.rules.specs.declared.Spot.{Spot}
use Rattle.rules.specs.declared.Spot.TheVariants.{Inside}
use Rattle.rules.proofs.RowMajor.{row_major_one_to_one, components_inside, components_give_back}
use Rattle.judgement.specs.Judgement.{LiesInside, AllInside}
use Rattle.judgement.proofs.Theorems.{OneElementACell}
use Rattle.canonical_approval.specs.Nested.{Digit, value, sizes, top, Nested}
use Rattle.canonical_approval.proofs.Digits.{below_top, value_once}
use Rattle.canonical_approval.proofs.OnM.{iters_of, its_sizes, space, at_m, inside_at, position_at, Lies, address, moved, spot_on}

-- a swizzle leaves an address below whole blocks below them
pub stays_below : (M B S x L : ℕ) → L % 2 ^ (M + B) ≡ 0 → x < L → swizzled M B S x < L
stays_below M B S x L whole h =
    let P = 2 ^ (M + B) in
    let blocks : L / P * P ≡ L = sym (add-zero (L / P * P)) ∙ ap (λ (r : ℕ). L / P * P + r) (sym whole) ∙ split L (M + B) in
    let below : x / P < L / P = (div-lt_iff_lt-mul (pow_pos (M + B))).1 (subst (λ (n : ℕ). x < n) (sym blocks) h) in
    subst (λ (n : ℕ). swizzled M B S x < n) blocks
    ((div-lt_iff_lt-mul (pow_pos (M + B))).0 (subst (λ (n : ℕ). n < L / P) (sym (swizzled_block M B S x)) below))

module _ (card : Card) (ds : List Digit) (L : ℕ) (lies : Lies card ds L) where
  pub its_elements : elements card ≡ product (sizes ds)
  its_elements = ap (λ (l : List Iter). product (map extent_of l)) lies.its_shard ∙ ap product (its_sizes ds)

  -- one element of each list of components
  pub components_once : (x y : ℕ) → x < elements card → y < elements card → components (sizes ds) x ≡ components (sizes ds) y → x ≡ y
  components_once x y hx hy e =
      let bound : (n : ℕ) → n < elements card → n < product (sizes ds) = λ n h. omega (arith, its_elements, h) in
      sym (components_give_back (sizes ds) x (bound x hx))
      ∙ ap (row_major (sizes ds)) e
      ∙ components_give_back (sizes ds) y (bound y hy)

  pub its_inside : (x : ℕ) → x < elements card → inside (sizes ds) (components (sizes ds) x) ≡ true
  its_inside x h = components_inside (sizes ds) x (omega (arith, its_elements, h))

  module _ (fits : permitted card.swizzle.m card.swizzle.b card.swizzle.s ≡ true)
      (whole : L % 2 ^ (card.swizzle.m + card.swizzle.b) ≡ 0)
      (under : (x : ℕ) → x < elements card → address card ds L lies x < L) where
    stays : (x : ℕ) → x < elements card → moved card ds L lies x < L
    stays x h = stays_below card.swizzle.m card.swizzle.b card.swizzle.s (address card ds L lies x) L whole (under x h)

    its_spot : (x r : ℕ) → x < elements card → spot card x r ≡ Inside (record { 0 = row_major (space L) (at_m (moved card ds L lies x)) })
    its_spot x r h = spot_on card ds L lies x r ∙ ap spot_at (position_at (moved card ds L lies x) L (stays x h))

    pub all_inside : AllInside card
    all_inside x r hx hr = rw (its_spot x r hx) tt

    pub one_a_cell : ((x y : ℕ) → x < elements card → y < elements card → address card ds L lies x ≡ address card ds L lies y → x ≡ y) → OneElementACell card
    one_a_cell once x y r s c hx hy hr hs e d =
        let mx = moved card ds L lies x in
        let my = moved card ds L lies y in
        let cells : row_major (space L) (at_m mx) ≡ row_major (space L) (at_m my) =
        ap cell_of (sym (its_spot x r hx) ∙ e ∙ sym d ∙ its_spot y s hy) in
        let lists : at_m mx ≡ at_m my = row_major_one_to_one (space L) (at_m mx) (at_m my) (inside_at mx L (stays x hx)) (inside_at my L (stays y hy)) cells in
        let same : mx ≡ my = ap (λ (l : List ℕ). get_or l 7 0) lists in
        once x y hx hy ((demand_3_swizzle card.swizzle.m card.swizzle.b card.swizzle.s fits).once (address card ds L lies x) (address card ds L lies y) same)

  -- where the digits are nested, in whatever order
  module _ (es : List Digit) (turn : List ℕ → List ℕ) (nested : Nested es) (high : top es ≤ L)
      (turned-inside : (x : ℕ) → x < elements card → inside (sizes es) (turn (components (sizes ds) x)) ≡ true)
      (turned-value : (x : ℕ) → address card ds L lies x ≡ value es (turn (components (sizes ds) x)))
      (turned-once : (x y : ℕ) → turn (components (sizes ds) x) ≡ turn (components (sizes ds) y) → components (sizes ds) x ≡ components (sizes ds) y) where
    pub nested_under : (x : ℕ) → x < elements card → address card ds L lies x < L
    nested_under x h = rw (turned-value x) (lt_of_lt_of_le (below_top es (turn (components (sizes ds) x)) nested (turned-inside x h)) high)

    pub nested_once : (x y : ℕ) → x < elements card → y < elements card → address card ds L lies x ≡ address card ds L lies y → x ≡ y
    nested_once x y hx hy e =
        components_once x y hx hy
        (turned-once x y
        (value_once es (turn (components (sizes ds) x)) (turn (components (sizes ds) y)) nested (turned-inside x hx) (turned-inside y hy)
        (sym (turned-value x) ∙ e ∙ turned-value y)))
