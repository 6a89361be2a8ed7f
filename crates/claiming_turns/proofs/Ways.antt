-- A packed card's iters as digits: what one step of each adds, and one turn of a digit, which moves index, level and m by steps of its iter.
use mathlib.Core.Path.{◌≡◌, refl, sym, ap, ap₂, ◌∙◌}
use mathlib.Core.Bool.{cond}
use mathlib.Core.List.{List, [], ◌∷◌, map}
use Prim.Native.Nat.{ℕ, zero, suc, ◌+◌, ◌*◌, ◌^◌, ◌≤◌, ◌<◌}
use native.Mathlib.Nat.{add-mul}
use native.Mathlib.Omega.{arith}
use borrow.Author.Count.{below_more}
use lib.Dec.{eqb}
use lib.IntN.{ℤ, pos, negsuc, nat_abs, neg_ℤ, ◌+ℤ◌, ◌*ℤ◌, +ℤ_idr, +ℤ_comm, +ℤ-neg_ℤ_cancel, zero-*ℤ}
use lib.ListN.{length, get_or, set, length-set, length-map, length-take, get_or-map}
use lib.Seq.{slice, get_or-take, get_or-set_same, get_or-set_other}
use native.Mathlib.Nat.{ne_of_lt}
use Rattle.laws.proofs.Parts.{whole, parts_sum}
use Rattle.laws.proofs.Signed.{sum_far, times_far}
use Rattle.card.specs.Lists.{slots}
use Rattle.card.specs.Limits.{last_axis}
use Rattle.card.specs.Card.{none, extent_of}
use Rattle.card.specs.Packed.{iter_at}
use Rattle.card.specs.declared.Iter.{Iter}
use Rattle.card.proofs.ReadBack.{eight_at}
use Rattle.rules.specs.Rules.{axes}
use Rattle.rules_linear.specs.Levels.{level_at}
use Rattle.rules_linear.proofs.Cells.{zeros}
use Rattle.rules_linear.proofs.Times.{times_more}
use Rattle.copies_sums.specs.Walks.{Steps}
use Rattle.copies_runs.specs.Clauses.{roomy_level, Adds}
use Rattle.copies_runs.specs.declared.LevelAndM.{LevelAndM}
use Rattle.claiming_turns.specs.Turns.{iter_extents, index_of, sums_at, unit, size_from, shard_iters, WaysTo, DigitsAt}
use Rattle.claiming_turns.proofs.Digits.{set_fits, digit_below, set_index, set_sums, set_level}

-- a list of zeros but one
pub unit_sums : (a : ℕ) (z : ℤ) → a < 8 → set zeros a z ≡ map (λ axis. cond (eqb a axis) z (pos 0)) axes
unit_sums zero z h = refl
unit_sums (suc zero) z h = refl
unit_sums (suc (suc zero)) z h = refl
unit_sums (suc (suc (suc zero))) z h = refl
unit_sums (suc (suc (suc (suc zero)))) z h = refl
unit_sums (suc (suc (suc (suc (suc zero))))) z h = refl
unit_sums (suc (suc (suc (suc (suc (suc zero)))))) z h = refl
unit_sums (suc (suc (suc (suc (suc (suc (suc zero))))))) z h = refl
unit_sums (suc (suc (suc (suc (suc (suc (suc (suc a)))))))) z h = absurd (omega arith)

-- the iter at k
pub iter_at_lem : (numbers : List ℕ) (strides : List ℤ) (k : ℕ) → get_or numbers 40 0 ≤ 8 → k < get_or numbers 40 0 → get_or (shard_iters numbers strides) k none ≡ iter_at numbers strides 0 k
iter_at_lem numbers strides k few h =
    get_or-take (get_or numbers 40 0) (map (iter_at numbers strides 0) slots) k none h ∙ eight_at (iter_at numbers strides 0) none k (omega arith)

pub iters_count : (numbers : List ℕ) (strides : List ℤ) → get_or numbers 40 0 ≤ 8 → length (shard_iters numbers strides) ≡ get_or numbers 40 0
iters_count numbers strides few =
    let eight : length (map (iter_at numbers strides 0) slots) ≡ 8 = refl in
    omega (arith, length-take (get_or numbers 40 0) (map (iter_at numbers strides 0) slots))

pub extent_at : (numbers : List ℕ) (strides : List ℤ) (k : ℕ) → get_or numbers 40 0 ≤ 8 → k < get_or numbers 40 0 → get_or (iter_extents (shard_iters numbers strides)) k 0 ≡ get_or numbers k 0
extent_at numbers strides k few h = get_or-map extent_of (shard_iters numbers strides) k none ∙ ap extent_of (iter_at_lem numbers strides k few h) ∙ ap (λ (n : ℕ). get_or numbers n 0) (omega arith)

-- the later iters from k on
pub size_next : (l : List Iter) (k : ℕ) → k < length l → size_from k l ≡ get_or (iter_extents l) k 0 * size_from (suc k) l
size_next [] k h = absurd (omega arith)
size_next (iter ∷ l) zero h = refl
size_next (iter ∷ l) (suc k) h = size_next l k (omega arith)

-- ways, and one more
module _ (numbers : List ℕ) (strides : List ℤ) where
  pub ways_none : (levels ms : List ℤ) → length levels ≡ 8 → length ms ≡ 8 → WaysTo numbers strides 0 levels ms
  ways_none levels ms l m = record { level_size = l; m_size = m; ways = λ j h. absurd (omega arith) }

  pub ways_more : (levels ms : List ℤ) (k : ℕ) (place : LevelAndM) → k < 8 → WaysTo numbers strides k levels ms
      → Adds (slice 32 40 numbers) (unit (get_or (shard_iters numbers strides) k none)) place → WaysTo numbers strides (k + 1) (set levels k place.level) (set ms k place.m)
  ways_more levels ms k place h w new = record {
    level_size = length-set levels k place.level ∙ w.level_size;
    m_size = length-set ms k place.m ∙ w.m_size;
    ways =
        below_more
        (λ j. Adds (slice 32 40 numbers) (unit (get_or (shard_iters numbers strides) j none)) (record { level = get_or (set levels k place.level) j (pos 0); m = get_or (set ms k place.m) j (pos 0) })) k
        (λ j less. record {
          level_is = get_or-set_other levels k j place.level (pos 0) (ne_of_lt less) ∙ (w.ways j less).level_is;
          m_is = get_or-set_other ms k j place.m (pos 0) (ne_of_lt less) ∙ (w.ways j less).m_is;
        })
        (record {
          level_is = get_or-set_same levels k place.level (pos 0) (omega (arith, w.level_size)) ∙ new.level_is;
          m_is = get_or-set_same ms k place.m (pos 0) (omega (arith, w.m_size)) ∙ new.m_is;
        });
  }

-- whole numbers
forth_one : (a b u : ℤ) (c : ℕ) → a +ℤ pos c *ℤ u ≡ b +ℤ pos (c + 1) *ℤ u → a ≡ b +ℤ u
forth_one a b u c e =
    let more = times_more c u in
    omega (whole, parts_sum a (pos c *ℤ u), parts_sum b (pos (c + 1) *ℤ u), parts_sum (pos c *ℤ u) u, parts_sum b u)

pub same_sum : (a b x : ℤ) → a +ℤ x ≡ b +ℤ x → a ≡ b
same_sum a b x e = omega (whole, parts_sum a x, parts_sum b x)

-- what is added to a number is no further than both numbers
pub negated_far : (z : ℤ) → nat_abs (neg_ℤ z) ≡ nat_abs z
negated_far (pos zero) = refl
negated_far (pos (suc n)) = refl
negated_far (negsuc n) = refl

rest_far : (x w : ℤ) → nat_abs w ≤ nat_abs (x +ℤ w) + nat_abs x
rest_far x w =
    omega (
      arith,
      ap nat_abs (+ℤ-neg_ℤ_cancel w x),
      sum_far (w +ℤ x) (neg_ℤ x),
      negated_far x,
      ap nat_abs (+ℤ_comm w x),
    )

-- one turn of digit k
module _ (numbers : List ℕ) (strides : List ℤ) (cs : List ℕ) (place : LevelAndM) (k : ℕ) (h : k < length (shard_iters numbers strides)) (at : DigitsAt numbers strides cs place)
    {way : LevelAndM} (w : Adds (slice 32 40 numbers) (unit (get_or (shard_iters numbers strides) k none)) way) where
  abbrev l : List Iter
  l = shard_iters numbers strides

  abbrev offset : List ℤ
  offset = slice 16 24 strides

  abbrev ns : List ℕ
  ns = slice 32 40 numbers

  abbrev digit : ℕ
  digit = get_or cs k 0

  pub turn_forth : digit + 1 < get_or (iter_extents l) k 0 → DigitsAt numbers strides (set cs k (digit + 1)) (record { level = place.level +ℤ way.level; m = place.m +ℤ way.m })
  turn_forth below = record {
    fits = set_fits (iter_extents l) cs k (digit + 1) below at.fits;
    at = record {
      level_is =
          ap₂ (λ (x y : ℤ). x +ℤ y) at.at.level_is w.level_is
          ∙ sym (forth_one (level_at ns (sums_at l offset (set cs k (digit + 1)))) (level_at ns (sums_at l offset cs)) (level_at ns (unit (get_or l k none))) digit (set_level l offset cs k (digit + 1) h at.fits ns));
      m_is =
          ap₂ (λ (x y : ℤ). x +ℤ y) at.at.m_is w.m_is
          ∙ sym (forth_one (sums_at l offset (set cs k (digit + 1)) last_axis) (sums_at l offset cs last_axis) (unit (get_or l k none) last_axis) digit (set_sums l offset cs k (digit + 1) h at.fits last_axis));
    };
  }

  pub index_forth : index_of l (set cs k (digit + 1)) ≡ index_of l cs + size_from (suc k) l
  index_forth = omega (arith, set_index l cs k (digit + 1) h at.fits, add-mul digit 1 (size_from (suc k) l))

  -- back to 0
  abbrev zeroed : LevelAndM
  zeroed = record { level = level_at ns (sums_at l offset (set cs k 0)); m = sums_at l offset (set cs k 0) last_axis }

  pub turned_back : DigitsAt numbers strides (set cs k 0) zeroed
  turned_back = record {
    fits = set_fits (iter_extents l) cs k 0 (omega (arith, digit_below (iter_extents l) cs k (simp length-map h) at.fits)) at.fits;
    at = record { level_is = refl; m_is = refl };
  }

  no_more : (x u : ℤ) → x +ℤ pos 0 *ℤ u ≡ x
  no_more x u = ap (λ (z : ℤ). x +ℤ z) (zero-*ℤ u) ∙ +ℤ_idr x

  level_back : zeroed.level +ℤ pos digit *ℤ way.level ≡ place.level
  level_back =
      ap (λ (z : ℤ). zeroed.level +ℤ pos digit *ℤ z) w.level_is
      ∙ set_level l offset cs k 0 h at.fits ns
      ∙ no_more (level_at ns (sums_at l offset cs)) (level_at ns (unit (get_or l k none)))
      ∙ sym at.at.level_is

  m_back : zeroed.m +ℤ pos digit *ℤ way.m ≡ place.m
  m_back =
      ap (λ (z : ℤ). zeroed.m +ℤ pos digit *ℤ z) w.m_is
      ∙ set_sums l offset cs k 0 h at.fits last_axis
      ∙ no_more (sums_at l offset cs last_axis) (unit (get_or l k none) last_axis)
      ∙ sym at.at.m_is

  pub turn_back : {x y : ℤ} → x +ℤ pos digit *ℤ way.level ≡ place.level → y +ℤ pos digit *ℤ way.m ≡ place.m → DigitsAt numbers strides (set cs k 0) (record { level = x; m = y })
  turn_back {x} {y} e d = record {
    fits = turned_back.fits;
    at = record {
      level_is = same_sum x zeroed.level (pos digit *ℤ way.level) (e ∙ sym level_back);
      m_is = same_sum y zeroed.m (pos digit *ℤ way.m) (d ∙ sym m_back);
    };
  }

  pub index_back : get_or (iter_extents l) k 0 ≤ digit + 1 → index_of l (set cs k 0) + size_from k l ≡ index_of l cs + size_from (suc k) l
  index_back full =
      let last : get_or (iter_extents l) k 0 ≡ digit + 1 = omega (arith, digit_below (iter_extents l) cs k (simp length-map h) at.fits) in
      let size : size_from k l ≡ (digit + 1) * size_from (suc k) l = size_next l k h ∙ ap (λ (n : ℕ). n * size_from (suc k) l) last in
      omega (arith, set_index l cs k 0 h at.fits, add-mul digit 1 (size_from (suc k) l))

  pub digit_small : get_or (iter_extents l) k 0 ≤ 2 ^ 32 → digit ≤ 2 ^ 32
  digit_small small = omega (arith, digit_below (iter_extents l) cs k (simp length-map h) at.fits)

  -- the machine's numbers
  steps_of : (x u z : ℤ) → x +ℤ pos digit *ℤ u ≡ z → nat_abs x ≤ roomy_level → nat_abs z ≤ roomy_level → digit ≤ 2 ^ 32 → Steps z digit u
  steps_of x u z e near far small = record { small_component = small; room = omega (arith, times_far digit u, rest_far x (pos digit *ℤ u), ap nat_abs e) }

  module _ (near : (cs : List ℕ) (place : LevelAndM) → DigitsAt numbers strides cs place → (nat_abs place.level ≤ roomy_level) × (nat_abs place.m ≤ roomy_level)) (small : digit ≤ 2 ^ 32) where
    pub level_steps : Steps place.level digit way.level
    level_steps = steps_of zeroed.level way.level place.level level_back (near (set cs k 0) zeroed turned_back).0 (near cs place at).0 small

    pub m_steps : Steps place.m digit way.m
    m_steps = steps_of zeroed.m way.m place.m m_back (near (set cs k 0) zeroed turned_back).1 (near cs place at).1 small
