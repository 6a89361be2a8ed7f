-- The far ends of a packed card: what the functions find there, in the words of the card.
use mathlib.Core.Path.{◌≡◌, sym}
use mathlib.Core.Bool.{true, false, and-eq-true_iff}
use mathlib.Core.List.{List}
use Prim.Native.Nat.{ℕ, ◌+◌, ◌^◌, ◌≤◌, ◌<◌}
use native.Mathlib.Nat.{div-add-mod'}
use native.Mathlib.Decide.{ℕ_discrete}
use native.Mathlib.Omega.{arith}
use lib.Dec.{leb}
use lib.IntN.{ℤ}
use lib.ListN.{get_or}
use Rattle.swizzle.proofs.Laws.{permitted_numbers}
use Rattle.card.specs.Lists.{all, within, product}
use Rattle.card.specs.Limits.{last_axis, most_length, most_cells}
use Rattle.card.specs.Packed.{beyond, card_of, Admits}
use Rattle.card.specs.declared.Card.{Card}
use Rattle.card.proofs.Lists.{all_at, within_numbers}
use Rattle.card.proofs.Admitted.{Checked, checked}
use Rattle.card.proofs.ReadBack.{slice_at, eight_lengths}
use Rattle.outside_reach.specs.Stays.{Stays}
use Rattle.outside_ends.specs.Clauses.{EndSums, blocks_of, Between, Spaced}

-- whole blocks are no more than their length
pub few_blocks : {numbers : List ℕ} → Spaced numbers → blocks_of numbers ≤ beyond
few_blocks {numbers} s = omega (arith, div-add-mod' (get_or numbers 39 0) (2 ^ (get_or numbers 42 0 + get_or numbers 43 0)), s.short 7 (omega arith))

module _ (numbers : List ℕ) (strides : List ℤ) (a : Admits numbers strides) where
  abbrev card : Card
  card = card_of numbers strides

  passed : Checked card
  passed = checked card a.admitted

  pub length_at : (axis : ℕ) → axis < 8 → get_or card.lengths axis 0 ≡ get_or numbers (32 + axis) 0
  length_at axis h = slice_at numbers 32 40 0 axis (omega arith)

  pub length_short : (axis : ℕ) → axis < 8 → get_or card.lengths axis 0 ≤ most_length
  length_short axis h =
      let both = (and-eq-true_iff (all (within 1 most_length) card.lengths) (leb (product card.lengths) most_cells)).0 passed.space in
      (within_numbers 1 most_length (get_or card.lengths axis 0)
      (all_at (within 1 most_length) card.lengths axis 0 both.0 (omega (arith, eight_lengths {strides = strides} a.whole)))).1

  pub spaced : Spaced numbers
  spaced =
      let p = permitted_numbers card.swizzle.m card.swizzle.b card.swizzle.s passed.swizzle in
      record { short = λ axis h. omega (arith, length_at axis h, length_short axis h); few_bits = omega (arith, p.most_m, p.most_b) }

  -- the ends that were found lie inside: the card stays inside
  pub ends_stay : {low high : List ℤ} → EndSums card false low → EndSums card true high → Between low high numbers → Stays card
  ends_stay {low} {high} l h b = record {
    low = λ axis small.
        elim (ℕ_discrete axis last_axis) [
          | yes m ↦ rw (m, sym (l.there last_axis (omega arith))) b.m.from_zero
          | no other ↦ rw (sym (l.there axis small)) (b.axes.from_zero axis (omega arith))
        ];
    high = λ axis small. rw (sym (h.there axis (omega arith)), length_at axis (omega arith)) (b.axes.below axis small);
    m_high = rw (sym (h.there last_axis (omega arith)), length_at last_axis (omega arith)) b.m.below;
  }
