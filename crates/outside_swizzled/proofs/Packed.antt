-- m on an admitted card that is packed: what is added to it is read off the strides, and lies far inside a word.
use mathlib.Core.Path.{◌≡◌, sym, ap, ◌∙◌}
use mathlib.Core.List.{List}
use Prim.Native.Nat.{ℕ, ◌+◌, ◌*◌, ◌-◌, ◌%◌, ◌^◌, ◌≤◌, ◌<◌}
use native.Mathlib.Decide.{dec_lt}
use native.Mathlib.Omega.{arith}
use lib.IntN.{ℤ, pos, nat_abs, ◌+ℤ◌, ◌*ℤ◌, +ℤ_assoc}
use lib.ListN.{length, get_or, get_or-eq_default}
use Rattle.laws.proofs.Signed.{sum_far}
use Rattle.card.specs.Limits.{last_axis}
use Rattle.card.specs.Card.{listed}
use Rattle.card.specs.Packed.{card_of, Admits}
use Rattle.card.specs.declared.Card.{Card}
use Rattle.card.proofs.ReadBack.{slice_at}
use Rattle.card.proofs.Admitted.{checked, numbered, fitting}
use Rattle.rules.specs.Rules.{part, sum}
use Rattle.copies_sums.specs.Walks.{roomy}
use Rattle.copies_sums.proofs.Turn.{along_room}
use Rattle.copies.proofs.Cards.{walkable_shard, walkable_replica, offset_sums}
use Rattle.rules_linear.specs.Runs.{run_length}
use Rattle.rules_linear.specs.Leaving.{Sought, Leaves}
use Rattle.rules_linear.proofs.Leaving.{sought_alike}
use Rattle.outside_swizzled.specs.Doubt.{m_adds, CopiesAdd, MLeaves}
use Rattle.outside_swizzled.proofs.Laws.{run_from}

module _ (numbers : List ℕ) (strides : List ℤ) (a : Admits numbers strides) where
  abbrev card : Card
  card = card_of numbers strides

  pub offset_at : get_or card.offset last_axis (pos 0) ≡ get_or strides 23 (pos 0)
  offset_at = slice_at strides 16 24 (pos 0) last_axis (omega arith)

  pub offset_near : nat_abs (get_or strides 23 (pos 0)) ≤ roomy
  offset_near = rw (sym offset_at) ((offset_sums numbers strides a).small last_axis)

  pub copy_near : (combination : ℕ) → nat_abs (part card.replica combination last_axis) ≤ roomy
  copy_near combination = omega (arith, along_room numbers strides 1 (walkable_replica numbers strides a) 0 combination last_axis)

  pub element_near : (flat : ℕ) → nat_abs (part card.shard flat last_axis) ≤ roomy
  element_near flat = omega (arith, along_room numbers strides 0 (walkable_shard numbers strides a) 0 flat last_axis)

  pub adds_near : (combination : ℕ) → nat_abs (m_adds card combination) ≤ 2 * roomy
  adds_near combination =
      omega (arith, sum_far (get_or card.offset last_axis (pos 0)) (part card.replica combination last_axis), (offset_sums numbers strides a).small last_axis, copy_near combination)

  -- an element leaves on m exactly where one of its copies, by what it adds, does
  module _ (adds : List ℤ) (is : CopiesAdd card adds) (flat : ℕ) where
    same_m : (r : ℕ) → r < length adds → part card.shard flat last_axis +ℤ get_or adds r (pos 0) ≡ sum card flat r last_axis
    same_m r h =
        ap (λ (z : ℤ). part card.shard flat last_axis +ℤ z) (is.there r h)
        ∙ sym (+ℤ_assoc (part card.shard flat last_axis) (get_or card.offset last_axis (pos 0)) (part card.replica r last_axis))

    same_length : get_or card.lengths last_axis 0 ≡ get_or numbers 39 0
    same_length = slice_at numbers 32 40 0 last_axis (omega arith)

    pub m_leaving : MLeaves numbers adds (part card.shard flat last_axis) → Leaves card flat last_axis
    m_leaving l = record {
      combination = l.copy;
      copy = omega (arith, l.below, is.one_each);
      off = rw (same_length, sym (same_m l.copy l.below)) l.off;
    }

    pub leaving_m : Leaves card flat last_axis → MLeaves numbers adds (part card.shard flat last_axis)
    leaving_m l =
        let below : l.combination < length adds = omega (arith, l.copy, is.one_each) in
        record { copy = l.combination; below = below; off = rw (same_m l.combination below, sym same_length) l.off }

  pub adds_all_near : (adds : List ℤ) → CopiesAdd card adds → (r : ℕ) → nat_abs (get_or adds r (pos 0)) ≤ 2 ^ 60
  adds_all_near adds is r =
      elim (dec_lt r (length adds)) [
        | yes h ↦ omega (arith, ap nat_abs (is.there r h), adds_near r)
        | no h ↦ rw (get_or-eq_default adds (pos 0) {n = r} (omega arith)) (omega arith)
      ]

  -- the elements of a run from one on
  pub run_leaves : (adds : List ℤ) → CopiesAdd card adds → (flat count found : ℕ) → 0 < run_length (listed card.shard) → count ≤ run_length (listed card.shard) - flat % run_length (listed card.shard)
      → Sought (λ c. MLeaves numbers adds (part card.shard flat last_axis +ℤ pos c *ℤ part card.shard 1 last_axis)) count found
      → Sought (λ c. Leaves card (flat + c) last_axis) count found
  run_leaves adds is flat count found some few s =
      let fit = (fitting card.shard (numbered card (checked card a.admitted).numbers).shard).extents in
      let at : (c : ℕ) → c < count → part card.shard (flat + c) last_axis ≡ part card.shard flat last_axis +ℤ pos c *ℤ part card.shard 1 last_axis =
      λ c h. run_from card.shard fit flat c some (omega arith) in
      sought_alike (λ c h m. m_leaving adds is (flat + c) (rw (at c h) m)) (λ c h l. rw (sym (at c h)) (leaving_m adds is (flat + c) l)) s
