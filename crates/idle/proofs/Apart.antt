-- Where there is no idle pair, two different copies of one element never lie in one cell: in one cell all coordinates are the same, the swizzle
-- is one-to-one, and the shard and the offset give both the same.
use Rattle.std.specs.Prelude.{Ok}
use mathlib.Core.Path.{◌≡◌, refl, sym, ap, ◌∙◌}
use mathlib.Core.Bool.{true}
use mathlib.Core.List.{List, map}
use Prim.Native.Nat.{ℕ, ◌<◌}
use native.Mathlib.Decide.{ℕ_discrete, dec_lt}
use native.Mathlib.Omega.{arith}
use lib.IntN.{ℤ, pos, negsuc, ◌+ℤ◌, ◌-ℤ◌, +ℤ_comm, +ℤ-neg_ℤ_cancel, pos-ne-negsuc}
use lib.ListN.{length, get_or, get_or-map}
use lib.Seq.{get_or-set_other}
use Rattle.answers.specs.Refusals.{no_refusal}
use Rattle.answers.specs.declared.Cell.{Cell}
use Rattle.swizzle.specs.Swizzle.{permitted}
use Rattle.swizzle.specs.declared.Swizzle.{Swizzle}
use Rattle.swizzle.proofs.Theorems.{demand_3_swizzle}
use Rattle.card.specs.Limits.{last_axis}
use Rattle.card.specs.Card.{copies}
use Rattle.card.specs.Admission.{admission}
use Rattle.card.specs.declared.Card.{Card}
use Rattle.card.proofs.Admitted.{Checked, checked}
use Rattle.rules.specs.Rules.{axes, part, sum, swizzled_z, finished, on_axis, coordinates, spot}
use Rattle.rules.specs.declared.Spot.TheVariants.{Inside}
use Rattle.card.proofs.ReadBack.{eight_at}
use Rattle.rules.proofs.Spots.{cells_equal}
use Rattle.rules.proofs.Whole.{Lies, on_every_axis}
use Rattle.idle.specs.Idle.{SameSums, NoIdlePair}

-- what is added to the same is the same
pub cancel : (x a b : ℤ) → x +ℤ a ≡ x +ℤ b → a ≡ b
cancel x a b e =
    sym (+ℤ-neg_ℤ_cancel a x) ∙ ap (λ (z : ℤ). z -ℤ x) (+ℤ_comm a x ∙ e ∙ +ℤ_comm x b) ∙ +ℤ-neg_ℤ_cancel b x

-- coordinates that lie on an axis are told apart there
apart_on_axis : (n : ℕ) (x y : ℤ) → Lies n x → Lies n y → on_axis x ≡ on_axis y → x ≡ y
apart_on_axis n (pos a) (pos b) l m e = ap pos e
apart_on_axis n (pos a) (negsuc b) l m e = absurd m.0.le
apart_on_axis n (negsuc a) y l m e = absurd l.0.le

-- a permitted swizzle is one-to-one, below zero too
swizzle_apart : (w : Swizzle) → permitted w.m w.b w.s ≡ true → (x y : ℤ) → swizzled_z w x ≡ swizzled_z w y → x ≡ y
swizzle_apart w p (pos a) (pos b) e = ap pos ((demand_3_swizzle w.m w.b w.s p).once a b (cc))
swizzle_apart w p (pos a) (negsuc b) e = absurd (pos-ne-negsuc _ b e)
swizzle_apart w p (negsuc a) (pos b) e = absurd (pos-ne-negsuc _ a (sym e))
swizzle_apart w p (negsuc a) (negsuc b) e = e

module _ (card : Card) (flat : ℕ) where
  -- the finished coordinate of an axis: the sum there, on m swizzled
  sums : ℕ → List ℤ
  sums r = map (sum card flat r) axes

  finished_m : (r : ℕ) → get_or (finished card flat r) last_axis (pos 0) ≡ swizzled_z card.swizzle (sum card flat r last_axis)
  finished_m r = refl

  finished_other : (r axis : ℕ) → axis < 8 → (axis ≡ last_axis → ⊥) → get_or (finished card flat r) axis (pos 0) ≡ sum card flat r axis
  finished_other r axis h other =
      get_or-set_other (map (sum card flat r) axes) last_axis axis _ (pos 0) other ∙ eight_at (sum card flat r) (pos 0) axis h

  -- the same finished coordinate is the same sum
  same_sum : permitted card.swizzle.m card.swizzle.b card.swizzle.s ≡ true → (r s axis : ℕ) → axis < 8
      → get_or (finished card flat r) axis (pos 0) ≡ get_or (finished card flat s) axis (pos 0) → sum card flat r axis ≡ sum card flat s axis
  same_sum p r s axis h e =
      elim (ℕ_discrete axis last_axis) [
        | yes m ↦
            rw m (swizzle_apart card.swizzle p (sum card flat r last_axis) (sum card flat s last_axis) (rw m at e))
        | no other ↦ sym (finished_other r axis h other) ∙ e ∙ finished_other s axis h other
      ]

  module _ (admitted : admission card ≡ no_refusal) (eight : length card.lengths ≡ 8) (r s : ℕ) (cell : Cell)
      (here : spot card flat r ≡ Inside cell) (there : spot card flat s ≡ Inside cell) where
    passed : Checked card
    passed = checked card admitted

    same_coordinate : (axis : ℕ) → on_axis (get_or (finished card flat r) axis (pos 0)) ≡ on_axis (get_or (finished card flat s) axis (pos 0))
    unfolding coordinates
    same_coordinate axis =
        sym (get_or-map on_axis (finished card flat r) axis (pos 0))
        ∙ ap (λ (l : List ℕ). get_or l axis 0) ((cells_equal card flat r flat s cell cell here there).0 refl)
        ∙ get_or-map on_axis (finished card flat s) axis (pos 0)

    -- two copies of one element in one cell are of combinations that give the same sums
    pub one_cell_same_sums : SameSums card.replica r s
    one_cell_same_sums axis h =
        cancel (part card.shard flat axis +ℤ get_or card.offset axis (pos 0)) (part card.replica r axis) (part card.replica s axis)
        (same_sum passed.swizzle r s axis h
        (apart_on_axis (get_or card.lengths axis 0) (get_or (finished card flat r) axis (pos 0)) (get_or (finished card flat s) axis (pos 0))
        (on_every_axis card eight passed.space flat r cell here axis h)
        (on_every_axis card eight passed.space flat s cell there axis h)
        (same_coordinate axis)))

-- two different copies of one element never lie in one cell
pub copies_apart : (card : Card) → admission card ≡ no_refusal → length card.lengths ≡ 8 → NoIdlePair card.replica → (flat r s : ℕ) (cell : Cell)
    → r < copies card → s < copies card → spot card flat r ≡ Inside cell → spot card flat s ≡ Inside cell → r ≡ s
copies_apart card admitted eight none flat r s cell hr hs here there =
    elim (dec_lt r s) [
      | yes less ↦ absurd (none r s less hs (one_cell_same_sums card flat admitted eight r s cell here there))
      | no more ↦
          elim (dec_lt s r) [
            | yes less ↦ absurd (none s r less hr (one_cell_same_sums card flat admitted eight s r cell there here))
            | no least ↦ omega arith
          ]
    ]
