-- Levels in a run grow by one step, like the sums they are made of; and the first copy of an element adds nothing to its base.
use mathlib.Core.Path.{◌≡◌, refl, sym, ap, ap₂, ◌∙◌, fun_ext}
use mathlib.Core.Bool.{cond}
use mathlib.Core.List.{List, [], ◌∷◌, map}
use Prim.Native.Nat.{ℕ, ◌+◌, ◌*◌, ◌/◌, ◌%◌, ◌<◌}
use native.Mathlib.Nat.{zero-div, zero-mod}
use native.Mathlib.Omega.{arith}
use lib.Dec.{eqb}
use lib.IntN.{ℤ, pos, ◌+ℤ◌, ◌*ℤ◌, +ℤ_idl, +ℤ_comm, zero-*ℤ}
use lib.ListN.{get_or, replicate}
use Rattle.laws.proofs.Parts.{whole, parts_sum}
use Rattle.card.specs.Lists.{product}
use Rattle.card.specs.Card.{listed, extent_of}
use Rattle.card.specs.declared.Iter.{Iter}
use Rattle.card.specs.declared.Iters.{Iters}
use Rattle.card.specs.declared.Card.{Card}
use Rattle.rules.specs.RowMajor.{components}
use Rattle.rules.specs.Rules.{axes, added, part}
use Rattle.rules.specs.Walked.{walked}
use Rattle.rules_linear.specs.Runs.{run_length}
use Rattle.rules_linear.specs.Levels.{level, seven, level_at, base}
use Rattle.rules_linear.proofs.Times.{moved_none}
use Rattle.rules_linear.proofs.Runs.{Fit, part_run}
use Rattle.rules_linear.proofs.Levels.{weighed_sum_lem, weighed_times}

pub between : (a b c : ℤ) → a +ℤ b +ℤ c ≡ a +ℤ c +ℤ b
between a b c = omega (whole, parts_sum a b, parts_sum (a +ℤ b) c, parts_sum a c, parts_sum (a +ℤ c) b)

module _ (card : Card) (fit : Fit (listed card.shard)) (q c : ℕ) (h : c < run_length (listed card.shard)) where
  abbrev first : ℕ
  first = q * run_length (listed card.shard)

  pub base_run : (axis : ℕ) → base card (first + c) axis ≡ base card first axis +ℤ pos c *ℤ part card.shard 1 axis
  base_run axis =
      let offset = get_or card.offset axis (pos 0) in
      ap (λ (z : ℤ). z +ℤ offset) (part_run card.shard q c axis fit h)
      ∙ between (part card.shard first axis) (pos c *ℤ part card.shard 1 axis) offset

  pub level_run : level_at card.lengths (base card (first + c)) ≡ level_at card.lengths (base card first) +ℤ pos c *ℤ level_at card.lengths (part card.shard 1)
  level_run =
      ap (level_at card.lengths) (fun_ext base_run)
      ∙ weighed_sum_lem card.lengths (base card first) (λ axis. pos c *ℤ part card.shard 1 axis) seven
      ∙ ap (λ (z : ℤ). level_at card.lengths (base card first) +ℤ z) (weighed_times card.lengths c (part card.shard 1) seven)

-- at index 0 nothing is added
added_none : (axis : ℕ) (l : List Iter) → added axis l (components (map extent_of l) 0) ≡ pos 0
added_none axis [] = refl
added_none axis (iter ∷ l) =
    let zero : 0 / product (map extent_of l) % iter.extent ≡ 0 = ap (λ (n : ℕ). n % iter.extent) (zero-div (product (map extent_of l))) ∙ zero-mod iter.extent in
    ap₂ (λ (n : ℕ) (z : ℤ). cond (eqb iter.axis axis) (pos n *ℤ iter.stride) (pos 0) +ℤ z) zero (added_none axis l)
    ∙ ap (λ (z : ℤ). z +ℤ pos 0) (moved_none (eqb iter.axis axis) iter.stride)

pub part_none : (iters : Iters) (axis : ℕ) → part iters 0 axis ≡ pos 0
part_none iters axis = added_none axis (listed iters)

pub level_none : (lengths : List ℕ) (f : ℕ → ℤ) → ((axis : ℕ) → f axis ≡ pos 0) → level_at lengths f ≡ pos 0
level_none lengths f nothing =
    ap (level_at lengths) (fun_ext (λ axis. nothing axis ∙ sym (zero-*ℤ (f axis))))
    ∙ weighed_times lengths 0 f seven
    ∙ zero-*ℤ (level_at lengths f)

-- what a walk from the offset leaves is the base, and what one from zeros leaves is the part
pub walked_base : (card : Card) (flat : ℕ) → walked card.shard flat card.offset ≡ map (base card flat) axes
unfolding walked
walked_base card flat = ap (λ (f : ℕ → ℤ). map f axes) (fun_ext (λ axis. +ℤ_comm (get_or card.offset axis (pos 0)) (part card.shard flat axis)))

abbrev pub zeros : List ℤ
zeros = replicate 8 (pos 0)

pub walked_part : (iters : Iters) (index : ℕ) → walked iters index zeros ≡ map (part iters index) axes
unfolding walked
walked_part iters index = ap (λ (f : ℕ → ℤ). map f axes) (fun_ext (λ axis. +ℤ_idl (part iters index axis)))

pub level_at_lem : (lengths : List ℕ) (f : ℕ → ℤ) → level lengths (map f axes) ≡ level_at lengths f
level_at_lem lengths f = refl
