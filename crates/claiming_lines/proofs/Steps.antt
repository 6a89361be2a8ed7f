-- One step of a stretch and of a line, each a cell more by one law, and a line of step 1 without swizzle as a stretch, since its cells are one after the other.
use mathlib.Core.Path.{◌≡◌, refl, sym, ap, ap₂, ◌∙◌, subst}
use mathlib.Core.Bool.{Bool, true, ◌&&◌, and-eq-true_iff}
use mathlib.Core.Logic.{⊎_elim}
use mathlib.Core.List.{List}
use Prim.Native.Nat.{ℕ, ◌+◌, ◌-◌, ◌^◌, ◌≤◌, ◌<◌}
use native.Mathlib.Omega.{arith}
use borrow.Author.Count.{below_more}
use borrow.Author.Tests.{eqb-true}
use lib.Dec.{eqb}
use lib.IntN.{ℤ, pos, negsuc, nat_abs, ◌+ℤ◌, ◌*ℤ◌}
use lib.ListN.{length, get_or, set}
use Rattle.laws.proofs.Parts.{whole, parts_sum, parts_times}
use Rattle.swizzle.specs.Swizzle.{swizzled}
use Rattle.swizzle.proofs.Theorems.{no_swizzle}
use Rattle.swizzle.specs.declared.Swizzle.{Swizzle}
use Rattle.rules.specs.Rules.{swizzled_z}
use Rattle.rules_linear.proofs.Times.{times_sum, no_step}
use Rattle.copies_runs.specs.declared.LevelAndM.{LevelAndM}
use Rattle.claiming_lines.specs.Lines.{CellNumbered, CellKept, Lined, level_after, m_after, line_cell, LineThere, StretchThere}
use Rattle.claiming_lines.proofs.Lines.{lined_more}

-- a stretch looked at, one cell more
pub free_more : (table : List ℕ) (from k : ℕ) (free : Bool) → (free ≡ true → (j : ℕ) → j < k → get_or table (from + j) 0 ≡ 0)
    → (free && eqb (get_or table (from + k) 0) 0) ≡ true → (j : ℕ) → j < k + 1 → get_or table (from + j) 0 ≡ 0
free_more table from k free so_far e =
    let both = (and-eq-true_iff free (eqb (get_or table (from + k) 0) 0)).0 e in
    below_more (λ j. get_or table (from + j) 0 ≡ 0) k (so_far both.0) (eqb-true (get_or table (from + k) 0) 0 both.1)

-- a free stretch numbered, one cell more
module _ (from first many k : ℕ) (before after : List ℕ) (h : k < many) (inside : from + many ≤ length before)
    (free : (j : ℕ) → j < many → get_or before (from + j) 0 ≡ 0) (l : Lined (λ j. from + j) (λ j. first + j) k before after) where
  free_still : get_or after (from + k) 0 ≡ 0
  free_still =
      ⊎_elim (λ (m : CellNumbered (λ j. from + j) (λ j. first + j) k before after (from + k)). absurd (omega (arith, m.below, m.there)))
      (λ (o : CellKept (λ j. from + j) k before after (from + k)). o.same ∙ free k h)
      (l.each (from + k))

  pub number_more : {entry : ℕ} → entry ≡ first + k + 1 → Lined (λ j. from + j) (λ j. first + j) (k + 1) before (set after (from + k) entry)
  number_more e = rw e (lined_more (λ j. from + j) (λ j. first + j) k before after l (omega (arith, l.size)) free_still)

-- a line, one cell more
module _ (by : Swizzle) (start step : LevelAndM) (first done : ℕ) (before after : List ℕ) (l : Lined (line_cell by start step) (λ j. first + j) done before after) where
  pub cell_found : {cell : ℕ} {level m : ℤ} → level ≡ level_after start step done → m ≡ m_after start step done → pos cell ≡ level +ℤ swizzled_z by m
      → cell ≡ line_cell by start step done
  cell_found e d h = ap nat_abs (h ∙ ap₂ (λ (x y : ℤ). x +ℤ swizzled_z by y) e d)

  pub line_more : {cell entry : ℕ} → cell ≡ line_cell by start step done → entry ≡ first + done + 1 → cell < length after → get_or after cell 0 ≡ 0
      → Lined (line_cell by start step) (λ j. first + j) (done + 1) before (set after cell entry)
  line_more {cell} {entry} e d h free =
      subst (λ (n : ℕ). Lined (line_cell by start step) (λ j. first + j) (done + 1) before (set after n entry)) (sym e)
      (rw d (lined_more (line_cell by start step) (λ j. first + j) done before after l
      (subst (λ (n : ℕ). n < length after) e h) (subst (λ (n : ℕ). get_or after n 0 ≡ 0) e free)))

-- a line without swizzle whose step is 1 is a stretch
module _ (by : Swizzle) (start step : LevelAndM) (first many : ℕ) (table : List ℕ) (l : LineThere by start step first many table) (straight : by.b ≡ 0)
    (one : step.level +ℤ step.m ≡ pos 1) where
  unbent : (z : ℤ) → swizzled_z by z ≡ z
  unbent (pos n) = ap pos (ap (λ (b : ℕ). swizzled by.m b by.s n) straight ∙ no_swizzle by.m by.s n)
  unbent (negsuc n) = refl

  abbrev pub from : ℕ
  from = (l.cells 0 l.some).cell

  pub from_is : start.level +ℤ start.m ≡ pos from
  from_is =
      let c = l.cells 0 l.some in
      sym (c.there ∙ ap₂ (λ (x y : ℤ). x +ℤ y) (sym (no_step start.level step.level)) (sym c.m_there ∙ unbent (m_after start step 0) ∙ sym (no_step start.m step.m)))

  swap : (a b c d : ℤ) → (a +ℤ b) +ℤ (c +ℤ d) ≡ (a +ℤ c) +ℤ (b +ℤ d)
  swap a b c d = omega (whole, parts_sum a b, parts_sum c d, parts_sum (a +ℤ b) (c +ℤ d), parts_sum a c, parts_sum b d, parts_sum (a +ℤ c) (b +ℤ d))

  stretched : (j : ℕ) → level_after start step j +ℤ swizzled_z by (m_after start step j) ≡ pos (from + j)
  stretched j =
      ap (λ (z : ℤ). level_after start step j +ℤ z) (unbent (m_after start step j))
      ∙ swap start.level (pos j *ℤ step.level) start.m (pos j *ℤ step.m)
      ∙ ap₂ (λ (x y : ℤ). x +ℤ y) from_is (sym (times_sum j step.level step.m) ∙ ap (λ (z : ℤ). pos j *ℤ z) one)
      ∙ omega (whole, parts_times j (pos 1), parts_sum (pos from) (pos j *ℤ pos 1))

  pub stretch_cell : (j : ℕ) → from + j ≡ line_cell by start step j
  stretch_cell j = sym (ap nat_abs (stretched j))

  pub stretch_there : StretchThere first from many table
  stretch_there =
      let last : (k : ℕ) → k + 1 ≡ many → (from + many ≤ length table) × (from + many ≤ 2 ^ 32) =
      λ k e.
      let h : k < many = omega arith in
      let c = l.cells k h in
      let same : c.cell ≡ from + k = ap nat_abs (c.there ∙ ap (λ (z : ℤ). level_after start step k +ℤ z) (sym c.m_there) ∙ stretched k) in
      (omega (arith, l.inside k h, stretch_cell k), omega (arith, c.few)) in
      let k : ℕ = many - 1 in
      let both = last k (omega (arith, l.some)) in
      record { some = l.some; small = l.small; inside = both.0; room = both.1 }
