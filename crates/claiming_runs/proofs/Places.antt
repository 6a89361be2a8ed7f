-- The cells of a card's elements by level and m: inside the space each is there, since its cell is the linear form of its sums, neither level nor m is far from zero, and in a run both grow by one step.
use Rattle.std.specs.Prelude.{Ok}
use mathlib.Core.Path.{◌≡◌, refl, sym, ap, ap₂, ◌∙◌, subst, fun_ext}
use mathlib.Core.Bool.{true, and-eq-true_iff, true≢false}
use mathlib.Core.List.{List, [], ◌∷◌, map}
use Prim.Native.Nat.{ℕ, zero, suc, ◌+◌, ◌*◌, ◌^◌, ◌≤◌, ◌<◌}
use native.Mathlib.Nat.{mul-le-mul_right, lt_of_mul-lt-mul_right, suc-mul}
use native.Mathlib.Numerals.{add-one}
use native.Mathlib.Decide.{dec_lt}
use native.Mathlib.Omega.{arith}
use lib.Dec.{leb}
use lib.IntN.{ℤ, pos, nat_abs, ◌+ℤ◌, ◌*ℤ◌, +ℤ_idr, zero-*ℤ}
use lib.ListN.{length, get_or, get_or-eq_default}
use lib.Seq.{slice, get_or-take}
use Rattle.answers.specs.Refusals.{no_refusal}
use Rattle.card.specs.Lists.{all, within, product}
use Rattle.card.specs.Limits.{last_axis, most_length, most_cells}
use Rattle.card.specs.Card.{listed, elements, copies, cells}
use Rattle.card.specs.Packed.{iters_of, swizzle_of, card_of, Admits}
use Rattle.card.specs.Admission.{admission}
use Rattle.card.specs.declared.Card.{Card}
use Rattle.card.proofs.Admitted.{Checked, checked, numbered, fitting, sized}
use Rattle.card.proofs.ReadBack.{eight_lengths}
use Rattle.card.proofs.Lists.{all_at, within_numbers}
use Rattle.rules.specs.RowMajor.{inside}
use Rattle.rules.specs.Rules.{axes, part, swizzled_z, on_axis, coordinates, spot}
use Rattle.rules.specs.Copies.{cell_of}
use Rattle.rules.specs.Reuse.{leader, Unmarked}
use Rattle.rules.specs.declared.Spot.TheVariants.{Inside}
use Rattle.rules.proofs.RowMajor.{inside_parts}
use Rattle.rules.proofs.Reuse.{leads_itself}
use Rattle.rules.proofs.Spots.{spot_numbered, cell_below}
use Rattle.copies_sums.specs.Walks.{Sums}
use Rattle.copies.proofs.Cards.{base_sums}
use Rattle.rules_linear.specs.Levels.{seven, level_at, base}
use Rattle.rules_linear.specs.Runs.{run_length}
use Rattle.rules_linear.proofs.Runs.{Fit, runs_of}
use Rattle.rules_linear.proofs.Levels.{cell_linear, weighed_far, weighed_sum_lem, weighed_times, coordinate_is}
use Rattle.rules_linear.proofs.Cells.{walked_base, walked_part, part_none, level_none, base_run}
use Rattle.copies_runs.specs.Clauses.{roomy_level, Adds, CellThere}
use Rattle.copies_runs.specs.declared.LevelAndM.{LevelAndM}
use Rattle.copies_runs.proofs.Cards.{walkable, copy_sums}
use Rattle.claims.specs.Claims.{OwnedTable, occupied}
use Rattle.judgement.specs.Judgement.{placed, AllInside}
use Rattle.judgement.proofs.Run.{lies_inside}
use Rattle.claiming_runs.specs.Clauses.{Copying, Running, RunsBy}

-- coordinates inside are below their lengths
inside_at : (ns xs : List ℕ) (k : ℕ) → inside ns xs ≡ true → k < length ns → get_or xs k 0 < get_or ns k 0
inside_at [] xs k i h = absurd (omega arith)
inside_at (n ∷ ns) [] k i h = absurd (true≢false (sym i))
inside_at (n ∷ ns) (x ∷ xs) zero i h = (inside_parts n ns x xs i).0
inside_at (n ∷ ns) (x ∷ xs) (suc k) i h = inside_at ns xs k (inside_parts n ns x xs i).1 (omega arith)

module _ (numbers : List ℕ) (strides : List ℤ) (a : Admits numbers strides) where
  abbrev card : Card
  card = card_of numbers strides

  passed : Checked card
  passed = checked card a.admitted

  eight : length card.lengths ≡ 8
  eight = eight_lengths {strides = strides} a.whole

  short : all (within 1 most_length) card.lengths ≡ true
  short = ((and-eq-true_iff (all (within 1 most_length) card.lengths) (leb (product card.lengths) most_cells)).0 passed.space).0

  module _ (all_inside : AllInside card) (f r : ℕ) (hf : f < elements card) (hr : r < copies card) where
    abbrev cell : ℕ
    cell = cell_of (spot card f r)

    there : spot card f r ≡ Inside (record { 0 = cell })
    there = lies_inside (spot card f r) (all_inside f r hf hr)

    abbrev on_m : ℤ
    on_m = swizzled_z card.swizzle (base card f last_axis +ℤ part card.replica r last_axis)

    m_below : on_axis on_m < get_or card.lengths last_axis 0
    unfolding coordinates
    m_below = inside_at card.lengths (coordinates card f r) last_axis (spot_numbered card f r (record { 0 = cell }) there).within (omega (arith, eight))

    m_short : get_or card.lengths last_axis 0 ≤ most_length
    m_short = (within_numbers 1 most_length (get_or card.lengths last_axis 0) (all_at (within 1 most_length) card.lengths last_axis 0 short (omega (arith, eight)))).1

    m_is : on_m ≡ pos (on_axis on_m)
    m_is = sym (coordinate_is on_m (get_or card.lengths last_axis 0) m_below m_short)

    pub copy_there : {level m : ℤ} → level ≡ level_at card.lengths (base card f) +ℤ level_at card.lengths (part card.replica r)
        → m ≡ base card f last_axis +ℤ part card.replica r last_axis → CellThere (swizzle_of numbers) level m
    copy_there {level} {m} e d = record {
      permits = passed.swizzle;
      cell = cell;
      on_m = on_axis on_m;
      few = omega (arith, cell_below card f r (record { 0 = cell }) there, (sized card a.admitted).most_cells_lem);
      short = omega (arith, m_below, m_short);
      m_there = ap (swizzled_z card.swizzle) d ∙ m_is;
      there = cell_linear card f r (record { 0 = cell }) passed.space eight there ∙ ap₂ (λ (x y : ℤ). x +ℤ y) (sym e) m_is;
    }

    pub cell_short : cell < cells card
    cell_short = cell_below card f r (record { 0 = cell }) there

    -- the only copy of an element without replica adds nothing
    none : r ≡ 0 → (axis : ℕ) → part card.replica r axis ≡ pos 0
    none z axis = ap (λ (n : ℕ). part card.replica n axis) z ∙ part_none card.replica axis

    level_alone : r ≡ 0 → {level : ℤ} → level ≡ level_at card.lengths (base card f)
        → level ≡ level_at card.lengths (base card f) +ℤ level_at card.lengths (part card.replica r)
    level_alone z e =
        e
        ∙ sym (+ℤ_idr (level_at card.lengths (base card f)))
        ∙ ap (λ (x : ℤ). level_at card.lengths (base card f) +ℤ x) (sym (level_none card.lengths (part card.replica r) (none z)))

    m_alone : r ≡ 0 → {m : ℤ} → m ≡ base card f last_axis → m ≡ base card f last_axis +ℤ part card.replica r last_axis
    m_alone z d = d ∙ sym (+ℤ_idr (base card f last_axis)) ∙ ap (λ (x : ℤ). base card f last_axis +ℤ x) (sym (none z last_axis))

    pub single_there : r ≡ 0 → {level m : ℤ} → level ≡ level_at card.lengths (base card f) → m ≡ base card f last_axis → CellThere (swizzle_of numbers) level m
    single_there z e d = copy_there (level_alone z e) (m_alone z d)

    -- a number that the level and the swizzled m add up to is the cell
    pub cell_is : {level m : ℤ} (n : ℕ) → level ≡ level_at card.lengths (base card f) +ℤ level_at card.lengths (part card.replica r)
        → m ≡ base card f last_axis +ℤ part card.replica r last_axis → pos n ≡ level +ℤ swizzled_z card.swizzle m → n ≡ cell
    cell_is {level} {m} n e d h =
        ap nat_abs (h ∙ ap₂ (λ (x y : ℤ). x +ℤ swizzled_z card.swizzle y) e d ∙ sym (cell_linear card f r (record { 0 = cell }) passed.space eight there))

    pub single_is : r ≡ 0 → {level m : ℤ} (n : ℕ) → level ≡ level_at card.lengths (base card f) → m ≡ base card f last_axis
        → pos n ≡ level +ℤ swizzled_z card.swizzle m → n ≡ cell
    single_is z n e d h = cell_is n (level_alone z e) (m_alone z d) h

  -- sums that are near have a level and an m that are
  module _ (g : ℕ → ℤ) (sums : Sums (map g axes)) where
    seven_small : (i : ℕ) → nat_abs (get_or (map g seven) i (pos 0)) ≤ 2 ^ 40
    seven_small i =
        elim (dec_lt i 7) [
          | yes h ↦ rw (sym (get_or-take 7 (map g axes) i (pos 0) h)) at (sums.small i)
          | no h ↦ rw (get_or-eq_default (map g seven) (pos 0) {n = i} (omega arith)) (omega arith)
        ]

    pub level_near : nat_abs (level_at card.lengths g) ≤ roomy_level
    level_near =
        omega (arith, weighed_far card.lengths (map g seven) (2 ^ 40) short (sized card a.admitted).most_cells_lem seven_small)

    pub m_near : nat_abs (g last_axis) ≤ roomy_level
    m_near = omega (arith, sums.small last_axis)

  base_small : (f : ℕ) → Sums (map (base card f) axes)
  base_small f = rw (walked_base card f) at (base_sums numbers strides a f)

  part_small : (list : ℕ) → list ≤ 1 → (index : ℕ) → Sums (map (part (iters_of numbers strides list) index) axes)
  part_small list h index = rw (walked_part (iters_of numbers strides list) index) at (copy_sums numbers strides list (walkable numbers strides a list h) index)

  -- where an element begins is near, and so is what a list adds
  pub base_near : (f : ℕ) {place : LevelAndM} → Adds card.lengths (base card f) place → (nat_abs place.level ≤ roomy_level) × (nat_abs place.m ≤ roomy_level)
  base_near f e = (rw e.level_is (level_near (base card f) (base_small f)), rw e.m_is (m_near (base card f) (base_small f)))

  pub part_near : (list : ℕ) → list ≤ 1 → (index : ℕ) {place : LevelAndM} → Adds card.lengths (part (iters_of numbers strides list) index) place
      → (nat_abs place.level ≤ roomy_level) × (nat_abs place.m ≤ roomy_level)
  part_near list h index e =
      let g = part (iters_of numbers strides list) index in
      (rw e.level_is (level_near g (part_small list h index)), rw e.m_is (m_near g (part_small list h index)))

  pub copy_near : {levels ms : List ℤ} → Copying card levels ms → (r : ℕ) → r < copies card → (nat_abs (get_or levels r (pos 0)) ≤ roomy_level) × (nat_abs (get_or ms r (pos 0)) ≤ roomy_level)
  copy_near {levels} {ms} adds r h =
      part_near 1 (omega arith) r {place = record { level = get_or levels r (pos 0); m = get_or ms r (pos 0) }} (record { level_is = adds.levels_at r h; m_is = adds.ms_at r h })

-- runs of one element, and those of the last iter whose extent is not 1
module _ (card : Card) (admitted : admission card ≡ no_refusal) where
  pub runs_by_one : RunsBy card 1
  runs_by_one = record {
    some = omega arith;
    few = (sized card admitted).some_elements;
    runs = elements card;
    whole_runs = omega arith;
    goes_on = λ q c axis h.
        let none : c ≡ 0 = omega arith in
        ap (λ (f : ℕ). base card f axis) (omega arith)
        ∙ sym (+ℤ_idr (base card (q * 1) axis))
        ∙ ap (λ (z : ℤ). base card (q * 1) axis +ℤ z) (sym (zero-*ℤ (part card.shard 1 axis)) ∙ ap (λ (n : ℕ). pos n *ℤ part card.shard 1 axis) (sym none));
    lead = λ q c h e leads. let same : q * 1 ≡ q * 1 + c = omega arith in subst (λ (f : ℕ). leader card f ≡ f) same leads;
    alone = λ q h follows. refl;
  }

  fit : Fit (listed card.shard)
  fit = (fitting card.shard (numbered card (checked card admitted).numbers).shard).extents

  pub runs_by_run : Unmarked card → RunsBy card (run_length (listed card.shard))
  runs_by_run unmarked =
      let r = runs_of (listed card.shard) fit in
      record {
        some = r.some;
        few = omega (arith, r.whole_runs, mul-le-mul_right (run_length (listed card.shard)) r.a_run);
        runs = r.count;
        whole_runs = r.whole_runs;
        goes_on = λ q c axis h. base_run card fit q c h axis;
        lead = λ q c h e leads. leads_itself card unmarked (q * run_length (listed card.shard) + c) e;
        alone = λ q h follows. absurd (follows (leads_itself card unmarked (q * run_length (listed card.shard)) h));
      }

-- in a run each element begins by one step more
module _ (numbers : List ℕ) (strides : List ℤ) (length q : ℕ) (by : RunsBy (card_of numbers strides) length) where
  pub begins_at : {start step : LevelAndM} → Adds (slice 32 40 numbers) (base (card_of numbers strides) (q * length)) start
      → Adds (slice 32 40 numbers) (part (iters_of numbers strides 0) 1) step → (c : ℕ) → c < length
      → Adds (slice 32 40 numbers) (base (card_of numbers strides) (q * length + c))
      (record { level = start.level +ℤ pos c *ℤ step.level; m = start.m +ℤ pos c *ℤ step.m })
  begins_at {start} {step} b s c h =
      let card = card_of numbers strides in
      let ns = slice 32 40 numbers in
      record {
        level_is =
            ap₂ (λ (x y : ℤ). x +ℤ pos c *ℤ y) b.level_is s.level_is
            ∙ ap (λ (z : ℤ). level_at ns (base card (q * length)) +ℤ z) (sym (weighed_times ns c (part card.shard 1) seven))
            ∙ sym (weighed_sum_lem ns (base card (q * length)) (λ axis. pos c *ℤ part card.shard 1 axis) seven)
            ∙ ap (level_at ns) (sym (fun_ext (λ axis. by.goes_on q c axis h)));
        m_is = ap₂ (λ (x y : ℤ). x +ℤ pos c *ℤ y) b.m_is s.m_is ∙ sym (by.goes_on q c last_axis h);
      }

  -- a run that begins before the end ends there, and the next begins where it ends
  pub run_end : {first : ℕ} → first ≡ q * length → first < elements (card_of numbers strides) → first + length ≤ elements (card_of numbers strides)
  run_end {first} e h =
      let before : q < by.runs = lt_of_mul-lt-mul_right length (omega (arith, by.whole_runs)) in
      omega (arith, by.whole_runs, mul-le-mul_right length before, suc-mul q length)

  pub run_next : {first : ℕ} → first ≡ q * length → first + length ≡ (q + 1) * length
  run_next {first} e = rw (add-one q) (omega (arith, suc-mul q length))

-- a run of a card whose smaller elements are claimed
module _ (numbers : List ℕ) (strides : List ℤ) (a : Admits numbers strides) (inside : AllInside (card_of numbers strides)) (length q : ℕ)
    (by : RunsBy (card_of numbers strides) length) {start step : LevelAndM} {table : List ℕ}
    (steps : Adds (slice 32 40 numbers) (part (iters_of numbers strides 0) 1) step) where
  pub running : (first : ℕ) → first ≡ q * length → first < elements (card_of numbers strides) → leader (card_of numbers strides) first ≡ first → Adds (slice 32 40 numbers) (base (card_of numbers strides) first) start
      → OwnedTable (placed (card_of numbers strides)) first (cells (card_of numbers strides)) table (occupied table) → Running numbers strides start step (record { first = record { 0 = first }; length = length }) table
  running first e =
      subst
      (λ (f : ℕ). f < elements (card_of numbers strides) → leader (card_of numbers strides) f ≡ f → Adds (slice 32 40 numbers) (base (card_of numbers strides) f) start → OwnedTable (placed (card_of numbers strides)) f (cells (card_of numbers strides)) table (occupied table)
      → Running numbers strides start step (record { first = record { 0 = f }; length = length }) table)
      (sym e)
      (λ h leads begins owned.
      let end = run_end numbers strides length q by refl h in
      record {
        admits = a;
        inside = inside;
        element = λ c below. omega arith;
        leads = λ c below. by.lead q c below (omega arith) leads;
        begins = λ c below. begins_at numbers strides length q by begins steps c below;
        near = part_near numbers strides a 0 (omega arith) 1 steps;
        owned = owned;
      })
