-- What the definition of the stretch means, in plain for-alls, from the laws on the checks and on prefixes.
use Rattle.std.specs.Prelude.{Result, Err, Ok}
use mathlib.Core.Path.{◌≡◌, refl, sym, ap, ◌∙◌}
use mathlib.Core.Bool.{true, not, cond}
use mathlib.Core.Logic.{◌↔◌}
use mathlib.Core.List.{List, []}
use Prim.Native.Nat.{ℕ, ◌+◌, ◌*◌, ◌≤◌, ◌<◌, min}
use native.Mathlib.Omega.{arith}
use lib.Dec.{ltb, eqb}
use lib.ListN.{length, take, drop, length-take, length-drop}
use Rattle.stretch_judged.specs.declared.Stretch.{Stretch}
use Rattle.answers.specs.Refusals.{answer}
use Rattle.answers.specs.declared.Cell.{Cell}
use Rattle.answers.specs.declared.Numbers.{Numbers}
use Rattle.answers.specs.declared.Refusal.{Refusal}
use Rattle.answers.specs.declared.Refusal.TheVariants.{Axis, Space, TooShort, CellOutside}
use Rattle.answers.proofs.OneToOne.{refusal_not_zero, read_back, refused_back, pinned, rung}
use borrow.Author.Tests.{not-true}
use Rattle.laws.proofs.Rungs.{apart, passed_by, ended_at}
use Rattle.card.specs.Lists.{product}
use Rattle.card.specs.Limits.{last_axis}
use Rattle.card.specs.Admission.{space_fits}
use Rattle.rules.specs.RowMajor.{row_major, components, inside, first_past}
use Rattle.rules.proofs.RowMajor.{components_inside, components_give_back, FirstPast, first_past_lem}
use Rattle.rules.proofs.Prefixes.{prefix_under}
use Rattle.stretch_judged.specs.Stretch.{asked, stretch_answer, stretch_of, StretchBegins, stretch_numbers, stretch_with}
use Rattle.stretch_judged.proofs.Checks.{answer_passed, answer_within}

-- two outcomes that the promise of the companion question allows are equal
pub locate_settled : (lengths : List ℕ) (axis : ℕ) (coordinates : List ℕ) (entries : ℕ) (p q : Result Stretch Refusal)
    → p ≡ stretch_answer lengths axis coordinates entries → q ≡ stretch_answer lengths axis coordinates entries → p ≡ q
locate_settled lengths axis coordinates entries p q e f = e ∙ sym f

-- and so are two that the promise of the stretch itself allows, in their entries and in their place
pub stretch_settled : (table lengths : List ℕ) (axis : ℕ) (coordinates : List ℕ) (start : ℕ × ℕ) (p q : List ℕ) (a b : ℕ × ℕ)
    → p ≡ stretch_of (stretch_answer lengths axis coordinates (length table)) table
    → StretchBegins (stretch_answer lengths axis coordinates (length table)) start a
    → q ≡ stretch_of (stretch_answer lengths axis coordinates (length table)) table
    → StretchBegins (stretch_answer lengths axis coordinates (length table)) start b
    → (p ≡ q) × (a.0 ≡ b.0) × (a.1 ≡ b.1)
stretch_settled table lengths axis coordinates start p q a b e s f t = (e ∙ sym f, s.0 ∙ sym t.0, s.1 ∙ sym t.1)

-- pinning the numbers pins the answer
stretch_at : Numbers → Result Stretch Refusal
stretch_at n = stretch_with (record { 0 = n.a }) n.b

stretch_back : (p : Result Stretch Refusal) → read_back stretch_at Err (stretch_numbers p) ≡ p
unfolding stretch_at
stretch_back (Ok stretch) = refl
stretch_back (Err r) = refused_back stretch_at Err r

pub stretch_one_to_one : (p q : Result Stretch Refusal) → stretch_numbers p ≡ stretch_numbers q → p ≡ q
stretch_one_to_one = pinned stretch_at Err stretch_numbers stretch_back

-- a stretch looks at no coordinate past its axis
pub past_axis_lem : (lengths : List ℕ) (axis : ℕ) (coordinates others : List ℕ) (entries : ℕ) → asked axis coordinates ≡ asked axis others
    → stretch_answer lengths axis coordinates entries ≡ stretch_answer lengths axis others entries
past_axis_lem lengths axis coordinates others entries e = rw e

-- the axis that refusal 12 names is the smallest one outside: its coordinate is not below its length, and each before it is
pub outside_smallest : (lengths : List ℕ) (axis : ℕ) (coordinates : List ℕ) (entries a : ℕ) → length coordinates ≡ length lengths
    → stretch_answer lengths axis coordinates entries ≡ Err (CellOutside a) → FirstPast (asked axis lengths) (asked axis coordinates) a
outside_smallest lengths axis coordinates entries a same e =
    let long = asked axis lengths in
    let near = asked axis coordinates in
    let equally : length near ≡ length long =
    length-take (axis + 1) coordinates ∙ ap (min (axis + 1)) same ∙ sym (length-take (axis + 1) lengths) in
    let three = passed_by (ltb last_axis axis) e (λ q. apart (cc)) in
    let four = passed_by (not (space_fits lengths)) three.1 (λ q. apart (cc)) in
    let twelve = ended_at (not (inside long near)) four.1
    (λ q. let eleven = passed_by (ltb entries (product lengths)) q (λ p. apart (cc)) in let other = eleven.1 in apart (cc)) in
    let last = twelve.1 in
    let found : first_past long near ≡ a = cc in
    rw (sym found) (first_past_lem long near equally (not-true _ twelve.0))

module _ (lengths : List ℕ) (axis : ℕ) (coordinates : List ℕ) (entries : ℕ) (first : Cell) (long : ℕ)
    (found : stretch_answer lengths axis coordinates entries ≡ stretch_with first long) where
  -- the stretch lies within the cells, and these within the table
  pub stretch_within : (first.0 + long ≤ product lengths) × (product lengths ≤ entries)
  stretch_within = let w = answer_within lengths axis coordinates entries first long found in (w.ends, w.held)

  -- it has exactly the cells under the asked coordinates: a cell lies in it exactly when its coordinates begin with them
  pub stretch_exactly : (at : List ℕ) → inside lengths at ≡ true
      → (asked axis at ≡ asked axis coordinates) ↔ ((first.0 ≤ row_major lengths at) × (row_major lengths at < first.0 + long))
  stretch_exactly at i =
      let passed = answer_passed lengths axis coordinates entries first long found in
      rw (passed.first_is, passed.long_is) (prefix_under (axis + 1) lengths coordinates passed.inside_asked at i)

  -- and each of its cells has coordinates inside the space
  pub stretch_somewhere : (cell : ℕ) → cell < first.0 + long
      → (inside lengths (components lengths cell) ≡ true) × (row_major lengths (components lengths cell) ≡ cell)
  stretch_somewhere cell h =
      let within = stretch_within in
      (components_inside lengths cell (omega arith), components_give_back lengths cell (omega arith))

-- an empty stretch means refused, and a refused one is empty
pub empty_refused : (table lengths : List ℕ) (axis : ℕ) (coordinates : List ℕ)
    → (stretch_of (stretch_answer lengths axis coordinates (length table)) table ≡ [])
    ↔ ((r : Refusal) × (stretch_answer lengths axis coordinates (length table) ≡ Err r))
empty_refused table lengths axis coordinates =
    (split (stretch_answer lengths axis coordinates (length table)) refl, λ refused. rw refused.1)
  where
    split : (a : Result Stretch Refusal) → stretch_answer lengths axis coordinates (length table) ≡ a → stretch_of a table ≡ [] → (r : Refusal) × (a ≡ Err r)
    split (Ok stretch) e q =
        let w = answer_within lengths axis coordinates (length table) stretch.first stretch.length e in
        absurd (omega (arith, ap length q, length-take stretch.length (drop stretch.first.0 table), length-drop stretch.first.0 table))
    split (Err r) e q = (r, refl)

-- in document 01's numbers: 3, 4, 12 with the smallest axis, 11 with the cells, or 0 with the first cell and the length
pub locate_in_numbers : (lengths : List ℕ) (axis : ℕ) (coordinates : List ℕ) (entries : ℕ) (r : Result Stretch Refusal)
    → r ≡ stretch_answer lengths axis coordinates entries
    → stretch_numbers r
    ≡ cond (ltb last_axis axis) (answer 3 0 0 0)
    (cond (not (space_fits lengths)) (answer 4 0 0 0)
    (cond (not (inside (asked axis lengths) (asked axis coordinates))) (answer 12 (first_past (asked axis lengths) (asked axis coordinates)) 0 0)
    (cond (ltb entries (product lengths)) (answer 11 (product lengths) 0 0)
    (answer 0 (row_major lengths (asked axis coordinates)) (product (drop (axis + 1) lengths)) 0))))
locate_in_numbers lengths axis coordinates entries r e =
    ap stretch_numbers e
    ∙ rung stretch_numbers (ltb last_axis axis) refl
    (rung stretch_numbers (not (space_fits lengths)) refl
    (rung stretch_numbers (not (inside (asked axis lengths) (asked axis coordinates))) refl
    (rung stretch_numbers (ltb entries (product lengths)) refl refl)))

-- and the stretch itself, by the numbers that the companion question gives: at 0 so many entries from the first cell on, four bytes a cell
-- into the table, and else empty
pub stretch_in_numbers : (table : List ℕ) (r : Result Stretch Refusal) (part : List ℕ) (start place : ℕ × ℕ) → part ≡ stretch_of r table → StretchBegins r start place
    → let n = stretch_numbers r in
    (part ≡ cond (eqb n.number 0) (take n.b (drop n.a table)) [])
    × (place.0 ≡ start.0) × (place.1 ≡ start.1 + 4 * cond (eqb n.number 0) n.a 0)
stretch_in_numbers table (Ok stretch) part start place e b = (e, b.0, b.1)
stretch_in_numbers table (Err refusal) part start place e b = rw (refusal_not_zero refusal) (e, b.0, b.1)
