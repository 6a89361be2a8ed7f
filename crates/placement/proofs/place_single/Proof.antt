-- `placement::place_single` makes the one cell in a row of one, and copies it where it does not lie outside: two lists of one entry are the same where the entries are.
use native.Mathlib.Omega.{arith}
use borrow.Author.Rules.{rules}
use mathlib.Core.Path.{◌≡◌, refl, sym, ap, ◌∙◌}
use mathlib.Core.List.{List, [], ◌∷◌}
use Prim.Native.Nat.{ℕ}
use lib.ListN.{length, get_or, set}
use Rattle.card.specs.Card.{copies}
use Rattle.card.specs.Packed.{card_of}
use Rattle.card.specs.declared.Card.{Card}
use Rattle.rules.specs.Rules.{spot}
use Rattle.rules.specs.Copies.{cells_of, copy_cells, outside_of, outside_axis}
use Rattle.rules.proofs.Filling.{cells_length}
use Rattle.placement.proofs.place_single.Statement.{statement}
use Rattle.placement.proofs.place_single.Tie as tie

one_entry : (l m : List ℕ) → length l ≡ 1 → length m ≡ 1 → set l 0 (get_or m 0 0) ≡ m
one_entry [] m h k = absurd (omega (arith, h))
one_entry (x ∷ y ∷ l) m h k = absurd (omega (arith, h))
one_entry (x ∷ []) [] h k = absurd (omega (arith, k))
one_entry (x ∷ []) (y ∷ []) h k = refl
one_entry (x ∷ []) (y ∷ z ∷ m) h k = absurd (omega (arith, k))

abbrev start : tie.After-place_row-smallest → tie.Start
start p = p.before.before.before

abbrev asked : tie.After-place_row-smallest → Card
asked p = card_of (start p).args.numbers.now (start p).args.strides.now

one_copy : (p : tie.After-place_row-smallest) → 1 ≡ copies (asked p)
one_copy p = sym (start p).requires.2 ∙ (start p).requires.1

axis_is : (p : tie.After-place_row-smallest) → p.place_row-smallest.result ≡ outside_axis (asked p) (start p).args.flat.0
unfolding outside_axis
axis_is p = p.place_row-smallest.ensures.smallest_axis ∙ ap (outside_of (spot (asked p) (start p).args.flat.0)) (one_copy p)

cells_are : (p : tie.After-place_row-smallest) → cells_of (spot (asked p) (start p).args.flat.0) 1 ≡ copy_cells (asked p) (start p).args.flat.0
unfolding copy_cells
cells_are p = ap (cells_of (spot (asked p) (start p).args.flat.0)) (one_copy p)

returns : tie.Need-returns-then-smallest-lt-AXES
returns c = record { smallest_axis = axis_is c.before.before; refused = λ h. refl; placed = λ h. absurd (omega (arith, c.if-smallest-lt-AXES.true)) }

returns_2 : tie.Need-returns
returns_2 c =
    let p = c in
    let goes = spot (asked p.before.before) (start p.before.before).args.flat.0 in
    let made = p.place_row-smallest.ensures.cells in
    record {
      smallest_axis = axis_is p.before.before;
      refused = λ h. absurd (omega (arith, c.if-smallest-lt-AXES.false));
      placed = λ h. one_entry (start p.before.before).args.memory.now _ (start p.before.before).requires.2 (ap length made ∙ cells_length goes 1) ∙ made ∙ cells_are p.before.before;
    }

pub place_single_spec : {M : Type 1} → statement M
place_single_spec =
    tie.close
    (tie.spec (λ c. search rules) (λ c κs. search rules) returns (λ c. search rules) (λ c. search rules) (λ c. search rules) returns_2)
