-- `placement::place_copies` makes the cells in a row of its own, which is as long as there are copies, and copies them where none lies outside.
use native.Mathlib.Omega.{arith}
use borrow.Author.Rules.{rules}
use mathlib.Core.Path.{◌≡◌, refl, sym, ap, ◌∙◌}
use mathlib.Core.List.{List, ◌++◌}
use Prim.Native.Nat.{ℕ, ◌≤◌}
use lib.ListN.{length, take, drop, replicate}
use lib.Seq.{length-take-le, length_front, take_at}
use Rattle.card.specs.Packed.{card_of}
use Rattle.card.specs.declared.Card.{Card}
use Rattle.card.proofs.Admitted.{sized}
use Rattle.rules.specs.Rules.{spot}
use Rattle.rules.specs.Copies.{cells_of, copy_cells, outside_of, outside_axis}
use Rattle.rules.proofs.Filling.{cells_length}
use Rattle.placement.proofs.place_copies.Statement.{statement}
use Rattle.placement.proofs.place_copies.Tie as tie

fits : (s : tie.Start) → length s.args.memory.now ≤ 64
fits s = let n = sized (card_of s.args.numbers.now s.args.strides.now) s.requires.0.admitted in omega (arith, s.requires.1, n.most_copies_lem)

long : (s : tie.Start) → length {A = ℕ} (take (length s.args.memory.now) (replicate 64 0)) ≡ length s.args.memory.now
long s = length-take-le (length s.args.memory.now) (replicate 64 0) (fits s)

abbrev asked : tie.Start → Card
asked s = card_of s.args.numbers.now s.args.strides.now

-- the row that was placed
abbrev start : tie.After-place_row-outside → tie.Start
start p = p.before.before.before

abbrev cells : tie.After-place_row-outside → List ℕ
cells p = cells_of (spot (asked (start p)) (start p).args.flat.0) (length {A = ℕ} (take (length (start p).args.memory.now) (replicate 64 0)))

cells_long : (p : tie.After-place_row-outside) → length (cells p) ≡ length (start p).args.memory.now
cells_long p = cells_length (spot (asked (start p)) (start p).args.flat.0) _ ∙ long (start p)

axis_is : (p : tie.After-place_row-outside) → p.place_row-outside.result ≡ outside_axis (asked (start p)) (start p).args.flat.0
unfolding outside_axis
axis_is p =
    let s = start p in
    p.place_row-outside.ensures.smallest_axis ∙ ap (outside_of (spot (asked s) s.args.flat.0)) (long s ∙ s.requires.1)

cells_are : (p : tie.After-place_row-outside) → cells p ≡ copy_cells (asked (start p)) (start p).args.flat.0
unfolding copy_cells
cells_are p = let s = start p in ap (cells_of (spot (asked s) s.args.flat.0)) (long s ∙ s.requires.1)

pub place_copies_spec : {M : Type 1} → statement M
place_copies_spec =
    tie.close
    (tie.spec (λ c. fits c.before) (λ c. sym (long c.before.before)) (λ c κs. c.requires.0) (λ c. record { smallest_axis = axis_is c.before.before; refused = λ h. refl; placed = λ h. absurd (omega arith) }) (λ c κs.
    let p = c in
    let n = length (start p.before.before.before.before).args.memory.now in
    (rw p.place_row-outside.ensures.cells (length_front (replicate 64 0) (cells p.before.before.before.before) n (cells_long p.before.before.before.before ∙ sym (long (start p.before.before.before.before)))), fits (start p.before.before.before.before))) (λ c. search rules) (λ c.
    let w = c in
    let two = w in
    let p = two in
    let n = length (start p.before.before.before.before.before.before.before).args.memory.now in
    record {
      smallest_axis = axis_is p.before.before.before.before.before.before.before;
      refused = λ h. absurd (omega arith);
      placed = λ h.
          w.write.ensures
          ∙ ap (λ (l : List ℕ). take n (l ++ drop n (replicate 64 0))) p.place_row-outside.ensures.cells
          ∙ take_at (cells p.before.before.before.before.before.before.before) (drop n (replicate 64 0)) n (cells_long p.before.before.before.before.before.before.before)
          ∙ cells_are p.before.before.before.before.before.before.before;
    }))
