-- The numbers of a sound form: products stay small, and what the functions compute is what the form's digits say.
use Rattle.std.specs.Prelude.{Err, Ok}
use mathlib.Core.Path.{◌≡◌, refl, sym, ap, ap₂, ◌∙◌}
use mathlib.Core.Bool.{Bool, true, false, ◌&&◌}
use mathlib.Core.List.{List, [], ◌∷◌}
use Prim.Native.Nat.{ℕ, ◌+◌, ◌*◌, ◌/◌, ◌%◌, ◌≤◌, ◌<◌}
use native.Mathlib.Nat.{add-zero, mul-one, mul-le-mul}
use native.Mathlib.Omega.{arith}
use borrow.Author.Tests.{le-ltb, ltb-true, ltb-false}
use lib.Dec.{ltb}
use lib.IntN.{pos}
use lib.ListN.{replicate}
use Rattle.laws.proofs.Tests.{three_of}
use Rattle.fragment.specs.Fragment.{outside}
use Rattle.card.specs.Lists.{product}
use Rattle.card.specs.Card.{counted}
use Rattle.mma_kinds.specs.declared.KindForm.{KindForm}
use Rattle.mma_kinds.specs.declared.MmaPlace.{MmaPlace}
use Rattle.mma_kinds.specs.declared.MmaSlot.{MmaSlot}
use Rattle.mma_kinds.specs.Kinds.{mma_at, kind_of}
use Rattle.mma_kinds.specs.Layouts.{form_iters, cut, mma_card}
use Rattle.mma_kinds.specs.Mma.{is_mma_slot, is_mma_place, is_kind, mma_answer}
use Rattle.mma_kinds.specs.Forms.{turned_at, register_sizes, down_sizes, across_sizes, held_in, holder_in}
use Rattle.mma_kinds.proofs.Agree.{every_kind_agrees}
use Rattle.mma_kinds.proofs.Placed.{held_by_form}
use Rattle.mma_kinds.proofs.Back.{back, place_back}
use Rattle.mma_kinds.proofs.Theorems.{back_answers}
use Rattle.mma_cards.specs.Clauses.{FormSound, form_card}
use Rattle.mma.specs.Clauses.{form_slot, place_in, form_holder}

pub times : (a b m n : ℕ) → a ≤ m → b ≤ n → a * b ≤ m * n
times a b m n h k = mul-le-mul h k

pub some_times : (a b : ℕ) → 1 ≤ a → 1 ≤ b → 1 ≤ a * b
some_times a b h k = mul-le-mul h k

module _ (f : KindForm) where
  -- what a register holds, in the code's words
  pub held_plain : (warp lane i : ℕ)
      → turned_at f.turned (i / (f.repeats * (f.halves * f.next)) % f.matrices)
      (warp * (f.halves * 8) + (i / f.next % f.halves * 8 + lane / 4))
      (i / (f.halves * f.next) % f.repeats * (4 * f.next) + (lane % 4 * f.next + i / 1 % f.next))
      ≡ held_in f warp lane i
  held_plain warp lane i =
      let p = f.next in
      let one = sym (mul-one p) in
      let last : (n : ℕ) → n ≡ n * 1 + 0 = λ n. sym (add-zero (n * 1) ∙ mul-one n) in
      λ j. turned_at f.turned (i / (f.repeats * (f.halves * one j)) % f.matrices)
      (warp * (f.halves * 8) + (i / one j % f.halves * 8 + last (lane / 4) j))
      (i / (f.halves * one j) % f.repeats * (4 * one j) + (lane % 4 * one j + last (i / 1 % p) j))

  -- and who holds a place
  pub holder_plain : (matrix down across : ℕ)
      → (record {
        warp = down / (f.halves * 8) % f.warps;
        lane = down % 8 * 4 + across / f.next % 4;
        register = matrix * (f.repeats * (f.halves * f.next)) + (across / (4 * f.next) % f.repeats * (f.halves * f.next) + (down / 8 % f.halves * f.next + across / 1 % f.next));
      })
      ≡ form_holder f matrix down across
  holder_plain matrix down across =
      let p = f.next in
      let one = sym (mul-one p) in
      let last : (n : ℕ) → n ≡ n * 1 + 0 = λ n. sym (add-zero (n * 1) ∙ mul-one n) in
      let group : down % 8 ≡ down / 1 % 8 = omega arith in
      λ j. record {
        warp = down / (f.halves * 8) % f.warps;
        lane = group j * 4 + last (across / one j % 4) j;
        register = matrix * (f.repeats * (f.halves * one j)) + (across / (4 * one j) % f.repeats * (f.halves * one j) + (down / 8 % f.halves * one j + last (across / 1 % p) j));
      }

  pub registers_plain : f.matrices * (f.repeats * (f.halves * f.next)) ≡ product (register_sizes f)
  registers_plain = ap (λ (n : ℕ). f.matrices * (f.repeats * (f.halves * n))) (sym (mul-one f.next))

  pub across_plain : f.repeats * (4 * f.next) ≡ product (across_sizes f)
  across_plain = ap (λ (n : ℕ). f.repeats * (4 * n)) (sym (mul-one f.next))

-- a kind's register and place are those of its form
pub slot_in_lem : (kind warp lane i : ℕ) → is_mma_slot kind warp lane i ≡ form_slot (kind_of kind).form warp lane i
slot_in_lem kind warp lane i =
    let a = every_kind_agrees kind in
    λ j. ltb warp (a.its_warps j) && ltb lane 32 && ltb i (a.its_registers j)

pub place_in_lem : (kind : ℕ) (p : MmaPlace) → is_mma_place kind p ≡ place_in (kind_of kind).form p
place_in_lem kind p =
    let a = every_kind_agrees kind in
    λ j. ltb p.matrix (a.its_matrices j) && ltb p.row (a.its_shape j).row && ltb p.column (a.its_shape j).column

module _ (f : KindForm) (matrix down across : ℕ) where
  -- a place of the form, turned or not
  pub place_turned : f.turned ≡ true → (row column : ℕ) → down ≡ f.warps * (f.halves * 8) → across ≡ f.repeats * (4 * f.next)
      → (ltb matrix f.matrices && ltb row across && ltb column down) ≡ place_in f (mma_at matrix row column)
  place_turned t row column d a = rw t (λ j. ltb matrix f.matrices && ltb row ((a ∙ across_plain f) j) && ltb column (d j))

  pub place_straight : f.turned ≡ false → (row column : ℕ) → down ≡ f.warps * (f.halves * 8) → across ≡ f.repeats * (4 * f.next)
      → (ltb matrix f.matrices && ltb row down && ltb column across) ≡ place_in f (mma_at matrix row column)
  place_straight t row column d a = rw t (λ j. ltb matrix f.matrices && ltb row (d j) && ltb column ((a ∙ across_plain f) j))

  -- what a register holds, from its parts
  module _ (warp lane i : ℕ) (m : matrix ≡ i / (f.repeats * (f.halves * f.next)) % f.matrices)
      (d : down ≡ warp * (f.halves * 8) + (i / f.next % f.halves * 8 + lane / 4))
      (a : across ≡ i / (f.halves * f.next) % f.repeats * (4 * f.next) + (lane % 4 * f.next + i / 1 % f.next)) where
    its_place : (b : Bool) → f.turned ≡ b → turned_at b matrix down across ≡ held_in f warp lane i
    its_place b t = (λ j. turned_at (sym t j) (m j) (d j) (a j)) ∙ held_plain f warp lane i

    pub held_turned : f.turned ≡ true → mma_at matrix across down ≡ held_in f warp lane i
    held_turned t = its_place true t

    pub held_straight : f.turned ≡ false → mma_at matrix down across ≡ held_in f warp lane i
    held_straight t = its_place false t

  -- who holds a place, from its parts
  pub holder_of_parts : (warp thread register : ℕ) → warp ≡ down / (f.halves * 8) % f.warps → thread ≡ across / f.next % 4
      → register ≡ matrix * (f.repeats * (f.halves * f.next)) + (across / (4 * f.next) % f.repeats * (f.halves * f.next) + (down / 8 % f.halves * f.next + across / 1 % f.next))
      → record { warp = warp; lane = down % 8 * 4 + thread; register = register } ≡ form_holder f matrix down across
  holder_of_parts warp thread register w t r = (λ j. record { warp = w j; lane = down % 8 * 4 + t j; register = r j }) ∙ holder_plain f matrix down across

  -- and from its row and column
  pub holder_turned : f.turned ≡ true → form_holder f matrix down across ≡ holder_in f (mma_at matrix across down)
  holder_turned t = rw t refl

  pub holder_straight : f.turned ≡ false → form_holder f matrix down across ≡ holder_in f (mma_at matrix down across)
  holder_straight t = rw t refl

-- the two questions, case by case
module _ (kind : ℕ) where
  no_registers : is_kind kind ≡ false → (kind_of kind).registers ≤ 0
  no_registers e = ltb-false 0 (kind_of kind).registers e

  pub held_no_kind : (warp lane i : ℕ) → is_kind kind ≡ false → mma_answer kind warp lane i ≡ Err outside
  held_no_kind warp lane i e = rw (and_eq_false (ltb warp (kind_of kind).warps && ltb lane 32) (le-ltb i (kind_of kind).registers (omega (arith, no_registers e))))
    where
      and_eq_false : (a : Bool) {b : Bool} → b ≡ false → (a && b) ≡ false
      and_eq_false true h = h
      and_eq_false false h = refl

  pub holder_no_kind : (p : MmaPlace) → is_kind kind ≡ false → is_mma_place kind p ≡ false
  holder_no_kind p e = split (is_mma_place kind p) refl
    where
      split : (b : Bool) → is_mma_place kind p ≡ b → b ≡ false
      split false h = refl
      split true h =
          let s = (place_back kind p h).0 in
          let t = three_of (ltb (back kind p).warp (kind_of kind).warps) (ltb (back kind p).lane 32) (ltb (back kind p).register (kind_of kind).registers) s in
          absurd (omega (arith, no_registers e, ltb-true (back kind p).register (kind_of kind).registers t.2))

  module _ (f : KindForm) (its : f ≡ (kind_of kind).form) where
    pub held_no_slot : (warp lane i : ℕ) → form_slot f warp lane i ≡ false → mma_answer kind warp lane i ≡ Err outside
    held_no_slot warp lane i e = rw (slot_in_lem kind warp lane i ∙ ap (λ (g : KindForm). form_slot g warp lane i) (sym its) ∙ e)

    pub held_there : (warp lane i : ℕ) → form_slot f warp lane i ≡ true → mma_answer kind warp lane i ≡ Ok (held_in f warp lane i)
    held_there warp lane i e =
        let there : is_mma_slot kind warp lane i ≡ true = slot_in_lem kind warp lane i ∙ ap (λ (g : KindForm). form_slot g warp lane i) (sym its) ∙ e in
        rw there (ap Ok (held_by_form kind warp lane i there ∙ ap (λ (g : KindForm). held_in g warp lane i) (sym its)))

    pub no_such_place : (p : MmaPlace) → place_in f p ≡ false → is_mma_place kind p ≡ false
    no_such_place p e = place_in_lem kind p ∙ ap (λ (g : KindForm). place_in g p) (sym its) ∙ e

    pub holder_there : (p : MmaPlace) (s : MmaSlot) → place_in f p ≡ true → s ≡ holder_in f p → mma_answer kind s.warp s.lane s.register ≡ Ok p
    holder_there p s e same =
        let there : is_mma_place kind p ≡ true = place_in_lem kind p ∙ ap (λ (g : KindForm). place_in g p) (sym its) ∙ e in
        ap (λ (t : MmaSlot). mma_answer kind t.warp t.lane t.register) (same ∙ ap (λ (g : KindForm). holder_in g p) its) ∙ back_answers kind p there

-- a register and a place of a sound form have small numbers
pub slot_small : (f : KindForm) → FormSound f → (warp lane i : ℕ) → form_slot f warp lane i ≡ true → (warp ≤ 63) × (lane < 32)
slot_small f s warp lane i e =
    let t = three_of (ltb warp f.warps) (ltb lane 32) (ltb i (product (register_sizes f))) e in
    (omega (arith, ltb-true warp f.warps t.0, s.few_warps), ltb-true lane 32 t.1)

pub place_small : (f : KindForm) → FormSound f → (p : MmaPlace) → place_in f p ≡ true → p.matrix ≤ 63
place_small f s p e =
    let shape = turned_at f.turned 0 (product (down_sizes f)) (product (across_sizes f)) in
    let t = three_of (ltb p.matrix f.matrices) (ltb p.row shape.row) (ltb p.column shape.column) e in
    omega (arith, ltb-true p.matrix f.matrices t.0, s.few_matrices)

-- the card of a kind is that of its form
pub card_of_form : (kind : ℕ) (f : KindForm) → f ≡ (kind_of kind).form → (registers : ℕ) → registers ≡ f.matrices * (f.repeats * (f.halves * f.next))
    → form_card f registers ≡ mma_card kind
card_of_form kind f its registers many =
    let a = every_kind_agrees kind in
    ap (form_card f) (many ∙ registers_plain f)
    ∙ ap (λ (g : KindForm). form_card g (product (register_sizes g))) its
    ∙ (λ j. record {
      shard = counted (cut (form_iters (kind_of kind).form));
      marks = replicate 8 false;
      replica = counted [];
      offset = replicate 8 (pos 0);
      lengths = 1 ∷ sym a.its_warps j ∷ 32 ∷ 1 ∷ 1 ∷ 1 ∷ 1 ∷ sym a.its_registers j ∷ [];
      swizzle = record { m = 0; b = 0; s = 3 };
    })
