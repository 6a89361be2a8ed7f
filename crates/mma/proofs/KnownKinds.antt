-- The constant table is the table of kinds: which numbers are kinds, and that every form is sound, row by row in one computed test.
use mathlib.Core.Path.{◌≡◌, refl, sym, ap, subst, ◌∙◌}
use mathlib.Core.Bool.{Bool, true, false, not, cond, ◌&&◌, ◌||◌, and-eq-true_iff, true≢false}
use mathlib.Core.List.{List}
use Prim.Native.Nat.{ℕ, ◌+◌, ◌-◌, ◌*◌, ◌/◌, ◌%◌, ◌≤◌, ◌<◌}
use native.Mathlib.Decide.{dec_lt}
use native.Mathlib.Omega.{arith}
use borrow.Author.Tests.{eqb-true, leb-true, ltb-true, lt-ltb, le-ltb}
use lib.Dec.{eqb, leb, ltb}
use lib.ListN.{length, get_or, get_or-eq_default}
use Rattle.laws.proofs.Below.{below, below_at}
use Rattle.laws.proofs.Rungs.{apart}
use Rattle.laws.proofs.Table.{every, every_at}
use Rattle.laws.proofs.Tests.{three_of, four_of}
use Rattle.card.specs.Lists.{within}
use Rattle.card.proofs.Lists.{within_numbers}
use Rattle.mma_kinds.specs.declared.KindForm.{KindForm}
use Rattle.mma_kinds.specs.Kinds.{kind_table, no_kind, kinds_by_number, accumulator, is_accumulator, kind_of}
use Rattle.mma_kinds.specs.Mma.{is_kind}
use Rattle.mma_kinds.proofs.Approved.{past_the_rows}
use Rattle.mma_cards.specs.Clauses.{FormSound}
use Rattle.mma.specs.Clauses.{unpacked}

-- two answers of a test are the same
abbrev alike : Bool → Bool → Bool
alike a b = cond a b (not b)

alike_is : (a b : Bool) → alike a b ≡ true → a ≡ b
alike_is true true e = refl
alike_is true false e = absurd (apart (cc))
alike_is false true e = absurd (apart (cc))
alike_is false false e = refl

-- which numbers of the table are kinds
abbrev known : ℕ → Bool
known kind = leb 9 kind && ltb kind 46

known_below : below (λ n. alike (known n) (is_kind n)) (length kinds_by_number) ≡ true
unfolding kind_table kind_of
known_below = refl

accumulator_known : (kind : ℕ) → is_accumulator kind ≡ true → is_kind kind ≡ true
unfolding kind_of
accumulator_known kind e =
    let t = three_of (leb 1008 kind) (leb kind 1256) (eqb (kind % 8) 0) e in
    rw e (lt-ltb 0 ((kind - 1000) / 2) (omega (arith, leb-true 1008 kind t.0)))

never : (b : Bool) → (b && false) ≡ false
never true = refl
never false = refl

past_known : (kind : ℕ) → 46 ≤ kind → known kind ≡ false
past_known kind h = rw (le-ltb kind 46 h) (never (leb 9 kind))

pub kind_known : (kind : ℕ) → (is_accumulator kind || known kind) ≡ is_kind kind
unfolding kind_table
kind_known kind = split (is_accumulator kind) refl
  where
    split : (b : Bool) → is_accumulator kind ≡ b → (b || known kind) ≡ is_kind kind
    split true e = sym (accumulator_known kind e)
    split false e =
        elim (dec_lt kind (length kinds_by_number)) [
          | yes few ↦ alike_is (known kind) (is_kind kind) (below_at (λ n. alike (known n) (is_kind n)) (length kinds_by_number) known_below kind few)
          | no many ↦ past_known kind (omega (arith, many)) ∙ sym (past_the_rows kind e (omega (arith, many)))
        ]

-- the six numbers within their limits
abbrev sound : KindForm → Bool
sound f = within 1 8 f.next && within 1 2 f.halves && within 1 32 f.repeats && (within 1 4 f.matrices && within 1 4 f.warps)

sound_is : (f : KindForm) → sound f ≡ true → FormSound f
sound_is f e =
    let t = four_of (within 1 8 f.next) (within 1 2 f.halves) (within 1 32 f.repeats) _ e in
    let u = (and-eq-true_iff (within 1 4 f.matrices) (within 1 4 f.warps)).0 t.3 in
    let next = within_numbers 1 8 f.next t.0 in
    let halves = within_numbers 1 2 f.halves t.1 in
    let repeats = within_numbers 1 32 f.repeats t.2 in
    let matrices = within_numbers 1 4 f.matrices u.0 in
    let warps = within_numbers 1 4 f.warps u.1 in
    record {
      some_next = next.0;
      few_next = next.1;
      some_halves = halves.0;
      few_halves = halves.1;
      some_repeats = repeats.0;
      few_repeats = repeats.1;
      some_matrices = matrices.0;
      few_matrices = matrices.1;
      some_warps = warps.0;
      few_warps = warps.1;
    }

-- a row of the constant table: its digits are the row's form, which is sound
abbrev same : KindForm → KindForm → Bool
same f g =
    eqb f.next g.next && eqb f.halves g.halves && eqb f.repeats g.repeats
    && (eqb f.matrices g.matrices && eqb f.warps g.warps && alike f.turned g.turned)

same_is : (f g : KindForm) → same f g ≡ true → f ≡ g
same_is f g e =
    let t = four_of (eqb f.next g.next) (eqb f.halves g.halves) (eqb f.repeats g.repeats) _ e in
    let u = three_of (eqb f.matrices g.matrices) (eqb f.warps g.warps) (alike f.turned g.turned) t.3 in
    let next = eqb-true f.next g.next t.0 in
    let halves = eqb-true f.halves g.halves t.1 in
    let repeats = eqb-true f.repeats g.repeats t.2 in
    let matrices = eqb-true f.matrices g.matrices u.0 in
    let warps = eqb-true f.warps g.warps u.1 in
    let turned = alike_is f.turned g.turned u.2 in
    λ j. record { next = next j; halves = halves j; repeats = repeats j; matrices = matrices j; warps = warps j; turned = turned j }

abbrev pub row_test : ℕ → ℕ → Bool
row_test k digits = same (unpacked digits) (kind_of (9 + k)).form

pub at_row : (digits : List ℕ) → every row_test 0 digits ≡ true → (kind : ℕ) → 9 ≤ kind → kind - 9 < length digits
    → unpacked (get_or digits (kind - 9) 0) ≡ (kind_of kind).form
at_row digits all kind least few =
    let back : 9 + (kind - 9) ≡ kind = omega (arith, least) in
    same_is (unpacked (get_or digits (kind - 9) 0)) (kind_of (9 + (kind - 9))).form (every_at row_test digits 0 all (kind - 9) few)
    ∙ ap (λ (n : ℕ). (kind_of n).form) back

sound_below : below (λ n. not (is_kind n) || sound (kind_of n).form) (length kinds_by_number) ≡ true
unfolding kind_table kind_of
sound_below = refl

-- an accumulator's form
pub accumulator_form : (kind : ℕ) → is_accumulator kind ≡ true
    → record { next = 2; halves = 2; repeats = (kind - 1000) / 8; matrices = 1; warps = 4; turned = false } ≡ (kind_of kind).form
unfolding kind_of
accumulator_form kind e = rw e refl

pub accumulator_sound : (kind : ℕ) → is_accumulator kind ≡ true → (1000 ≤ kind) × (1 ≤ (kind - 1000) / 8) × ((kind - 1000) / 8 ≤ 32)
accumulator_sound kind e =
    let t = three_of (leb 1008 kind) (leb kind 1256) (eqb (kind % 8) 0) e in
    let least = leb-true 1008 kind t.0 in
    let most = leb-true kind 1256 t.1 in
    (omega (arith, least), omega (arith, least), omega (arith, most))

pub form_sound : (kind : ℕ) → is_kind kind ≡ true → FormSound (kind_of kind).form
form_sound kind known-kind = split (is_accumulator kind) refl
  where
    second : (a b : Bool) → (not a || b) ≡ true → a ≡ true → b ≡ true
    second true b e h = e
    second false b e h = absurd (apart (cc))

    split : (b : Bool) → is_accumulator kind ≡ b → FormSound (kind_of kind).form
    split true e =
        let a = accumulator_sound kind e in
        subst FormSound (accumulator_form kind e) (record {
          some_next = omega arith;
          few_next = omega arith;
          some_halves = omega arith;
          few_halves = omega arith;
          some_repeats = a.1;
          few_repeats = a.2;
          some_matrices = omega arith;
          few_matrices = omega arith;
          some_warps = omega arith;
          few_warps = omega arith;
        })
    split false e =
        elim (dec_lt kind (length kinds_by_number)) [
          | yes few ↦ sound_is (kind_of kind).form (second (is_kind kind) (sound (kind_of kind).form) (below_at (λ n. not (is_kind n) || sound (kind_of n).form) (length kinds_by_number) sound_below kind few) known-kind)
          | no many ↦ absurd (true≢false (sym known-kind ∙ past_the_rows kind e (omega (arith, many))))
        ]

-- what is a kind and no accumulator has a row
pub has_row : (kind : ℕ) → is_kind kind ≡ true → is_accumulator kind ≡ false → (9 ≤ kind) × (kind < 46)
has_row kind e none-such =
    let k : known kind ≡ true = ap (λ (b : Bool). b || known kind) (sym none-such) ∙ kind_known kind ∙ e in
    let t = (and-eq-true_iff (leb 9 kind) (ltb kind 46)).0 k in
    (leb-true 9 kind t.0, ltb-true kind 46 t.1)
