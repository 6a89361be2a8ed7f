-- A kind's form says what PTX's rule says: row by row of the table in one computed test over all warps, lanes and registers, and for the accumulators
-- of wgmma by arithmetic over N.
use mathlib.Core.Path.{◌≡◌, refl, sym, subst, ◌∙◌}
use mathlib.Core.Bool.{Bool, true, false, ◌&&◌, cond, and-eq-true_iff}
use mathlib.Core.List.{List, [], ◌∷◌, ◌++◌}
use Prim.Native.Nat.{ℕ, ◌+◌, ◌-◌, ◌*◌, ◌/◌, ◌%◌, ◌≤◌, ◌<◌}
use native.Mathlib.Nat.{mod-eq_of_lt, mod-one}
use native.Mathlib.Decide.{dec_lt}
use native.Mathlib.Omega.{arith}
use borrow.Author.Tests.{eqb-true, leb-true}
use lib.Dec.{eqb, leb}
use lib.ListN.{length, get_or, replicate, get_or-eq_default}
use Rattle.laws.proofs.Below.{below, below_at}
use Rattle.laws.proofs.Table.{every, every_at}
use Rattle.laws.proofs.Tests.{three_of, four_of}
use Rattle.card.specs.Lists.{product}
use Rattle.mma_kinds.specs.declared.KindForm.{KindForm}
use Rattle.mma_kinds.specs.declared.MmaPlace.{MmaPlace}
use Rattle.mma_kinds.specs.Kinds.{Kind, kind, mma_at, form, turned_form, kind_table, accumulator, is_accumulator, no_kind, kinds_by_number, kind_of}
use Rattle.mma_kinds.specs.Forms.{register_sizes, down_sizes, across_sizes, turned_at, held_in}

-- the sizes of a kind are those of its form, and so is what each register holds
pub record Agrees (k : Kind) : Type 0 where
  pub its_matrices : k.matrices ≡ k.form.matrices
  pub its_warps : k.warps ≡ k.form.warps
  pub its_registers : k.registers ≡ product (register_sizes k.form)
  pub its_shape : mma_at 0 k.rows k.columns ≡ turned_at k.form.turned 0 (product (down_sizes k.form)) (product (across_sizes k.form))
  pub its_rule : (w l i : ℕ) → w < k.warps → l < 32 → i < k.registers → k.rule w (l / 4) (l % 4) i ≡ held_in k.form w l i

abbrev same : MmaPlace → MmaPlace → Bool
same p q = eqb p.matrix q.matrix && eqb p.row q.row && eqb p.column q.column

same_is : (p q : MmaPlace) → same p q ≡ true → p ≡ q
same_is p q e =
    let t = three_of (eqb p.matrix q.matrix) (eqb p.row q.row) (eqb p.column q.column) e in
    let m = eqb-true p.matrix q.matrix t.0 in
    let r = eqb-true p.row q.row t.1 in
    let c = eqb-true p.column q.column t.2 in
    λ j. mma_at (m j) (r j) (c j)

-- the test of a kind: its sizes, and each register of each lane of each warp
abbrev sizes_agree : Kind → Bool
sizes_agree k =
    eqb k.matrices k.form.matrices && eqb k.warps k.form.warps && eqb k.registers (product (register_sizes k.form))
    && same (mma_at 0 k.rows k.columns) (turned_at k.form.turned 0 (product (down_sizes k.form)) (product (across_sizes k.form)))

abbrev register_agrees : Kind → ℕ → ℕ → ℕ → Bool
register_agrees k w l i = same (k.rule w (l / 4) (l % 4) i) (held_in k.form w l i)

abbrev registers_agree : Kind → Bool
registers_agree k = below (λ w. below (λ l. below (register_agrees k w l) k.registers) 32) k.warps

agree_then : (k : Kind) → (sizes_agree k && registers_agree k) ≡ true → Agrees k
agree_then k e =
    let both = (and-eq-true_iff (sizes_agree k) (registers_agree k)).0 e in
    let s = four_of (eqb k.matrices k.form.matrices) (eqb k.warps k.form.warps) (eqb k.registers (product (register_sizes k.form))) _ both.0 in
    record {
      its_matrices = eqb-true k.matrices k.form.matrices s.0;
      its_warps = eqb-true k.warps k.form.warps s.1;
      its_registers = eqb-true k.registers (product (register_sizes k.form)) s.2;
      its_shape = same_is (mma_at 0 k.rows k.columns) _ s.3;
      its_rule = λ w l i hw hl hi.
          let of-warp = below_at (λ v. below (λ m. below (register_agrees k v m) k.registers) 32) k.warps both.1 w hw in
          let of_lane = below_at (λ m. below (register_agrees k w m) k.registers) 32 of-warp l hl in
          same_is (k.rule w (l / 4) (l % 4) i) (held_in k.form w l i) (below_at (register_agrees k w l) k.registers of_lane i hi);
    }

rows_agree : every (λ n k. sizes_agree k && registers_agree k) 0 kinds_by_number ≡ true
unfolding kind_table
rows_agree = refl

-- the accumulators of wgmma: the columns repeat an atom of eight
pub accumulator_agrees : (n : ℕ) → n % 8 ≡ 0 → Agrees (accumulator n)
accumulator_agrees n whole =
    let q : ℕ = n / 8 in
    let columns : n ≡ q * 8 = omega (arith, whole) in
    record {
      its_matrices = refl;
      its_warps = refl;
      its_registers = let half : n / 2 ≡ q * 4 = omega (arith, columns) in half ∙ omega arith;
      its_shape = λ j. mma_at 0 64 (columns j);
      its_rule = λ w l i hw hl hi.
          let atom : i / 4 < q = omega (arith, columns, hi) in
          let repeat : i / 4 % q ≡ i / 4 = mod-eq_of_lt atom in
          let matrix : 0 ≡ i / (q * 4) % 1 = sym (mod-one (i / (q * 4))) in
          let down : 16 * w + l / 4 + 8 * (i / 2 % 2) ≡ w * 16 + (i / 2 % 2 * 8 + (l / 4 * 1 + 0)) = omega arith in
          let across : 8 * (i / 4) + 2 * (l % 4) + i % 2 ≡ i / 4 % q * 8 + (l % 4 * 2 + (i / 1 % 2 * 1 + 0)) = omega (arith, repeat) in
          λ j. mma_at (matrix j) (down j) (across j);
    }

-- nothing is held where there is no kind
none_agrees : Agrees no_kind
none_agrees = record { its_matrices = refl; its_warps = refl; its_registers = refl; its_shape = refl; its_rule = λ w l i h. absurd (omega (arith, h)) }

-- so every kind agrees with its form
pub every_kind_agrees : (number : ℕ) → Agrees (kind_of number)
unfolding kind_of
every_kind_agrees number = split (is_accumulator number) refl
  where
    listed : Agrees (get_or kinds_by_number number no_kind)
    listed =
        elim (dec_lt number (length kinds_by_number)) [
          | yes few ↦ agree_then (get_or kinds_by_number number no_kind) (every_at (λ n k. sizes_agree k && registers_agree k) kinds_by_number no_kind rows_agree number few)
          | no many ↦ let past : length kinds_by_number ≤ number = omega (arith, many) in subst Agrees (sym (get_or-eq_default kinds_by_number no_kind past)) none_agrees
        ]

    split : (b : Bool) → is_accumulator number ≡ b → Agrees (cond b (accumulator (number - 1000)) (get_or kinds_by_number number no_kind))
    split true e =
        let t = three_of _ _ _ e in
        let least = leb-true 1008 number t.0 in
        let whole = eqb-true (number % 8) 0 t.2 in
        accumulator_agrees (number - 1000) (omega (arith, least, whole))
    split false e = listed
