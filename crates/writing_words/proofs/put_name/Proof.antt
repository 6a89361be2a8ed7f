-- `writing_words::put_name` is the name of the axis: in each arm the axis is the arm's own, and no other has a name.
use Prim.Native.Nat.{ℕ, zero, suc}
use mathlib.Core.Path.{◌≡◌, refl, ap, ◌∙◌}
use mathlib.Core.List.{List, []}
use Rattle.notation.specs.Text.{name}
use Rattle.writing_words.specs.Out.{wrote}
use native.Mathlib.Omega.{arith}
use borrow.Author.Rules.{rules}
use Rattle.writing_words.proofs.Laws.{wrote_none}
use Rattle.writing_words.proofs.put_name.Statement.{statement}
use Rattle.writing_words.proofs.put_name.Tie as tie

no_name : (a : ℕ) → (a ≡ 0 → ⊥) → (a ≡ 1 → ⊥) → (a ≡ 2 → ⊥) → (a ≡ 3 → ⊥) → (a ≡ 4 → ⊥) → (a ≡ 5 → ⊥) → (a ≡ 6 → ⊥) → (a ≡ 7 → ⊥) → [] ≡ name a
no_name zero h0 h1 h2 h3 h4 h5 h6 h7 = absurd (h0 refl)
no_name (suc zero) h0 h1 h2 h3 h4 h5 h6 h7 = absurd (h1 refl)
no_name (suc (suc zero)) h0 h1 h2 h3 h4 h5 h6 h7 = absurd (h2 refl)
no_name (suc (suc (suc zero))) h0 h1 h2 h3 h4 h5 h6 h7 = absurd (h3 refl)
no_name (suc (suc (suc (suc zero)))) h0 h1 h2 h3 h4 h5 h6 h7 = absurd (h4 refl)
no_name (suc (suc (suc (suc (suc zero))))) h0 h1 h2 h3 h4 h5 h6 h7 = absurd (h5 refl)
no_name (suc (suc (suc (suc (suc (suc zero)))))) h0 h1 h2 h3 h4 h5 h6 h7 = absurd (h6 refl)
no_name (suc (suc (suc (suc (suc (suc (suc zero))))))) h0 h1 h2 h3 h4 h5 h6 h7 = absurd (h7 refl)
no_name (suc (suc (suc (suc (suc (suc (suc (suc a)))))))) h0 h1 h2 h3 h4 h5 h6 h7 = refl

returns : tie.Need-returns-in-0
returns c = (rw c.in-0.is c.put_word.ensures.0, omega (arith, c.put_word.ensures.1))

returns_2 : tie.Need-returns-in-1
returns_2 c = (rw c.in-1.is c.put_word-in-1.ensures.0, omega (arith, c.put_word-in-1.ensures.1))

returns_3 : tie.Need-returns-in-2
returns_3 c = (rw c.in-2.is c.put_word-in-2.ensures.0, omega (arith, c.put_word-in-2.ensures.1))

returns_4 : tie.Need-returns-in-3
returns_4 c = (rw c.in-3.is c.put_word-in-3.ensures.0, omega (arith, c.put_word-in-3.ensures.1))

returns_5 : tie.Need-returns-in-4
returns_5 c = (rw c.in-4.is c.put_word-in-4.ensures.0, omega (arith, c.put_word-in-4.ensures.1))

returns_6 : tie.Need-returns-in-5
returns_6 c = (rw c.in-5.is c.put_word-in-5.ensures.0, omega (arith, c.put_word-in-5.ensures.1))

returns_7 : tie.Need-returns-in-6
returns_7 c = (rw c.in-6.is c.put_word-in-6.ensures.0, omega (arith, c.put_word-in-6.ensures.1))

returns_8 : tie.Need-returns-in-7
returns_8 c = (rw c.in-7.is c.put_word-in-7.ensures.0, omega (arith, c.put_word-in-7.ensures.1))

returns_9 : tie.Need-returns-in_default
returns_9 c =
    let s = c in
    (wrote_none s.args.out ∙ ap (λ (t : List ℕ). wrote s.args.out t) (no_name s.args.axis c.in_default.in_default-own.rest.0.0.0.0.0.0.0.1 c.in_default.in_default-own.rest.0.0.0.0.0.0.1 c.in_default.in_default-own.rest.0.0.0.0.0.1 c.in_default.in_default-own.rest.0.0.0.0.1 c.in_default.in_default-own.rest.0.0.0.1 c.in_default.in_default-own.rest.0.0.1 c.in_default.in_default-own.rest.0.1 c.in_default.in_default-own.rest.1), omega arith)

pub put_name_spec : {M : Type 1} → statement M
put_name_spec = tie.close (tie.spec (λ c κs. (omega arith, omega arith)) (λ c κs. (omega arith, omega arith)) (λ c κs. (omega arith, omega arith)) (λ c κs. (omega arith, omega arith)) (λ c κs. (omega arith, omega arith)) (λ c κs. (omega arith, omega arith)) (λ c κs. (omega arith, omega arith)) (λ c κs. (omega arith, omega arith)) returns returns_2 returns_3 returns_4 returns_5 returns_6 returns_7 returns_8 returns_9)
