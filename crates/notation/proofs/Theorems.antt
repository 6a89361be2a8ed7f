-- What the definitions mean: a text says one thing, the promise of reading settles the answer, and reading what was spelled gives the same.
use Rattle.std.specs.Prelude.{Result, ⊤, Ok, Err}
use Prim.Native.Nat.{ℕ, ◌≤◌, ◌<◌}
use mathlib.Core.Path.{◌≡◌, refl, sym, ap, ◌∙◌, subst, subst⁻¹}
use mathlib.Core.Logic.{◌⊎◌, inl, inr, ⊎_elim}
use mathlib.Core.List.{List}
use native.Mathlib.Omega.{arith}
use native.Mathlib.Nat.{le_antisymm}
use lib.ListN.{length}
use Rattle.answers.specs.Refusals.{no_refusal}
use Rattle.answers.specs.declared.Refusal.{Refusal}
use Rattle.answers.specs.declared.Refusal.TheVariants.{Notation as NotCorrect}
use Rattle.answers.proofs.OneToOne.{refusal_one_to_one}
use Rattle.laws.proofs.Order.{le_or_lt}
use Rattle.notation.specs.Text.{Notation, Within, Correct, spell}
use Rattle.notation.specs.Beginning.{Begins, Refused}
use Rattle.notation.specs.Meaning.{layout_of}
use Rattle.notation.specs.Promise.{no_layout, Accepted, NotAccepted, Comes, Answered}
use Rattle.notation.specs.declared.Layout.{Layout}
use Rattle.notation.specs.declared.Reading.{Reading}
use Rattle.notation.proofs.Run.{says_once}

-- a text spells at most one notation
pub text_says_one : (text : List ℕ) (c d : Correct text) → c.says ≡ d.says
text_says_one text c d = says_once c.says d.says c.within d.within (sym c.spelled ∙ d.spelled)

-- a text has one longest beginning
pub longest_once : (text : List ℕ) (a b : ℕ) → Refused Correct text a → Refused Correct text b → a ≡ b
longest_once text a b p q =
    ⊎_elim
    (λ (le : a ≤ b). ⊎_elim (λ (ge : b ≤ a). omega arith) (λ (lt : a < b). absurd (p.longest b lt q.within q.begins)) (le_or_lt b a))
    (λ (lt : b < a). absurd (q.longest a lt p.within p.begins))
    (le_or_lt a b)

-- two readings that the promise allows are equal
pub read_settled : (text : List ℕ) (p q : Reading) → Answered text p → Answered text q → p ≡ q
read_settled text p q = by p.answer q.answer p.layout q.layout
  where
    by : (x y : Result ⊤ Refusal) (l m : Layout) → Comes x text l → Comes y text m → ◌≡◌ {A = Reading} (record { answer = x; layout = l }) (record { answer = y; layout = m })
    by (Ok _) (Ok _) l m c d =
        ap (λ (k : Layout). record { answer = no_refusal; layout = k }) (c.layout_said ∙ ap layout_of (text_says_one text c.correct d.correct) ∙ sym d.layout_said)
    by (Ok _) (Err s) l m c d = absurd (d.longest.incorrect c.correct)
    by (Err r) (Ok _) l m c d = absurd (c.longest.incorrect d.correct)
    by (Err r) (Err s) l m c d =
        let one : r ≡ s = c.eighteen ∙ ap NotCorrect (longest_once text c.a d.a c.longest d.longest) ∙ sym d.eighteen in
        let zeros : l ≡ m = c.zeros ∙ sym d.zeros in
        λ j. record { answer = Err (one j); layout = zeros j }

-- reading what was spelled gives what was spelled
pub read_spelled : (n : Notation) → Within n → (r : Reading) → Answered (spell n) r → r ≡ record { answer = no_refusal; layout = layout_of n }
read_spelled n w r a =
    read_settled (spell n) r (record { answer = no_refusal; layout = layout_of n }) a (record { correct = record { says = n; within = w; spelled = refl }; layout_said = refl })
