-- The canonical layouts for C: two outcomes are equal, and the card that is handed out reads back as the card that is judged.
use Rattle.std.specs.Prelude.{Result, ⊤, Ok, Err}
use mathlib.Core.Path.{◌≡◌, refl, sym, ap, subst, ◌∙◌}
use mathlib.Core.Bool.{Bool, true, false, cond, not, ◌||◌}
use mathlib.Core.List.{List, [], ◌∷◌}
use Prim.Native.Nat.{ℕ, ◌*◌, ◌/◌, ◌^◌, ◌≤◌, ◌<◌}
use native.Mathlib.Omega.{arith}
use borrow.Author.Tests.{lt-ltb}
use lib.IntN.{ℤ, pos}
use lib.ListN.{replicate}
use Rattle.answers.specs.Refusals.{no_refusal}
use Rattle.answers.specs.declared.Refusal.{Refusal}
use Rattle.swizzle.specs.Mode.{swizzle_of_mode}
use Rattle.card.specs.Card.{none}
use Rattle.card.specs.declared.Iter.{Iter}
use Rattle.card.specs.declared.Card.{Card}
use Rattle.judgement.specs.Plain.{VerdictSays}
use Rattle.canonical.specs.Rule.{is_k, plain, pieces, uses_lbo, across_rows, across_columns}
use Rattle.canonical.specs.Canonical.{checked, in_elements, canonical_card, built_by, built, PromiseBy, reported_numbers}
use Rattle.canonical.specs.declared.Canonical.{Canonical}
use Rattle.canonical.specs.declared.Reported.{Reported}
use Rattle.canonical.proofs.Theorems.{canonical_settled, checks_passed}
use Rattle.canonical_build.specs.Clauses.{PassedChecks, longest}
use Rattle.canonical_build.proofs.Laws.{sound, elements_short, T_few, wide_short}
use Rattle.c_card.specs.Card.{signed64, card_from, four}
use Rattle.urszovely.specs.Answers.{AsVerdict}
use Rattle.urszovely.specs.Canonical.{card_numbers, AsCanonical}

pub as_canonical_settled : (q : Canonical) (before a b e f x y : List ℕ) → AsCanonical q before a e x → AsCanonical q before b f y → (a ≡ b) × (e ≡ f) × (x ≡ y)
as_canonical_settled q before a b e f x y h k =
    let same = canonical_settled q before a b h.reported k.reported h.allowed k.allowed in (
      same.0,
      h.encoded ∙ ap (λ (r : Reported). r.lbo ∷ r.sbo ∷ []) same.1 ∙ sym k.encoded,
      h.numbers ∙ ap (λ (r : Reported). four (reported_numbers r)) same.1 ∙ sym k.numbers,
    )

-- a stride that is not too long reads back
signed_short : (n : ℕ) → n ≤ longest → signed64 n ≡ pos n
signed_short n h = rw (lt-ltb n (2 ^ 63) (omega (arith, h)))

-- the card of a canonical layout, whatever its strides: four iters where K-major, five where MN-major
abbrev slot : ℕ → ℤ → Iter
slot extent stride = record { extent = extent; stride = stride; axis = 7 }

abbrev from_m : List Iter → ℕ → ℕ → ℕ → ℕ → Card
from_m at count L bits mode = record {
  shard = record { at = at; count = count };
  marks = replicate 8 false;
  replica = record { at = replicate 8 none; count = 0 };
  offset = replicate 8 (pos 0);
  lengths = 1 ∷ 1 ∷ 1 ∷ 1 ∷ 1 ∷ 1 ∷ 1 ∷ L ∷ [];
  swizzle = swizzle_of_mode bits mode;
}

abbrev four_slots : ℕ → ℕ → ℕ → ℕ → ℤ → ℤ → ℤ → ℕ → ℕ → ℕ → Card
four_slots e f g h s t u L bits mode = from_m (slot e s ∷ slot f t ∷ slot g u ∷ slot h (pos 1) ∷ replicate 4 none) 4 L bits mode

abbrev five_slots : ℕ → ℕ → ℕ → ℕ → ℕ → ℤ → ℤ → ℤ → ℤ → ℕ → ℕ → ℕ → Card
five_slots e f g h i s t u v L bits mode = from_m (slot e s ∷ slot f t ∷ slot g (pos 1) ∷ slot h u ∷ slot i v ∷ replicate 3 none) 5 L bits mode

four_back : (e f g h s t u L bits mode : ℕ) → s ≤ longest → t ≤ longest → u ≤ longest
    → card_from (card_numbers (four_slots e f g h (pos s) (pos t) (pos u) L bits mode)) 0 ≡ four_slots e f g h (pos s) (pos t) (pos u) L bits mode
four_back e f g h s t u L bits mode hs ht hu = λ j. four_slots e f g h (signed_short s hs j) (signed_short t ht j) (signed_short u hu j) L bits mode

five_back : (e f g h i s t u v L bits mode : ℕ) → s ≤ longest → t ≤ longest → u ≤ longest → v ≤ longest
    → card_from (card_numbers (five_slots e f g h i (pos s) (pos t) (pos u) (pos v) L bits mode)) 0 ≡ five_slots e f g h i (pos s) (pos t) (pos u) (pos v) L bits mode
five_back e f g h i s t u v L bits mode hs ht hu hv =
    λ j. five_slots e f g h i (signed_short s hs j) (signed_short t ht j) (signed_short u hu j) (signed_short v hv j) L bits mode

-- neither stride of the rule is too long, where those that are used are not
rows_short : (p k : Bool) (lbo sbo : ℕ) → ((p || not k) ≡ true → lbo ≤ longest) → sbo ≤ longest → cond (p || k) sbo lbo ≤ longest
rows_short true k lbo sbo l s = s
rows_short false true lbo sbo l s = s
rows_short false false lbo sbo l s = l refl

columns_short : (p k : Bool) (T lbo sbo : ℕ) → ((p || not k) ≡ true → lbo ≤ longest) → sbo ≤ longest → T ≤ longest → cond p lbo (cond k T sbo) ≤ longest
columns_short true k T lbo sbo l s t = l refl
columns_short false true T lbo sbo l s t = t
columns_short false false T lbo sbo l s t = s

module _ (q : Canonical) (so : PassedChecks q) where
  abbrev T : ℕ
  T = 128 / q.bits

  abbrev wide : ℕ
  wide = pieces q.mode * T

  abbrev lbo : ℕ
  lbo = in_elements q.bits q.lbo

  abbrev sbo : ℕ
  sbo = in_elements q.bits q.sbo

  abbrev rows : ℕ
  rows = across_rows q.major q.mode lbo sbo

  abbrev columns : ℕ
  columns = across_columns q.major q.mode T lbo sbo

  lbo_short : uses_lbo q.major q.mode ≡ true → lbo ≤ longest
  lbo_short u = elements_short q.bits q.lbo so.its_bits (so.lbo_below u)

  sbo_short : sbo ≤ longest
  sbo_short = elements_short q.bits q.sbo so.its_bits so.sbo_below

  T_short : T ≤ longest
  T_short = omega (arith, T_few q.bits so.its_bits)

  its_rows : rows ≤ longest
  its_rows = rows_short (plain q.mode) (is_k q.major) lbo sbo lbo_short sbo_short

  its_columns : columns ≤ longest
  its_columns = columns_short (plain q.mode) (is_k q.major) T lbo sbo lbo_short sbo_short T_short

  its_width : wide ≤ longest
  its_width = omega (arith, wide_short q.bits q.mode so.its_bits so.its_mode)

  by_major : (b : Bool) → is_k q.major ≡ b → card_from (card_numbers (canonical_card q)) 0 ≡ canonical_card q
  by_major true e = rw e (rw e at (four_back q.m 8 (2 * q.k) T rows wide columns q.length q.bits q.mode its_rows its_width its_columns))
  by_major false e =
      rw e
      (rw e at (five_back q.m (pieces q.mode) T q.k 8 rows T columns wide q.length q.bits q.mode its_rows T_short its_columns its_width))

  judged_back : card_from (card_numbers (canonical_card q)) 0 ≡ canonical_card q
  judged_back = by_major (is_k q.major) refl

-- the numbers that are handed out are, without marks, the card that is judged, and where it is refused the card of zeros
pub card_back : (q : Canonical) → card_from (card_numbers (built q).card) 0 ≡ (built q).card
card_back q = by (checked q) refl
  where
    by : (c : Result ⊤ Refusal) → checked q ≡ c → card_from (card_numbers (built_by c q).card) 0 ≡ (built_by c q).card
    by (Ok _) e = let p = checks_passed q e in judged_back q (sound q p.0 p.1)
    by (Err refusal) e = refl

-- so the verdict on these numbers is the same question, where the checks are passed
pub canonical_by_card : (q : Canonical) (before after encodings answer : List ℕ) → checked q ≡ no_refusal → AsCanonical q before after encodings answer
    → AsVerdict (card_numbers (built q).card) 0 before after answer
canonical_by_card q before after encodings answer e h =
    let p = subst (λ (c : Result ⊤ Refusal). PromiseBy c q before after h.reported) e h.allowed in
    let card : canonical_card q ≡ card_from (card_numbers (built q).card) 0 = sym (ap (λ (c : Result ⊤ Refusal). (built_by c q).card) e) ∙ sym (card_back q) in
    record {
      verdict = h.reported.verdict;
      allowed = subst (λ (c : Card). VerdictSays c before after h.reported.verdict) card p.0;
      numbers = h.numbers;
    }
