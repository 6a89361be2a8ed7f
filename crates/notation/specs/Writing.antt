-- How a card is written: the axis always named, zero offsets and an empty replica left out; checks 1 to 3, then 11.
use Rattle.std.specs.Prelude.{ℕ, ◌+◌, Bool, true, false, cond, List, [], ◌∷◌, ◌++◌, map, eqb, ltb, ℤ, pos, negsuc, nat_abs, length, drop, replicate, Result, ⊤, Ok, Err}
use Rattle.answers.specs.declared.Refusal.{Refusal}
use Rattle.answers.specs.Refusals.{answer, refusal_numbers, numbers_of, one_detail, no_refusal}
use Rattle.answers.specs.declared.Numbers.{Numbers}
use Rattle.answers.specs.declared.Refusal.TheVariants.{TooShort}
use Rattle.card.specs.Card.{listed, marks_of, extent_of, kept}
use Rattle.card.specs.Admission.{field_checks}
use Rattle.card.specs.declared.Iter.{Iter}
use Rattle.card.specs.declared.Iters.{Iters}
use Rattle.card.specs.declared.Card.{Card}
use Rattle.notation.specs.Text.{Lists, Notation, spell}
use Rattle.notation.specs.declared.NamedAxis.{NamedAxis}
use Rattle.notation.specs.declared.NamedAxis.TheVariants.{At, Marked}
use Rattle.notation.specs.declared.Step.{Step}
use Rattle.notation.specs.declared.Layout.{Layout}

abbrev pub is_below : ℤ → Bool
is_below (pos n) = false
is_below (negsuc n) = true

-- a stride or an offset, its axis named
abbrev pub step_for : ℤ → Bool → ℕ → Step
step_for z mark axis = record { negative = is_below z; size = nat_abs z; place = cond mark (Marked axis) (At axis) }

abbrev pub steps_for : List Bool → List Iter → List Step
steps_for marks [] = []
steps_for [] (i ∷ is) = step_for i.stride false i.axis ∷ steps_for [] is
steps_for (m ∷ ms) (i ∷ is) = step_for i.stride m i.axis ∷ steps_for ms is

-- the offsets that are not 0, from an axis on
abbrev pub offsets_from : ℕ → List ℤ → List Step
offsets_from axis [] = []
offsets_from axis (z ∷ zs) = cond (eqb (nat_abs z) 0) [] (step_for z false axis ∷ []) ++ offsets_from (axis + 1) zs

-- a replica has no marks
abbrev pub no_marks : List Bool
no_marks = replicate 8 false

abbrev pub lists_for : List Bool → Iters → Lists
lists_for marks iters = record { extents = map extent_of (listed iters); steps = steps_for marks (listed iters) }

abbrev pub written_as : Card → Notation
written_as card = record { shard = lists_for (marks_of card) card.shard; replica = lists_for no_marks card.replica; offsets = offsets_from 0 card.offset }

unfoldable pub text_of : Card → List ℕ
text_of card = spell (written_as card)

-- writing refuses by checks 1 to 3, then 11 with the length needed; at 0 it gives the length
abbrev pub answer_for : Result ⊤ Refusal → ℕ → ℕ → Result ℕ Refusal
answer_for (Ok _) needed lent = cond (ltb lent needed) (Err (TooShort needed)) (Ok needed)
answer_for (Err refusal) needed lent = Err refusal

abbrev pub written_answer : Card → ℕ → Result ℕ Refusal
written_answer card lent = answer_for (field_checks card no_refusal) (length (text_of card)) lent

-- the lent bytes: refused they are untouched, and at 0 those past the text stay
abbrev pub bytes_after : Result ℕ Refusal → Card → List ℕ → List ℕ
bytes_after (Ok n) card bytes = text_of card ++ drop n bytes
bytes_after (Err refusal) card bytes = bytes

abbrev pub write_numbers : Result ℕ Refusal → Numbers
write_numbers = numbers_of one_detail

-- what of a card is written: all but the lengths and the swizzle of what is kept of it
abbrev pub kept_of : Card → Layout
kept_of card = record { shard = (kept card).shard; marks = (kept card).marks; replica = (kept card).replica; offset = (kept card).offset }
