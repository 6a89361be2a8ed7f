-- A packed card: its numbers in two arrays, the card that has these numbers, and bounds. Nothing here has to be believed: it is what the functions
-- inside promise each other.
use Rattle.std.specs.Prelude.{ℕ, ◌+◌, ◌*◌, ◌^◌, ◌≤◌, min, ◌≡◌, Bool, not, List, [], ◌∷◌, map, eqb, ℤ, pos, nat_abs, length, get_or, Ok}
use Rattle.std.proofs.Math.Seq.{slice}
use Rattle.answers.specs.Refusals.{no_refusal}
use Rattle.swizzle.specs.declared.Swizzle.{Swizzle}
use Rattle.card.specs.Lists.{slots}
use Rattle.card.specs.Limits.{least_stride}
use Rattle.card.specs.Card.{listed, marks_of, stride_of, elements, copies, cells}
use Rattle.card.specs.Admission.{admission}
use Rattle.card.specs.declared.Iter.{Iter}
use Rattle.card.specs.declared.Iters.{Iters}
use Rattle.card.specs.declared.Card.{Card}

-- products are told apart below it
abbrev pub beyond : ℕ
beyond = 2 ^ 32

-- no stride or offset is further from zero
abbrev pub farthest : ℕ
farthest = nat_abs least_stride

-- the unsigned numbers are seven columns of eight: extents and axes of the shard (list 0), those of the replica (list 1), the lengths, then the
-- two counts, M, B, S, the elements, the copies and the cells, and last the marks; the signed ones are three: the strides of each list, and the offset
abbrev pub iter_at : List ℕ → List ℤ → ℕ → ℕ → Iter
iter_at numbers strides list k =
    record { extent = get_or numbers (16 * list + k) 0; stride = get_or strides (8 * list + k) (pos 0); axis = get_or numbers (16 * list + 8 + k) 0 }

abbrev pub iters_of : List ℕ → List ℤ → ℕ → Iters
iters_of numbers strides list = record { at = map (iter_at numbers strides list) slots; count = get_or numbers (40 + list) 0 }

abbrev pub swizzle_of : List ℕ → Swizzle
swizzle_of numbers = record { m = get_or numbers 42 0; b = get_or numbers 43 0; s = get_or numbers 44 0 }

abbrev pub mark_at : List ℕ → ℕ → Bool
mark_at numbers k = not (eqb (get_or numbers (48 + k) 0) 0)

-- the card that has these numbers
abbrev pub card_of : List ℕ → List ℤ → Card
card_of numbers strides = record {
  shard = iters_of numbers strides 0;
  marks = map (mark_at numbers) slots;
  replica = iters_of numbers strides 1;
  offset = slice 16 24 strides;
  lengths = slice 32 40 numbers;
  swizzle = swizzle_of numbers;
}

-- the marks and the strides of the listed shard iters
abbrev pub marks_there : List ℕ → List ℤ → List Bool
marks_there numbers strides = marks_of (card_of numbers strides)

abbrev pub strides_there : List ℕ → List ℤ → List ℤ
strides_there numbers strides = map stride_of (listed (iters_of numbers strides 0))

-- both arrays are whole, and the sizes are those of the card, told apart below beyond
pub record Whole (numbers : List ℕ) (strides : List ℤ) : Type 0 where
  pub all_numbers : length numbers ≡ 56
  pub all_strides : length strides ≡ 24
  pub elements_there : get_or numbers 45 0 ≡ min (elements (card_of numbers strides)) beyond
  pub copies_there : get_or numbers 46 0 ≡ min (copies (card_of numbers strides)) beyond
  pub cells_there : get_or numbers 47 0 ≡ min (cells (card_of numbers strides)) beyond

-- the packed numbers of this card
pub record Packs (card : Card) (numbers : List ℕ) (strides : List ℤ) : Type 0 where
  pub whole : Whole numbers strides
  pub same_card : card_of numbers strides ≡ card

-- a packed card that passes checks 1 to 6
pub record Admits (numbers : List ℕ) (strides : List ℤ) : Type 0 where
  pub whole : Whole numbers strides
  pub admitted : admission (card_of numbers strides) ≡ no_refusal

abbrev pub last_column : Card → List ℕ
last_column card =
    card.shard.count
    ∷ card.replica.count
    ∷ card.swizzle.m
    ∷ card.swizzle.b
    ∷ card.swizzle.s
    ∷ min (elements card) beyond
    ∷ min (copies card) beyond
    ∷ min (cells card) beyond
    ∷ []

-- a list whose iters can be read
pub record ListOf (numbers : List ℕ) (list : ℕ) : Type 0 where
  pub one_of_two : list ≤ 1
  pub few : get_or numbers (40 + list) 0 ≤ 8
