-- A layout that was read from the notation, as numbers: the first 46 of a card's 57, and its marks as one.
use Rattle.std.specs.Prelude.{ℕ, ◌+◌, ◌-◌, ◌^◌, Bool, false, cond, List, [], ◌∷◌, ◌++◌, map, ℤ, pos, negsuc, get_or}
use Rattle.card.specs.declared.Iters.{Iters}
use Rattle.card.specs.Card.{none}
use Rattle.notation.specs.declared.Layout.{Layout}
use Rattle.c_card.specs.Card.{eight, lengths_from}

-- a layout that was read as the first 46 numbers of a card, whose lengths and swizzle stay
abbrev pub bits_of : ℤ → ℕ
bits_of (pos n) = n
bits_of (negsuc n) = 2 ^ 64 - (n + 1)

abbrev pub offsets_of : List ℤ → List ℕ
offsets_of offset = map (λ k. bits_of (get_or offset k (pos 0))) eight

abbrev pub iter_numbers : Iters → List ℕ → List ℕ
iter_numbers iters [] = []
iter_numbers iters (k ∷ ks) = (get_or iters.at k none).extent ∷ bits_of (get_or iters.at k none).stride ∷ (get_or iters.at k none).axis ∷ iter_numbers iters ks

abbrev pub card_with : Layout → List ℕ → List ℕ
card_with l numbers =
    (l.shard.count ∷ iter_numbers l.shard eight)
    ++ ((l.replica.count ∷ iter_numbers l.replica (0 ∷ 1 ∷ 2 ∷ 3 ∷ []))
    ++ (offsets_of l.offset ++ (lengths_from numbers ++ (get_or numbers 54 0 ∷ get_or numbers 55 0 ∷ get_or numbers 56 0 ∷ []))))

-- and its marks as one number, bit k for shard iter k
abbrev pub mark_bit : List Bool → ℕ → ℕ
mark_bit marks k = cond (get_or marks k false) (2 ^ k) 0

abbrev pub mark_bits : List Bool → ℕ
mark_bits marks = mark_bit marks 0 + mark_bit marks 1 + mark_bit marks 2 + mark_bit marks 3 + mark_bit marks 4 + mark_bit marks 5 + mark_bit marks 6 + mark_bit marks 7
