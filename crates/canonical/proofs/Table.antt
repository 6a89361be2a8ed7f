-- The rule gives each row of source document 001's table, and the exact layout, the card and the encodings of each of its figures.
use mathlib.Core.Path.{◌≡◌, refl}
use mathlib.Core.Bool.{false}
use mathlib.Core.List.{List, [], ◌∷◌, map}
use Prim.Native.Nat.{ℕ, ◌*◌}
use lib.Count.{count_leading_zeros}
use lib.IntN.{pos}
use lib.ListN.{replicate}
use Rattle.judgement.specs.Verdict.{approved_with}
use Rattle.swizzle.specs.Mode.{bit_length}
use Rattle.card.specs.Card.{none}
use Rattle.card.specs.declared.Iter.{Iter}
use Rattle.card.specs.declared.Card.{Card}
use Rattle.canonical.specs.Rule.{layout, rule}
use Rattle.canonical.specs.Printed.{Row, row, MN, K, printed_table, figure}
use Rattle.canonical.specs.Canonical.{on_m, canonical_card, reported}
use Rattle.canonical.specs.declared.Canonical.{Canonical}

-- the row of a major-ness and a mode by the rule
abbrev pub ruled : ℕ → ℕ → ℕ → ℕ → ℕ → Row → Row
ruled T m k LBO SBO r = row r.major r.mode (rule r.major r.mode T m k LBO SBO) (r.mode ∷ 4 ∷ 3 ∷ [])

-- every row of the table is the rule's, for every T, m, k, LBO and SBO
pub table_by_rule : (T m k LBO SBO : ℕ) → map (ruled T m k LBO SBO) (printed_table T m k LBO SBO) ≡ printed_table T m k LBO SBO
table_by_rule T m k LBO SBO = refl

-- the exact layouts of Figures 188 to 192, from the parameters printed beside them: T 4 or 8, m 2, k 2, LBO and SBO in elements
pub figure_188 : rule K 0 4 2 2 64 32 ≡ layout (8 ∷ 2 ∷ []) (4 ∷ 4 ∷ []) (4 ∷ 32 ∷ []) (1 ∷ 64 ∷ [])
figure_188 = refl

pub figure_189 : (LBO : ℕ) → rule K 1 4 2 2 LBO 64 ≡ layout (8 ∷ 2 ∷ []) (4 ∷ 4 ∷ []) (8 ∷ 64 ∷ []) (1 ∷ 4 ∷ [])
figure_189 LBO = refl

pub figure_190 : rule MN 0 8 2 2 128 64 ≡ layout (8 ∷ 1 ∷ 2 ∷ []) (8 ∷ 2 ∷ []) (1 ∷ 8 ∷ 64 ∷ []) (8 ∷ 128 ∷ [])
figure_190 = refl

pub figure_191 : rule MN 1 8 2 2 128 256 ≡ layout (8 ∷ 2 ∷ 2 ∷ []) (8 ∷ 2 ∷ []) (1 ∷ 8 ∷ 128 ∷ []) (16 ∷ 256 ∷ [])
figure_191 = refl

pub figure_192 : rule MN 2 8 2 2 256 512 ≡ layout (8 ∷ 4 ∷ 2 ∷ []) (8 ∷ 2 ∷ []) (1 ∷ 8 ∷ 256 ∷ []) (32 ∷ 512 ∷ [])
figure_192 = refl

-- The card of a figure: an iter of m is an extent by a stride on axis 7; eight slots, one length, the mode's M, B, S
abbrev only_m : List Iter → ℕ → ℕ → ℕ → ℕ → Card
only_m at count length M B =
    record {
      shard = record { at = at; count = count };
      marks = replicate 8 false;
      replica = record { at = replicate 8 none; count = 0 };
      offset = replicate 8 (pos 0);
      lengths = 1 ∷ 1 ∷ 1 ∷ 1 ∷ 1 ∷ 1 ∷ 1 ∷ length ∷ [];
      swizzle = record { m = M; b = B; s = 3 };
    }

abbrev four : ℕ → ℕ → ℕ → ℕ → ℕ → ℕ → ℕ → ℕ → List Iter
four e s f t g u h v = on_m e s ∷ on_m f t ∷ on_m g u ∷ on_m h v ∷ replicate 4 none

abbrev five : ℕ → ℕ → ℕ → ℕ → ℕ → ℕ → ℕ → ℕ → ℕ → ℕ → List Iter
five e s f t g u h v i w = on_m e s ∷ on_m f t ∷ on_m g u ∷ on_m h v ∷ on_m i w ∷ replicate 3 none

-- Figure 189's is the card of document 01: extents (2,8,4,4), strides 64, 8, 4, 1, all m, length 256, swizzle (2,1,3), whatever its LBO
pub card_189 : (LBO : ℕ) → canonical_card (figure K 1 32 LBO (64 * 4) 256) ≡ only_m (four 2 64 8 8 4 4 4 1) 4 256 2 1
unfolding bit_length count_leading_zeros
card_189 LBO = refl

pub card_188 : canonical_card (figure K 0 32 (64 * 4) (32 * 4) 256) ≡ only_m (four 2 32 8 4 4 64 4 1) 4 256 2 0
unfolding bit_length count_leading_zeros
card_188 = refl

pub card_190 : canonical_card (figure MN 0 16 (128 * 2) (64 * 2) 256) ≡ only_m (five 2 64 1 8 8 1 2 128 8 8) 5 256 3 0
unfolding bit_length count_leading_zeros
card_190 = refl

pub card_191 : canonical_card (figure MN 1 16 (128 * 2) (256 * 2) 512) ≡ only_m (five 2 128 2 8 8 1 2 256 8 16) 5 512 3 1
unfolding bit_length count_leading_zeros
card_191 = refl

pub card_192 : canonical_card (figure MN 2 16 (256 * 2) (512 * 2) 1024) ≡ only_m (five 2 256 4 8 8 1 2 512 8 32) 5 1024 3 2
unfolding bit_length count_leading_zeros
card_192 = refl

-- what is reported of an approved figure: the printed encodings, 1 for the LBO that Figure 189 does not use
abbrev encodings : Canonical → List ℕ
encodings a = (reported a (approved_with 0 0 0)).lbo ∷ (reported a (approved_with 0 0 0)).sbo ∷ []

pub figures_encoded :
    (map encodings (figure K 0 32 (64 * 4) (32 * 4) 256 ∷ figure MN 0 16 (128 * 2) (64 * 2) 256 ∷ figure MN 1 16 (128 * 2) (256 * 2) 512 ∷ figure MN 2 16 (256 * 2) (512 * 2) 1024 ∷ [])
    ≡ (16 ∷ 8 ∷ []) ∷ (16 ∷ 8 ∷ []) ∷ (16 ∷ 32 ∷ []) ∷ (32 ∷ 64 ∷ []) ∷ [])
    × ((LBO : ℕ) → encodings (figure K 1 32 LBO (64 * 4) 256) ≡ 1 ∷ 16 ∷ [])
figures_encoded = (refl, λ LBO. refl)
