-- A line of eight lengths: eight of the notation's numbers, parted by single spaces.
use Rattle.std.specs.Prelude.{ℕ, ◌≡◌, Bool, true, false, List, map, length, replicate}
use Rattle.notation.specs.Quoted.{quoted_bytes}
use Rattle.notation.specs.Text.{decimal, joined, Short, Each}
use Rattle.typed_lengths.specs.declared.LineOfLengths.{LineOfLengths}

pub record LineSays (line lengths : List ℕ) : Type 0 where
  pub eight : length lengths ≡ 8
  pub short : Each Short lengths
  pub spelled : line ≡ joined (quoted_bytes " ") (map decimal lengths)

-- correct exactly when the line says eight lengths, and then these; else zeros
abbrev pub LengthsCome : Bool → List ℕ → List ℕ → Type 0
LengthsCome true line lengths = LineSays line lengths
LengthsCome false line lengths = ((l : List ℕ) → LineSays line l → ⊥) × (lengths ≡ replicate 8 0)

abbrev pub LengthsAnswered : List ℕ → LineOfLengths → Type 0
LengthsAnswered line r = LengthsCome r.correct line r.lengths
