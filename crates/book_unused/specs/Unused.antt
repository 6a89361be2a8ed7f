-- Unused bytes, part by part: what the functions inside promise each other. Nothing here has to be believed.
use Rattle.std.specs.Prelude.{ℕ, ◌+◌, ◌*◌, ◌≤◌, ◌<◌, ◌≡◌, List, get_or}

-- zero from one place to before another
abbrev pub Zeros : List ℕ → ℕ → ℕ → Type 0
Zeros block from to = (i : ℕ) → from ≤ i → i < to → get_or block i 0 ≡ 0

-- a slot after its axis: a byte of at most so much, and two zeros
abbrev pub End : List ℕ → ℕ → ℕ → Type 0
End block most at = (get_or block at 0 ≤ most) × (get_or block (at + 1) 0 ≡ 0) × (get_or block (at + 2) 0 ≡ 0)

-- so many slots from one place on
abbrev pub SlotsEnd : List ℕ → ℕ → ℕ → ℕ → Type 0
SlotsEnd block from most count = (k : ℕ) → k < count → End block most (from + 12 * k + 9)
