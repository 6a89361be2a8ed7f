-- A buffer that a text is written into, byte after byte. Nothing here has to be believed: it is what the functions of the writer promise each other.
use Rattle.std.specs.Prelude.{ℕ, ◌+◌, ◌≤◌, Bool, cond, List, [], ◌∷◌, ◌++◌, eqb, ℤ, length, set, replicate}
use Rattle.writing_words.specs.declared.Out.{Out}

-- a text written over a list from a place on
abbrev pub overlay : List ℕ → ℕ → List ℕ → List ℕ
overlay l k [] = l
overlay l k (b ∷ t) = overlay (set l k b) (k + 1) t

unfoldable pub wrote : Out → List ℕ → Out
wrote out text = record { bytes = overlay out.bytes out.length text; length = out.length + length text }

-- room for so many bytes more
abbrev pub Free : ℕ → Out → Type 0
Free n out = out.length + n ≤ 512

abbrev pub no_text : Out
no_text = record { bytes = replicate 512 0; length = 0 }

-- a comma before all but the first
abbrev pub joint : ℕ → List ℕ
joint k = cond (eqb k 0) [] (44 ∷ [])

-- the axes' names, and what opens the shard and the replica: pid warpid laneid P F TLane TCol m S[ +R[
abbrev pub words : List ℕ
words =
    112 ∷ 105 ∷ 100 ∷ 119 ∷ 97 ∷ 114 ∷ 112 ∷ 105 ∷ 100 ∷ 108 ∷ 97 ∷ 110 ∷ 101 ∷ 105 ∷ 100 ∷ 80 ∷ 70 ∷ 84 ∷ 76 ∷ 97 ∷ 110 ∷ 101 ∷ 84 ∷ 67 ∷ 111 ∷ 108 ∷ 109 ∷ 83 ∷ 91 ∷ 43 ∷ 82 ∷ 91 ∷ []
