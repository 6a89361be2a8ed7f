-- The bytes of a quoted text, so that the grammar can be read as it is typed.
use Rattle.std.specs.Prelude.{ℕ, List, [], ◌∷◌}
use Prim.Native.Char.{code}
use Prim.Native.String.{String, [] as none, ◌∷◌ as ◌then◌}

abbrev pub quoted_bytes : String → List ℕ
quoted_bytes none = []
quoted_bytes (c then s) = code c ∷ quoted_bytes s
