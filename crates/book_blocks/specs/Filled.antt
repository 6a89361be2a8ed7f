-- Bytes 0 to 507 of a block, one by one: what the functions inside promise each other.
use Rattle.std.specs.Prelude.{ℕ, ◌-◌, cond, List, ltb, get_or}
use Rattle.book_words.specs.Words.{byte_of}

-- byte j of these words, and of the note after them
abbrev pub body_byte : List ℕ → List ℕ → ℕ → ℕ
body_byte words note j = cond (ltb j 216) (byte_of (λ (i : ℕ). get_or words i 0) j) (get_or note (j - 216) 0)
