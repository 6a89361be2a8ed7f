-- The words in which request 12 of document 02 says that columns do not collide: rows, 16-byte pieces, groups of four banks.
use Rattle.std.specs.Prelude.{ℕ, ◌+◌, ◌*◌, ◌/◌, ◌%◌, ◌^◌, ◌≤◌, ◌<◌}

-- the width of a mode's rows in bytes: 32 for mode 1, 64 for mode 2, 128 for mode 3
abbrev pub width : ℕ → ℕ
width mode = 16 * 2 ^ mode

-- rows packed at exactly this width, the first at byte `first`: the byte at which the 16-byte piece of a row and a column begins
abbrev pub piece_at : ℕ → ℕ → ℕ → ℕ → ℕ
piece_at mode first column row = first + row * width mode + column * 16

-- the element at address m begins in the 16 bytes from this byte on
pub record InPiece (bits byte m : ℕ) : Type 0 where
  pub from : byte * 8 ≤ m * bits
  pub before : m * bits < (byte + 16) * 8

-- the group of four banks, of the eight of a line, in which bit i of the element at an address lies
abbrev pub group_of : ℕ → ℕ → ℕ → ℕ
group_of bits address i = (address * bits + i) / 32 % 32 / 4
