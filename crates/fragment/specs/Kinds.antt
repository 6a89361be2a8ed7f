-- Who holds what in a warp (002, m8n8k4): document 01's table. Each list runs from kind 0 to kind 8.
use Rattle.std.specs.Prelude.{ℕ, ◌+◌, ◌*◌, ◌/◌, ◌%◌, cond, [], ◌∷◌, leb, get_or}
use Rattle.std.specs.Int.Bits.{bit_and}
use Rattle.fragment.specs.declared.Place.{Place}

infixl 50 ◌&◌
abbrev pub ◌&◌ : ℕ → ℕ → ℕ
◌&◌ = bit_and

abbrev pub at : ℕ → ℕ → ℕ → Place
at computation row column = record { computation = computation; row = row; column = column }

-- the computations of a kind, numbered from 0
unfoldable pub computations : ℕ → ℕ
computations kind = get_or (4 ∷ 4 ∷ 4 ∷ 4 ∷ 4 ∷ 4 ∷ 1 ∷ 1 ∷ 1 ∷ []) kind 0

-- for kinds 0 to 5 the computation is (lane mod 16) / 4; for .f64 it is 0
unfoldable pub computation : ℕ → ℕ → ℕ
computation kind lane = cond (leb kind 5) (lane % 16 / 4) 0

-- h: 4 if lane is 16 or more, else 0
abbrev pub high : ℕ → ℕ
high lane = cond {A = ℕ} (leb 16 lane) 4 0

-- the registers of a lane
unfoldable pub registers : ℕ → ℕ
registers kind = get_or (4 ∷ 4 ∷ 4 ∷ 4 ∷ 8 ∷ 8 ∷ 1 ∷ 1 ∷ 2 ∷ []) kind 0

-- computation, row and column of what register i of a lane holds; 0 0 0 stands for an unknown kind
unfoldable pub place : ℕ → ℕ → ℕ → Place
place kind lane i =
    let c : ℕ = computation kind lane in
    let q : ℕ = lane % 4 in
    let h : ℕ = high lane in
    get_or
    (at c (q + h) i  -- 0 A .f16 row-major
    ∷ at c (i + h) q  -- 1 A .f16 column-major
    ∷ at c q (i + h)  -- 2 B .f16 row-major
    ∷ at c i (q + h)  -- 3 B .f16 column-major
    ∷ at c (q + h) i  -- 4 C .f16
    ∷ at c ((lane & 1) + (i & 2) + h) ((i & 4) + (lane & 2) + (i & 1))  -- 5 C .f32
    ∷ at c (lane / 4) q  -- 6 A .f64
    ∷ at c q (lane / 4)  -- 7 B .f64
    ∷ at c (lane / 4) (2 * q + i)  -- 8 C .f64
    ∷ [])
    kind
    (at 0 0 0)

-- A is 8 by 4, B 4 by 8, C 8 by 8: the kinds are of A, A, B, B, C, C, A, B, C
unfoldable pub rows : ℕ → ℕ
rows kind = get_or (8 ∷ 8 ∷ 4 ∷ 4 ∷ 8 ∷ 8 ∷ 8 ∷ 4 ∷ 8 ∷ []) kind 0

unfoldable pub columns : ℕ → ℕ
columns kind = get_or (4 ∷ 4 ∷ 8 ∷ 8 ∷ 8 ∷ 8 ∷ 4 ∷ 8 ∷ 8 ∷ []) kind 0
