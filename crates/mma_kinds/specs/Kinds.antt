-- The further kinds of warp fragments: of each its sizes, PTX's words on row and column, and the six numbers by which its layout is cut. What stands
-- behind a row is its number and its name; a kind is added by one row at the end.
use Rattle.std.specs.Prelude.{ℕ, ◌+◌, ◌-◌, ◌*◌, ◌/◌, ◌%◌, Bool, true, false, cond, ◌&&◌, List, [], ◌∷◌, ◌++◌, leb, eqb, get_or, replicate}
use Rattle.mma_kinds.specs.declared.KindForm.{KindForm}
use Rattle.mma_kinds.specs.declared.MmaPlace.{MmaPlace}

-- so many matrices, warps, registers of a lane (PTX's elements a0, a1, ..), rows and columns; what element i of a lane of warp w holds, where g is
-- groupID, %laneid >> 2, and t is threadID_in_group, %laneid % 4; and the six numbers
pub record Kind : Type 0 where
  pub matrices : ℕ
  pub warps : ℕ
  pub registers : ℕ
  pub rows : ℕ
  pub columns : ℕ
  pub rule : ℕ → ℕ → ℕ → ℕ → MmaPlace
  pub form : KindForm

abbrev pub kind : ℕ → ℕ → ℕ → ℕ → ℕ → (ℕ → ℕ → ℕ → ℕ → MmaPlace) → KindForm → Kind
kind matrices warps registers rows columns rule form =
    record { matrices = matrices; warps = warps; registers = registers; rows = rows; columns = columns; rule = rule; form = form }

abbrev pub mma_at : ℕ → ℕ → ℕ → MmaPlace
mma_at matrix row column = record { matrix = matrix; row = row; column = column }

-- elements next to each other, halves of rows, repeats along the columns, matrices, warps; turned, rows and columns are exchanged
abbrev pub form : ℕ → ℕ → ℕ → ℕ → ℕ → KindForm
form p h r x w = record { next = p; halves = h; repeats = r; matrices = x; warps = w; turned = false }

abbrev pub turned_form : ℕ → ℕ → ℕ → ℕ → ℕ → KindForm
turned_form p h r x w = record { next = p; halves = h; repeats = r; matrices = x; warps = w; turned = true }

unfoldable pub kind_table : List Kind
kind_table =
    kind 1 1 4 16 8 (λ w g t i. mma_at 0 (g + 8 * (i / 2)) (2 * t + i % 2)) (form 2 2 1 1 1)  -- 9 m16n8k8 .f16/.bf16 A
    ∷ kind 1 1 2 8 8 (λ w g t i. mma_at 0 (2 * t + i) g) (turned_form 2 1 1 1 1)  -- 10 m16n8k8 .f16/.bf16 B
    ∷ kind 1 1 4 16 8 (λ w g t i. mma_at 0 (g + 8 * (i / 2)) (2 * t + i % 2)) (form 2 2 1 1 1)  -- 11 m16n8 C and D, every k
    ∷ kind 1 1 8 16 16 (λ w g t i. mma_at 0 (g + 8 * (i / 2 % 2)) (2 * t + i % 2 + 8 * (i / 4))) (form 2 2 2 1 1)  -- 12 m16n8k16 .f16/.bf16 A
    ∷ kind 1 1 4 16 8 (λ w g t i. mma_at 0 (2 * t + i % 2 + 8 * (i / 2)) g) (turned_form 2 1 2 1 1)  -- 13 m16n8k16 .f16/.bf16 B
    ∷ kind 1 1 2 16 4 (λ w g t i. mma_at 0 (g + 8 * i) t) (form 1 2 1 1 1)  -- 14 m16n8k4 .tf32 A
    ∷ kind 1 1 1 4 8 (λ w g t i. mma_at 0 t g) (turned_form 1 1 1 1 1)  -- 15 m16n8k4 .tf32 B
    ∷ kind 1 1 4 16 8 (λ w g t i. mma_at 0 (g + 8 * (i % 2)) (t + 4 * (i / 2))) (form 1 2 2 1 1)  -- 16 m16n8k8 .tf32 A
    ∷ kind 1 1 2 8 8 (λ w g t i. mma_at 0 (t + 4 * i) g) (turned_form 1 1 2 1 1)  -- 17 m16n8k8 .tf32 B
    ∷ kind 1 1 4 8 16 (λ w g t i. mma_at 0 g (4 * t + i)) (form 4 1 1 1 1)  -- 18 m8n8k16 .s8/.u8 A
    ∷ kind 1 1 4 16 8 (λ w g t i. mma_at 0 (4 * t + i) g) (turned_form 4 1 1 1 1)  -- 19 m8n8k16 .s8/.u8 B
    ∷ kind 1 1 2 8 8 (λ w g t i. mma_at 0 g (2 * t + i)) (form 2 1 1 1 1)  -- 20 m8n8 C and D .s32, every k
    ∷ kind 1 1 8 16 16 (λ w g t i. mma_at 0 (g + 8 * (i / 4)) (4 * t + i % 4)) (form 4 2 1 1 1)  -- 21 m16n8k16 .s8/.u8 A
    ∷ kind 1 1 4 16 8 (λ w g t i. mma_at 0 (4 * t + i) g) (turned_form 4 1 1 1 1)  -- 22 m16n8k16 .s8/.u8 B
    ∷ kind 1 1 16 16 32 (λ w g t i. mma_at 0 (g + 8 * (i / 4 % 2)) (4 * t + i % 4 + 16 * (i / 8))) (form 4 2 2 1 1)  -- 23 m16n8k32 .s8/.u8 A
    ∷ kind 1 1 8 32 8 (λ w g t i. mma_at 0 (4 * t + i % 4 + 16 * (i / 4)) g) (turned_form 4 1 2 1 1)  -- 24 m16n8k32 .s8/.u8 B
    ∷ kind 1 1 8 8 32 (λ w g t i. mma_at 0 g (8 * t + i)) (form 8 1 1 1 1)  -- 25 m8n8k32 .s4/.u4 A
    ∷ kind 1 1 8 32 8 (λ w g t i. mma_at 0 (8 * t + i) g) (turned_form 8 1 1 1 1)  -- 26 m8n8k32 .s4/.u4 B
    ∷ kind 1 1 16 16 32 (λ w g t i. mma_at 0 (g + 8 * (i / 8)) (8 * t + i % 8)) (form 8 2 1 1 1)  -- 27 m16n8k32 .s4/.u4 A
    ∷ kind 1 1 8 32 8 (λ w g t i. mma_at 0 (8 * t + i) g) (turned_form 8 1 1 1 1)  -- 28 m16n8k32 .s4/.u4 B
    ∷ kind 1 1 32 16 64 (λ w g t i. mma_at 0 (g + 8 * (i / 8 % 2)) (8 * t + i % 8 + 32 * (i / 16))) (form 8 2 2 1 1)  -- 29 m16n8k64 .s4/.u4 A
    ∷ kind 1 1 16 64 8 (λ w g t i. mma_at 0 (8 * t + i % 8 + 32 * (i / 8)) g) (turned_form 8 1 2 1 1)  -- 30 m16n8k64 .s4/.u4 B
    ∷ kind 1 1 2 16 4 (λ w g t i. mma_at 0 (g + 8 * i) t) (form 1 2 1 1 1)  -- 31 m16n8k4 .f64 A
    ∷ kind 1 1 1 4 8 (λ w g t i. mma_at 0 t g) (turned_form 1 1 1 1 1)  -- 32 m16n8k4 .f64 B
    ∷ kind 1 1 4 16 8 (λ w g t i. mma_at 0 (g + 8 * (i % 2)) (t + 4 * (i / 2))) (form 1 2 2 1 1)  -- 33 m16n8k8 .f64 A
    ∷ kind 1 1 2 8 8 (λ w g t i. mma_at 0 (t + 4 * i) g) (turned_form 1 1 2 1 1)  -- 34 m16n8k8 .f64 B
    ∷ kind 1 1 8 16 16 (λ w g t i. mma_at 0 (g + 8 * (i % 2)) (t + 4 * (i / 2))) (form 1 2 4 1 1)  -- 35 m16n8k16 .f64 A
    ∷ kind 1 1 4 16 8 (λ w g t i. mma_at 0 (t + 4 * i) g) (turned_form 1 1 4 1 1)  -- 36 m16n8k16 .f64 B
    ∷ kind 1 4 8 64 16 (λ w g t i. mma_at 0 (16 * w + g + 8 * (i / 2 % 2)) (2 * t + i % 2 + 8 * (i / 4))) (form 2 2 2 1 4)  -- 37 wgmma m64k16 A in registers, .f16/.bf16
    ∷ kind 1 4 4 64 8 (λ w g t i. mma_at 0 (16 * w + g + 8 * (i % 2)) (t + 4 * (i / 2))) (form 1 2 2 1 4)  -- 38 wgmma m64k8 A in registers, .tf32
    ∷ kind 1 4 16 64 32 (λ w g t i. mma_at 0 (16 * w + g + 8 * (i / 4 % 2)) (4 * t + i % 4 + 16 * (i / 8))) (form 4 2 2 1 4)  -- 39 wgmma m64k32 A in registers, .s8/.u8
    ∷ kind 1 1 2 8 8 (λ w g t i. mma_at 0 g (2 * t + i)) (form 2 1 1 1 1)  -- 40 ldmatrix/stmatrix m8n8.x1.b16
    ∷ kind 1 1 2 8 8 (λ w g t i. mma_at 0 (2 * t + i) g) (turned_form 2 1 1 1 1)  -- 41 ldmatrix/stmatrix m8n8.x1.trans.b16
    ∷ kind 2 1 4 8 8 (λ w g t i. mma_at (i / 2) g (2 * t + i % 2)) (form 2 1 1 2 1)  -- 42 ldmatrix/stmatrix m8n8.x2.b16
    ∷ kind 2 1 4 8 8 (λ w g t i. mma_at (i / 2) (2 * t + i % 2) g) (turned_form 2 1 1 2 1)  -- 43 ldmatrix/stmatrix m8n8.x2.trans.b16
    ∷ kind 4 1 8 8 8 (λ w g t i. mma_at (i / 2) g (2 * t + i % 2)) (form 2 1 1 4 1)  -- 44 ldmatrix/stmatrix m8n8.x4.b16
    ∷ kind 4 1 8 8 8 (λ w g t i. mma_at (i / 2) (2 * t + i % 2) g) (turned_form 2 1 1 4 1)  -- 45 ldmatrix/stmatrix m8n8.x4.trans.b16
    ∷ []

-- the accumulators D of wgmma m64nN, by one rule over N: kind 1000 + N
abbrev pub accumulator : ℕ → Kind
accumulator n = kind 1 4 (n / 2) 64 n (λ w g t i. mma_at 0 (16 * w + g + 8 * (i / 2 % 2)) (8 * (i / 4) + 2 * t + i % 2)) (form 2 2 (n / 8) 1 4)

-- N is 8, 16, .. 256
abbrev pub is_accumulator : ℕ → Bool
is_accumulator number = leb 1008 number && leb number 1256 && eqb (number % 8) 0

-- what is no kind holds nothing
abbrev pub no_kind : Kind
no_kind = kind 0 0 0 0 0 (λ w g t i. mma_at 0 0 0) (form 0 0 0 0 0)

-- the rows by their numbers: kinds 0 to 8 are document 01's, so the table begins at 9
abbrev pub kinds_by_number : List Kind
kinds_by_number = replicate 9 no_kind ++ kind_table

unfoldable pub kind_of : ℕ → Kind
kind_of number = cond (is_accumulator number) (accumulator (number - 1000)) (get_or kinds_by_number number no_kind)
