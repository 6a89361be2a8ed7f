-- The canonical layouts of source document 001's table, by one rule over the mode. Strides are in elements.
use Rattle.std.specs.Prelude.{ℕ, ◌*◌, ◌^◌, Bool, cond, not, ◌||◌, List, [], ◌∷◌, eqb}

-- a CuTe layout ((rows),(columns)):((row strides),(column strides)), in each the innermost first
pub record CuTeLayout : Type 0 where
  pub rows : List ℕ
  pub columns : List ℕ
  pub row_strides : List ℕ
  pub column_strides : List ℕ

abbrev pub layout : List ℕ → List ℕ → List ℕ → List ℕ → CuTeLayout
layout rows columns row_strides column_strides =
    record { rows = rows; columns = columns; row_strides = row_strides; column_strides = column_strides }

-- major-ness 0 is K, 1 is MN
abbrev pub is_k : ℕ → Bool
is_k major = eqb major 0

-- mode 0 is no swizzling
abbrev pub plain : ℕ → Bool
plain mode = eqb mode 0

-- a swizzle's width in pieces of 16 bytes: 1 without swizzling, 2 for 32B, 4 for 64B, 8 for 128B
abbrev pub pieces : ℕ → ℕ
pieces mode = 2 ^ mode

-- from one repeating pattern to the next across rows: SBO, but LBO where MN-major is swizzled
abbrev pub across_rows : ℕ → ℕ → ℕ → ℕ → ℕ
across_rows major mode LBO SBO = cond (plain mode || is_k major) SBO LBO

-- and across columns: LBO without swizzling; with it SBO where MN-major, and the next 16 bytes where K-major
abbrev pub across_columns : ℕ → ℕ → ℕ → ℕ → ℕ → ℕ
across_columns major mode T LBO SBO = cond (plain mode) LBO (cond (is_k major) T SBO)

-- so LBO is not used where K-major is swizzled
abbrev pub uses_lbo : ℕ → ℕ → Bool
uses_lbo major mode = plain mode || not (is_k major)

-- the rule: T elements of 16 bytes lie together, along columns where K-major and along rows where MN-major; eight of these lie a swizzle's
-- width apart; MN-major rows are that wide; K-major columns have 2k times T elements
abbrev pub rule : ℕ → ℕ → ℕ → ℕ → ℕ → ℕ → ℕ → CuTeLayout
rule major mode T m k LBO SBO =
    cond (is_k major)
    (layout (8 ∷ m ∷ []) (T ∷ 2 * k ∷ []) (pieces mode * T ∷ across_rows major mode LBO SBO ∷ []) (1 ∷ across_columns major mode T LBO SBO ∷ []))
    (layout (T ∷ pieces mode ∷ m ∷ []) (8 ∷ k ∷ []) (1 ∷ T ∷ across_rows major mode LBO SBO ∷ []) (pieces mode * T ∷ across_columns major mode T LBO SBO ∷ []))
