-- Source document 001's table of canonical layouts, as printed, and the parameters of its figures. Nothing here has to be believed: it is what the
-- rule is held against.
use Rattle.std.specs.Prelude.{ℕ, ◌*◌, List, [], ◌∷◌}
use Rattle.canonical.specs.Rule.{CuTeLayout, layout}
use Rattle.canonical.specs.declared.Canonical.{Canonical}

-- a row: major-ness and swizzling mode, the canonical layout without swizzling, and Swizzle<B, M, S> on it
pub record Row : Type 0 where
  pub major : ℕ
  pub mode : ℕ
  pub without : CuTeLayout
  pub swizzling : List ℕ

abbrev pub row : ℕ → ℕ → CuTeLayout → List ℕ → Row
row major mode without swizzling = record { major = major; mode = mode; without = without; swizzling = swizzling }

abbrev pub MN : ℕ
MN = 1

abbrev pub K : ℕ
K = 0

-- the eight rows, from top to bottom
abbrev pub printed_table : ℕ → ℕ → ℕ → ℕ → ℕ → List Row
printed_table T m k LBO SBO =
    -- MN-major: ((T,1,m),(8,k)):((1,T,SBO),(1T,LBO)), then ((T,2,m),(8,k)):((1,T,LBO),(2T,SBO)) and with 4 and 8
    row MN 0 (layout (T ∷ 1 ∷ m ∷ []) (8 ∷ k ∷ []) (1 ∷ T ∷ SBO ∷ []) (1 * T ∷ LBO ∷ [])) (0 ∷ 4 ∷ 3 ∷ [])
    ∷ row MN 1 (layout (T ∷ 2 ∷ m ∷ []) (8 ∷ k ∷ []) (1 ∷ T ∷ LBO ∷ []) (2 * T ∷ SBO ∷ [])) (1 ∷ 4 ∷ 3 ∷ [])
    ∷ row MN 2 (layout (T ∷ 4 ∷ m ∷ []) (8 ∷ k ∷ []) (1 ∷ T ∷ LBO ∷ []) (4 * T ∷ SBO ∷ [])) (2 ∷ 4 ∷ 3 ∷ [])
    ∷ row MN 3 (layout (T ∷ 8 ∷ m ∷ []) (8 ∷ k ∷ []) (1 ∷ T ∷ LBO ∷ []) (8 * T ∷ SBO ∷ [])) (3 ∷ 4 ∷ 3 ∷ [])
    -- K-major: ((8,m),(T,2k)):((1T,SBO),(1,LBO)), then ((8,m),(T,2k)):((2T,SBO),(1,T)) and with 4T and 8T
    ∷ row K 0 (layout (8 ∷ m ∷ []) (T ∷ 2 * k ∷ []) (1 * T ∷ SBO ∷ []) (1 ∷ LBO ∷ [])) (0 ∷ 4 ∷ 3 ∷ [])
    ∷ row K 1 (layout (8 ∷ m ∷ []) (T ∷ 2 * k ∷ []) (2 * T ∷ SBO ∷ []) (1 ∷ T ∷ [])) (1 ∷ 4 ∷ 3 ∷ [])
    ∷ row K 2 (layout (8 ∷ m ∷ []) (T ∷ 2 * k ∷ []) (4 * T ∷ SBO ∷ []) (1 ∷ T ∷ [])) (2 ∷ 4 ∷ 3 ∷ [])
    ∷ row K 3 (layout (8 ∷ m ∷ []) (T ∷ 2 * k ∷ []) (8 * T ∷ SBO ∷ []) (1 ∷ T ∷ [])) (3 ∷ 4 ∷ 3 ∷ [])
    ∷ []

-- major-ness, mode, bits, m, k, LBO and SBO in bytes, and the length of axis m
abbrev pub parameters : ℕ → ℕ → ℕ → ℕ → ℕ → ℕ → ℕ → ℕ → Canonical
parameters major mode bits m k LBO SBO length =
    record { major = major; mode = mode; bits = bits; m = m; k = k; lbo = LBO; sbo = SBO; length = length }

-- those of a figure: m and k are 2
abbrev pub figure : ℕ → ℕ → ℕ → ℕ → ℕ → ℕ → Canonical
figure major mode bits LBO SBO length = parameters major mode bits 2 2 LBO SBO length
