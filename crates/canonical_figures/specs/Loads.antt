-- The loads of the canonical layouts: each is what is asked, the entries lent, and the stated answer with LBO and SBO as reported.
use Rattle.std.specs.Prelude.{ℕ, List, [], ◌∷◌}
use Rattle.answers.specs.Refusals.{answer}
use Rattle.answers.specs.declared.Numbers.{Numbers}
use Rattle.canonical.specs.Printed.{MN, K, parameters, figure}
use Rattle.canonical.specs.declared.Canonical.{Canonical}

-- a canonical layout in a table of so many entries
infix 25 ◌lent◌
pub record Lent : Type 0 where
  pub question : Canonical
  pub entries : ℕ

abbrev pub ◌lent◌ : Canonical → ℕ → Lent
q lent n = record { question = q; entries = n }

pub record FigureReply : Type 0 where
  pub numbers : Numbers
  pub lbo : ℕ
  pub sbo : ℕ

abbrev pub figure_reply : Numbers → ℕ → ℕ → FigureReply
figure_reply numbers lbo sbo = record { numbers = numbers; lbo = lbo; sbo = sbo }

pub record FigureLoad : Type 0 where
  pub put : Lent
  pub stated : FigureReply

infix 20 ◌yields◌
abbrev pub ◌yields◌ : Lent → FigureReply → FigureLoad
l yields r = record { put = l; stated = r }

-- source document 001: Figures 188 and 190, approved with the printed encodings at length 256; Figure 189 is refused, and its LBO isn't looked at
unfoldable pub figures : List FigureLoad
figures =
    (figure K 0 32 256 128 256 lent 256 yields figure_reply (answer 0 256 256 256) 16 8)
    ∷ (figure K 1 32 12345 256 256 lent 256 yields figure_reply (answer 8 8 16 8) 0 0)
    ∷ (figure MN 0 16 256 128 256 lent 256 yields figure_reply (answer 0 256 256 256) 16 8)
    ∷ []

-- the checks of request 7, by its sentences
unfoldable pub checks : List FigureLoad
checks =
    -- K-major under each swizzle, where a row's 2k pieces fill the width and where they are more: LBO isn't looked at and is reported as 1
    (parameters K 1 128 2 1 0 256 32 lent 32 yields figure_reply (answer 0 32 32 32) 1 16)
    ∷ (parameters K 1 128 2 2 0 256 64 lent 64 yields figure_reply (answer 8 2 4 2) 0 0)
    ∷ (parameters K 2 128 2 2 0 512 64 lent 64 yields figure_reply (answer 0 64 64 64) 1 32)
    ∷ (parameters K 2 128 2 3 0 512 128 lent 128 yields figure_reply (answer 8 4 6 4) 0 0)
    ∷ (parameters K 3 128 2 4 0 1024 128 lent 128 yields figure_reply (answer 0 128 128 128) 1 64)
    ∷ (parameters K 3 128 2 5 0 1024 256 lent 256 yields figure_reply (answer 8 8 10 9) 0 0)
    ∷ (parameters K 3 128 1 1 1152921504606846977 1024 64 lent 64 yields figure_reply (answer 0 16 16 64) 1 64)
    -- byte strides of 0 are permitted
    ∷ (parameters MN 3 128 1 1 0 0 64 lent 64 yields figure_reply (answer 0 64 64 64) 0 0)
    ∷ (parameters K 0 128 2 1 128 0 32 lent 32 yields figure_reply (answer 8 0 16 0) 0 0)
    -- bits and mode go to 6, judged first
    ∷ (parameters 2 0 12 0 9 1 1 0 lent 1 yields figure_reply (answer 6 0 0 0) 0 0)
    ∷ (parameters K 4 16 1 1 128 128 128 lent 1 yields figure_reply (answer 6 0 0 0) 0 0)
    -- then 22: major-ness, m and k, byte strides that are not multiples of 16 or not below 262,144, SBO also where it has no effect
    ∷ (parameters 2 0 16 1 1 128 128 128 lent 1 yields figure_reply (answer 22 0 0 0) 0 0)
    ∷ (parameters K 0 16 0 1 128 128 128 lent 1 yields figure_reply (answer 22 0 0 0) 0 0)
    ∷ (parameters K 0 16 9 1 128 128 128 lent 1 yields figure_reply (answer 22 0 0 0) 0 0)
    ∷ (parameters K 0 16 1 0 128 128 128 lent 1 yields figure_reply (answer 22 0 0 0) 0 0)
    ∷ (parameters K 0 16 1 9 128 128 128 lent 1 yields figure_reply (answer 22 0 0 0) 0 0)
    ∷ (parameters K 0 16 1 1 136 128 128 lent 1 yields figure_reply (answer 22 0 0 0) 0 0)
    ∷ (parameters K 0 16 1 1 262144 128 128 lent 1 yields figure_reply (answer 22 0 0 0) 0 0)
    ∷ (parameters K 3 16 1 1 0 8 512 lent 1 yields figure_reply (answer 22 0 0 0) 0 0)
    ∷ (parameters K 3 16 1 1 0 129 512 lent 1 yields figure_reply (answer 22 0 0 0) 0 0)
    ∷ (parameters K 3 16 1 1 0 262144 512 lent 1 yields figure_reply (answer 22 0 0 0) 0 0)
    ∷ (parameters MN 3 16 1 1 8 0 512 lent 1 yields figure_reply (answer 22 0 0 0) 0 0)
    -- the remaining refusals are the verdict's. 2 is for an element stride above 65,535: the last byte stride is 16,383 elements of 128 bits and
    -- 65,532 of 32, and too many of 16, 8 and 4, of which 16 bits have the last at 65,528
    ∷ (parameters K 0 128 1 1 128 262128 16 lent 16 yields figure_reply (answer 0 16 16 16) 8 16383)
    ∷ (parameters K 0 32 1 1 128 262128 64 lent 64 yields figure_reply (answer 0 64 64 64) 8 16383)
    ∷ (parameters K 0 16 1 1 128 131056 128 lent 128 yields figure_reply (answer 0 128 128 128) 8 8191)
    ∷ (parameters K 0 16 1 1 128 131072 128 lent 1 yields figure_reply (answer 2 0 0 0) 0 0)
    ∷ (parameters K 0 16 1 1 128 262128 128 lent 1 yields figure_reply (answer 2 0 0 0) 0 0)
    ∷ (parameters K 3 8 1 1 0 262128 1024 lent 1 yields figure_reply (answer 2 0 0 0) 0 0)
    ∷ (parameters MN 2 4 1 1 262128 0 1024 lent 1 yields figure_reply (answer 2 0 0 0) 0 0)
    -- 4, 5, 11 and 7
    ∷ (parameters K 0 16 1 1 128 128 0 lent 1 yields figure_reply (answer 4 0 0 0) 0 0)
    ∷ (parameters K 0 16 1 1 128 128 65537 lent 1 yields figure_reply (answer 4 0 0 0) 0 0)
    ∷ (parameters MN 3 4 8 8 16 16 65536 lent 1 yields figure_reply (answer 5 0 0 0) 0 0)
    ∷ (parameters MN 0 16 2 2 256 128 256 lent 255 yields figure_reply (answer 11 256 0 0) 0 0)
    ∷ (parameters MN 1 128 2 2 256 512 64 lent 64 yields figure_reply (answer 0 64 64 64) 16 32)
    ∷ (parameters MN 1 128 2 2 256 512 63 lent 63 yields figure_reply (answer 7 47 7 0) 0 0)
    ∷ []
