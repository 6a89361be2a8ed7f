-- Values of any type dealt to the lanes of a warp and collected from them: they are moved and never looked at.
-- A tile is its rows, eight of eight; the lanes are their registers, 32 of eight.
use Rattle.std.specs.Prelude.{ℕ, zero, suc, ◌/◌, ◌%◌, Bool, cond, ◌&&◌, List, eqb, ltb}
use Rattle.fragment.specs.declared.Place.{Place}
use Rattle.fragment.specs.Kinds.{place}
use Rattle.fragment.specs.Fragment.{is_slot}
use Rattle.values.specs.Rows.{entry, each_entry}

-- a register of the computation's own lanes: there is such a register, and what it holds is this computation's
abbrev pub is_own : ℕ → ℕ → ℕ → ℕ → Bool
is_own kind c lane i = is_slot kind lane i && eqb (place kind lane i).computation c

-- the smallest number below n that passes a test; n if none does
abbrev pub first : (ℕ → Bool) → ℕ → ℕ
first test zero = 0
first test (suc n) = cond (test 0) 0 (suc (first (λ k. test (suc k)) n))

-- the register of the computation that holds a row and a column, register n % 8 of lane n / 8; 256 if none does
unfoldable pub holder_at : ℕ → ℕ → ℕ → ℕ → ℕ
holder_at kind c row column =
    first (λ n. is_own kind c (n / 8) (n % 8) && eqb (place kind (n / 8) (n % 8)).row row && eqb (place kind (n / 8) (n % 8)).column column) 256

-- past the end of a tile or of the lanes stands `other`
module _ {A : Type 0} (other : A) where
  -- what stands in the tile at a place
  abbrev pub in_tile : List (List A) → Place → A
  in_tile tile p = entry other tile p.row p.column

  -- dealing: each of the computation's registers gets what stands at its place; every other register stays as given
  abbrev pub dealt_entry : ℕ → ℕ → List (List A) → ℕ → ℕ → A → A
  dealt_entry kind c tile lane i given = cond (is_own kind c lane i) (in_tile tile (place kind lane i)) given

  abbrev pub dealt : ℕ → ℕ → List (List A) → List (List A) → List (List A)
  dealt kind c tile = each_entry (dealt_entry kind c tile)

  -- collecting: each place that a register of the computation holds gets what stands in it; every other place stays as given
  abbrev pub collected_entry : ℕ → ℕ → List (List A) → ℕ → ℕ → A → A
  collected_entry kind c lanes row column given =
      let n = holder_at kind c row column in cond (ltb n 256) (entry other lanes (n / 8) (n % 8)) given

  abbrev pub collected : ℕ → ℕ → List (List A) → List (List A) → List (List A)
  collected kind c lanes = each_entry (collected_entry kind c lanes)
