-- The notation: what a text says, how it is spelled, and what a correct text is.
use Rattle.std.specs.Prelude.{ℕ, zero, suc, ◌+◌, ◌/◌, ◌%◌, ◌≤◌, ◌<◌, ◌≡◌, Bool, true, false, cond, List, [], ◌∷◌, ◌++◌, map, eqb, ltb, length, get_or}
use Rattle.notation.specs.Quoted.{quoted_bytes}
use Rattle.notation.specs.declared.NamedAxis.{NamedAxis}
use Rattle.notation.specs.declared.NamedAxis.TheVariants.{Bare, At, Marked}
use Rattle.notation.specs.declared.Step.{Step}

-- a number in decimal, in at most so many digits
abbrev pub digits : ℕ → ℕ → List ℕ
digits zero n = []
digits (suc k) n = cond (ltb n 10) ((48 + n) ∷ []) (digits k (n / 10) ++ ((48 + n % 10) ∷ []))

unfoldable pub decimal : ℕ → List ℕ
decimal n = digits 5 n

-- pid, warpid, laneid, P, F, TLane, TCol, m
abbrev pub names : List (List ℕ)
names = map quoted_bytes ("pid" ∷ "warpid" ∷ "laneid" ∷ "P" ∷ "F" ∷ "TLane" ∷ "TCol" ∷ "m" ∷ [])

abbrev pub name : ℕ → List ℕ
name axis = get_or names axis []

-- a missing axis means m
abbrev pub axis_meant : NamedAxis → ℕ
axis_meant Bare = 7
axis_meant (At axis) = axis
axis_meant (Marked axis) = axis

-- nothing, `@` and the name, or these and a star
abbrev pub spell_place : NamedAxis → List ℕ
spell_place Bare = []
spell_place (At axis) = quoted_bytes "@" ++ name axis
spell_place (Marked axis) = quoted_bytes "@" ++ (name axis ++ quoted_bytes "*")

-- a minus or nothing, the number, and the place
abbrev pub spell_signed : Bool → ℕ → List ℕ
spell_signed negative size = cond negative (quoted_bytes "-") [] ++ decimal size

abbrev pub spell_step : Step → List ℕ
spell_step s = spell_signed s.negative s.size ++ spell_place s.place

-- parted by commas, or by something else
abbrev pub tails : List ℕ → List (List ℕ) → List ℕ
tails part [] = []
tails part (t ∷ ts) = part ++ (t ++ tails part ts)

abbrev pub joined : List ℕ → List (List ℕ) → List ℕ
joined part [] = []
joined part (t ∷ ts) = t ++ tails part ts

-- with parentheses or without
abbrev pub opening_bytes : Bool → List ℕ
opening_bytes paren = cond paren (quoted_bytes "(") []

abbrev pub closing : Bool → List ℕ
closing paren = cond paren (quoted_bytes ")") []

abbrev pub enclosed : Bool → List (List ℕ) → List ℕ
enclosed paren ts = opening_bytes paren ++ (joined (quoted_bytes ",") ts ++ closing paren)

-- extents, `:`, strides
pub record Lists : Type 0 where
  pub extents : List ℕ
  pub steps : List Step

abbrev pub spell_lists : Bool → Lists → List ℕ
spell_lists paren l = enclosed paren (map decimal l.extents) ++ (quoted_bytes ":" ++ enclosed paren (map spell_step l.steps))

-- S[..]
abbrev pub spell_shard : Lists → List ℕ
spell_shard l = quoted_bytes "S[" ++ (spell_lists true l ++ quoted_bytes "]")

-- nothing, or +R[..]: a single iter is bare
abbrev pub spell_replica : Lists → List ℕ
spell_replica l = cond (eqb (length l.extents) 0) [] (quoted_bytes "+R[" ++ (spell_lists (ltb 1 (length l.extents)) l ++ quoted_bytes "]"))

-- each after a `+`
abbrev pub spell_offsets : List Step → List ℕ
spell_offsets [] = []
spell_offsets (s ∷ ss) = (quoted_bytes "+" ++ spell_step s) ++ spell_offsets ss

-- what a text says
pub record Notation : Type 0 where
  pub shard : Lists
  pub replica : Lists
  pub offsets : List Step

abbrev pub spell : Notation → List ℕ
spell n = spell_shard n.shard ++ (spell_replica n.replica ++ spell_offsets n.offsets)

-- at most five digits; no minus before 0; a star in the shard alone
abbrev pub Short : ℕ → Type 0
Short n = n < 100000

abbrev pub Each : {A : Type 0} → (A → Type 0) → List A → Type 0
Each P [] = Unit {0}
Each P (a ∷ l) = P a × Each P l

abbrev pub Sound : Step → Type 0
Sound s = Short s.size × (s.negative ≡ true → 1 ≤ s.size) × (axis_meant s.place ≤ 7)

abbrev pub is_marked : NamedAxis → Bool
is_marked Bare = false
is_marked (At axis) = false
is_marked (Marked axis) = true

abbrev pub Plain : Step → Type 0
Plain s = Sound s × (is_marked s.place ≡ false)

-- the axes rise
abbrev pub Rising : ℕ → List Step → ℕ → Type 0
Rising from [] end = from ≤ end
Rising from (s ∷ ss) end = (from ≤ axis_meant s.place) × Rising (axis_meant s.place + 1) ss end

-- both lists equally long, at most so many
pub record Limits (most : ℕ) (P : Step → Type 0) (l : Lists) : Type 0 where
  pub few : length l.extents ≤ most
  pub same : length l.steps ≡ length l.extents
  pub short : Each Short l.extents
  pub sound : Each P l.steps

-- the limits of the grammar
pub record Within (n : Notation) : Type 0 where
  pub some : 1 ≤ length n.shard.extents
  pub shard : Limits 8 Sound n.shard
  pub replica : Limits 4 Plain n.replica
  pub offsets : Each Plain n.offsets
  pub rising : Rising 0 n.offsets 8

pub record Correct (text : List ℕ) : Type 0 where
  pub says : Notation
  pub within : Within says
  pub spelled : text ≡ spell says
