-- Reuse of scale factors: document 02, request 11. Elements that differ only in marked components are one, and the smallest of them leads.
use Rattle.std.specs.Prelude.{ℕ, ◌<◌, ◌≡◌, Bool, false, cond, List, [], ◌∷◌, map, length, get_or}
use Rattle.card.specs.Lists.{product}
use Rattle.card.specs.Card.{listed, marks_of, extent_of}
use Rattle.card.specs.declared.Card.{Card}
use Rattle.rules.specs.RowMajor.{row_major, components}

-- numbers, one per iter, with another in the place of each that is marked
abbrev pub unmarked : ℕ → List Bool → List ℕ → List ℕ
unmarked other [] ns = ns
unmarked other (mark ∷ marks) [] = []
unmarked other (mark ∷ marks) (n ∷ ns) = cond mark other n ∷ unmarked other marks ns

-- the shard's extents
abbrev pub extents : Card → List ℕ
extents card = map extent_of (listed card.shard)

-- an element's components, those of marked iters put to 0
abbrev pub own_components : Card → ℕ → List ℕ
own_components card flat = unmarked 0 (marks_of card) (components (extents card) flat)

-- two elements are one: they differ only in marked components
abbrev pub AreOne : Card → ℕ → ℕ → Type 0
AreOne card x y = own_components card x ≡ own_components card y

-- the element that leads: the one whose components are the own ones; it is the smallest of those that are one with it (leader_smallest)
unfoldable pub leader : Card → ℕ → ℕ
leader card flat = row_major (extents card) (own_components card flat)

-- how many elements lead: the product of the extents that are not marked
unfoldable pub classes : Card → ℕ
classes card = product (unmarked 1 (marks_of card) (extents card))

-- a card without marks: no listed iter carries one
abbrev pub Unmarked : Card → Type 0
Unmarked card = (k : ℕ) → k < length (marks_of card) → get_or (marks_of card) k false ≡ false
