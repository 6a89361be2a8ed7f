-- The smallest index of a list of iters at which an axis is near enough to its far end. Nothing here has to be believed: proofs/Reaching.antt shows
-- what it is.
use Rattle.std.specs.Prelude.{ℕ, ◌+◌, ◌*◌, ◌-◌, ◌/◌, min, Bool, cond, not, List, [], ◌∷◌, map, eqb}
use Rattle.laws.proofs.Parts.{up, down}
use Rattle.card.specs.Card.{listed, extent_of}
use Rattle.card.specs.declared.Iter.{Iter}
use Rattle.card.specs.declared.Iters.{Iters}
use Rattle.rules.specs.RowMajor.{row_major}

-- how far one step of an iter moves an axis up, or down
abbrev pub ahead : Bool → ℕ → Iter → ℕ
ahead upwards axis iter = cond (eqb iter.axis axis) (cond upwards (up iter.stride) (down iter.stride)) 0

-- how far from its far end, up or down, components leave an axis
abbrev pub missing : Bool → ℕ → List Iter → List ℕ → ℕ
missing upwards axis [] cs = 0
missing upwards axis (iter ∷ l) [] = 0
missing upwards axis (iter ∷ l) (c ∷ cs) =
    (iter.extent - 1 - c) * ahead upwards axis iter + c * ahead (not upwards) axis iter + missing upwards axis l cs

-- how many steps back from its last component an iter may stay: all where they move nothing
abbrev pub steps_back : ℕ → ℕ → ℕ → ℕ
steps_back extent weight spare = cond (eqb weight 0) (extent - 1) (min (extent - 1) (spare / weight))

-- from the slowest iter on, the smallest component that what is spare allows
abbrev pub first_within : Bool → ℕ → ℕ → List Iter → List ℕ
first_within upwards axis spare [] = []
first_within upwards axis spare (iter ∷ l) =
    (iter.extent - 1 - steps_back iter.extent (ahead upwards axis iter) spare)
    ∷ first_within upwards axis (spare - steps_back iter.extent (ahead upwards axis iter) spare * ahead upwards axis iter) l

-- the index with these components
abbrev pub first_index : Bool → ℕ → ℕ → Iters → ℕ
first_index upwards axis spare iters = row_major (map extent_of (listed iters)) (first_within upwards axis spare (listed iters))
