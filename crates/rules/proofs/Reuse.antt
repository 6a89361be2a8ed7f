-- Elements that are one lie in the same cells, and one of them leads: the stride of a marked iter is 0, so its component moves nothing, and with the
-- marked components at 0 the row-major number is the smallest.
use Rattle.std.specs.Prelude.{Ok}
use mathlib.Core.Path.{◌≡◌, refl, sym, ap, ap₂, ◌∙◌, fun_ext}
use mathlib.Core.Bool.{Bool, true, false, cond, not, ◌&&◌, ◌||◌, and-eq-true_iff, true≢false}
use mathlib.Core.List.{List, [], ◌∷◌, map}
use Prim.Native.Nat.{ℕ, zero, suc, ◌*◌, ◌/◌, ◌%◌, ◌≤◌, ◌<◌, suc-le-suc}
use native.Mathlib.Nat.{le_refl, le_of_suc-le-suc, not-suc-le-zero}
use native.Mathlib.Omega.{arith}
use borrow.Author.Tests.{lt-ltb, leb-true}
use lib.Dec.{eqb, leb, ltb}
use lib.IntN.{ℤ, pos, negsuc, ◌+ℤ◌, ◌*ℤ◌}
use lib.ListN.{length, get_or, drop}
use Rattle.answers.specs.Refusals.{no_refusal}
use Rattle.card.specs.Lists.{within_z, product}
use Rattle.card.specs.Card.{listed, marks_of, extent_of, stride_of, elements}
use Rattle.card.specs.Admission.{marks_fit, admission}
use Rattle.card.specs.declared.Iter.{Iter}
use Rattle.card.specs.declared.Card.{Card}
use Rattle.card.proofs.Admitted.{checked, numbered}
use Rattle.rules.specs.RowMajor.{row_major, components, inside, position}
use Rattle.rules.specs.Rules.{axes, added, part, swizzled_m, on_axis, coordinates, spot_at, spot}
use Rattle.rules.specs.Reuse.{unmarked, extents, own_components, AreOne, leader, classes, Unmarked}
use Rattle.rules.proofs.RowMajor.{inside_parts, row_major_below, row_major_one_to_one, components_inside, components_give_back}

-- a marked stride is 0
only_zero : (z : ℤ) → within_z (pos 0) (pos 0) z ≡ true → z ≡ pos 0
only_zero (pos zero) e = refl
only_zero (pos (suc n)) e =
    let both = (and-eq-true_iff (leb 0 (suc n)) (leb (suc n) 0)).0 e in absurd (omega (arith, leb-true (suc n) 0 both.1))
only_zero (negsuc n) e = absurd (true≢false (sym e))

times_zero : (a b : ℕ) (z : ℤ) → z ≡ pos 0 → pos a *ℤ z ≡ pos b *ℤ z
times_zero a b z e = ap (λ (z : ℤ). pos a *ℤ z) e ∙ nothing a b ∙ sym (ap (λ (z : ℤ). pos b *ℤ z) e)
  where
    nothing : (a b : ℕ) → pos a *ℤ pos 0 ≡ pos b *ℤ pos 0
    nothing a b = ap pos (omega arith)

-- so a marked component moves nothing
added_unmarked : (axis : ℕ) (marks : List Bool) (l : List Iter) (cs : List ℕ) → marks_fit marks (map stride_of l) ≡ true
    → added axis l (unmarked 0 marks cs) ≡ added axis l cs
added_unmarked axis [] l cs e = refl
added_unmarked axis (mark ∷ marks) [] cs e = refl
added_unmarked axis (mark ∷ marks) (iter ∷ l) [] e = refl
added_unmarked axis (mark ∷ marks) (iter ∷ l) (c ∷ cs) e =
    let both = (and-eq-true_iff (not mark || within_z (pos 0) (pos 0) iter.stride) (marks_fit marks (map stride_of l))).0 e in
    ap₂ (λ (a b : ℤ). cond (eqb iter.axis axis) a (pos 0) +ℤ b) (one mark both.0) (added_unmarked axis marks l cs both.1)
  where
    one : (mark : Bool) → (not mark || within_z (pos 0) (pos 0) iter.stride) ≡ true → pos (cond mark 0 c) *ℤ iter.stride ≡ pos c *ℤ iter.stride
    one true h = times_zero 0 c iter.stride (only_zero iter.stride h)
    one false h = refl

-- elements that are one have their copies in the same places
pub one_spot : (card : Card) (x y combination : ℕ) → admission card ≡ no_refusal → AreOne card x y → spot card x combination ≡ spot card y combination
unfolding spot coordinates
one_spot card x y combination admitted one =
    ap (λ (p : ℕ → ℤ). spot_at (position card.lengths (map on_axis (swizzled_m card.swizzle
    (map (λ axis. p axis +ℤ get_or card.offset axis (pos 0) +ℤ part card.replica combination axis) axes)))))
    (fun_ext same)
  where
    fit : marks_fit (marks_of card) (map stride_of (listed card.shard)) ≡ true
    fit = (numbered card (checked card admitted).numbers).marks

    same : (axis : ℕ) → part card.shard x axis ≡ part card.shard y axis
    same axis =
        sym (added_unmarked axis (marks_of card) (listed card.shard) (components (extents card) x) fit)
        ∙ ap (added axis (listed card.shard)) one
        ∙ added_unmarked axis (marks_of card) (listed card.shard) (components (extents card) y) fit

-- marked components put to 0, twice is once
unmarked_twice : (other : ℕ) (marks : List Bool) (ns : List ℕ) → unmarked other marks (unmarked other marks ns) ≡ unmarked other marks ns
unmarked_twice other [] ns = refl
unmarked_twice other (mark ∷ marks) [] = refl
unmarked_twice other (true ∷ marks) (n ∷ ns) = ap (λ (l : List ℕ). other ∷ l) (unmarked_twice other marks ns)
unmarked_twice other (false ∷ marks) (n ∷ ns) = ap (λ (l : List ℕ). n ∷ l) (unmarked_twice other marks ns)

-- they stay inside
unmarked_inside : (marks : List Bool) (ns xs : List ℕ) → inside ns xs ≡ true → inside ns (unmarked 0 marks xs) ≡ true
unmarked_inside [] ns xs e = e
unmarked_inside (mark ∷ marks) ns [] e = e
unmarked_inside (mark ∷ marks) [] (x ∷ xs) e = absurd (true≢false (sym e))
unmarked_inside (mark ∷ marks) (n ∷ ns) (x ∷ xs) e =
    let both = inside_parts n ns x xs e in
    rw (one mark both.0, unmarked_inside marks ns xs both.1)
  where
    one : (mark : Bool) → x < n → ltb (cond mark 0 x) n ≡ true
    one true h = lt-ltb 0 n (omega arith)
    one false h = lt-ltb x n h

-- and the number is not larger
unmarked_below : (marks : List Bool) (ns xs : List ℕ) → row_major ns (unmarked 0 marks xs) ≤ row_major ns xs
unmarked_below [] ns xs = le_refl (row_major ns xs)
unmarked_below (mark ∷ marks) ns [] = le_refl (row_major ns [])
unmarked_below (mark ∷ marks) [] (x ∷ xs) = le_refl 0
unmarked_below (true ∷ marks) (n ∷ ns) (x ∷ xs) = let rest = unmarked_below marks ns xs in omega arith
unmarked_below (false ∷ marks) (n ∷ ns) (x ∷ xs) = let rest = unmarked_below marks ns xs in omega arith

-- the components of a row-major number are its coordinates
pub components_back : (ns xs : List ℕ) → inside ns xs ≡ true → components ns (row_major ns xs) ≡ xs
components_back ns xs e =
    let below = row_major_below ns xs e in
    row_major_one_to_one ns (components ns (row_major ns xs)) xs (components_inside ns (row_major ns xs) (omega arith)) e
    (components_give_back ns (row_major ns xs) below)

module _ (card : Card) where
  own_inside : (flat : ℕ) → flat < elements card → inside (extents card) (own_components card flat) ≡ true
  own_inside flat h =
      unmarked_inside (marks_of card) (extents card) (components (extents card) flat) (components_inside (extents card) flat (omega arith))

  leader_components : (flat : ℕ) → flat < elements card → components (extents card) (leader card flat) ≡ own_components card flat
  unfolding leader
  leader_components flat h = components_back (extents card) (own_components card flat) (own_inside flat h)

  -- the leader is an element, one with those that it leads, and the smallest of them
  pub leader_element : (flat : ℕ) → flat < elements card → leader card flat < elements card
  unfolding leader
  leader_element flat h = row_major_below (extents card) (own_components card flat) (own_inside flat h)

  pub leader_one : (flat : ℕ) → flat < elements card → AreOne card (leader card flat) flat
  leader_one flat h =
      ap (unmarked 0 (marks_of card)) (leader_components flat h) ∙ unmarked_twice 0 (marks_of card) (components (extents card) flat)

  pub leader_least : (flat : ℕ) → flat < elements card → leader card flat ≤ flat
  unfolding leader
  leader_least flat h =
      let back = components_give_back (extents card) flat h in
      omega (arith, unmarked_below (marks_of card) (extents card) (components (extents card) flat))

  pub same_leader : (x y : ℕ) → AreOne card x y → leader card x ≡ leader card y
  unfolding leader
  same_leader x y one = ap (row_major (extents card)) one

  pub leader_smallest : (x y : ℕ) → y < elements card → AreOne card x y → leader card x ≤ y
  leader_smallest x y h one = omega (arith, same_leader x y one, leader_least y h)

  pub led_one : (x y : ℕ) → x < elements card → y < elements card → leader card x ≡ leader card y → AreOne card x y
  led_one x y hx hy e = sym (leader_one x hx) ∙ ap (own_components card) e ∙ leader_one y hy

  pub leader_leads : (flat : ℕ) → flat < elements card → leader card (leader card flat) ≡ leader card flat
  leader_leads flat h = same_leader (leader card flat) flat (leader_one flat h)

nothing_marked_lem : (other : ℕ) (marks : List Bool) (ns : List ℕ) → ((k : ℕ) → k < length marks → get_or marks k false ≡ false) → unmarked other marks ns ≡ ns
nothing_marked_lem other [] ns none = refl
nothing_marked_lem other (mark ∷ marks) [] none = refl
nothing_marked_lem other (mark ∷ marks) (n ∷ ns) none =
    let first : mark ≡ false = none 0 (omega arith) in
    ap₂ (λ (b : Bool) (l : List ℕ). cond b other n ∷ l) first (nothing_marked_lem other marks ns (λ k h. none (suc k) (suc-le-suc h)))

module _ (card : Card) (none : Unmarked card) where
  -- no two different elements are one, each leads itself, and there are as many classes as elements
  pub leads_itself : (flat : ℕ) → flat < elements card → leader card flat ≡ flat
  unfolding leader
  leads_itself flat h =
      ap (row_major (extents card)) (nothing_marked_lem 0 (marks_of card) (components (extents card) flat) none) ∙ components_give_back (extents card) flat h

  pub one_is_same : (x y : ℕ) → x < elements card → y < elements card → AreOne card x y → x ≡ y
  one_is_same x y hx hy one = sym (leads_itself x hx) ∙ same_leader card x y one ∙ leads_itself y hy

  pub all_classes : classes card ≡ elements card
  unfolding classes
  all_classes = ap product (nothing_marked_lem 1 (marks_of card) (extents card) none)

-- the leaders, counted by the components that are not marked
-- in the extents with 1 for each that is marked, a number's components have 0 there
within_class : (marks : List Bool) (ns xs : List ℕ) → inside (unmarked 1 marks ns) xs ≡ true → inside ns xs ≡ true → unmarked 0 marks xs ≡ xs
within_class [] ns xs e i = refl
within_class (mark ∷ marks) ns [] e i = refl
within_class (mark ∷ marks) [] (x ∷ xs) e i = absurd (true≢false (sym e))
within_class (true ∷ marks) (n ∷ ns) (x ∷ xs) e i =
    let a = inside_parts 1 (unmarked 1 marks ns) x xs e in
    let b = inside_parts n ns x xs i in
    ap₂ (λ (x : ℕ) (l : List ℕ). x ∷ l) (omega arith) (within_class marks ns xs a.1 b.1)
within_class (false ∷ marks) (n ∷ ns) (x ∷ xs) e i =
    let a = inside_parts n (unmarked 1 marks ns) x xs e in
    let b = inside_parts n ns x xs i in
    ap (λ (l : List ℕ). x ∷ l) (within_class marks ns xs a.1 b.1)

-- and they lie inside the extents, where none is 0
class_inside : (marks : List Bool) (ns xs : List ℕ) → 0 < product ns → inside (unmarked 1 marks ns) xs ≡ true → inside ns xs ≡ true
class_inside [] ns xs some e = e
class_inside (mark ∷ marks) [] xs some e = e
class_inside (mark ∷ marks) (n ∷ ns) [] some e = absurd (true≢false (sym e))
class_inside (mark ∷ marks) (n ∷ ns) (x ∷ xs) some e =
    let both = inside_parts (cond mark 1 n) (unmarked 1 marks ns) x xs e in
    let parts = positive n (product ns) some in
    rw (lt-ltb x n (one mark parts.0 both.0), class_inside marks ns xs parts.1 both.1)
  where
    positive : (a b : ℕ) → 0 < a * b → (0 < a) × (0 < b)
    positive zero b h = absurd (omega arith)
    positive (suc a) zero h = absurd (omega arith)
    positive (suc a) (suc b) h = (omega arith, omega arith)

    one : (mark : Bool) → 0 < n → x < cond mark 1 n → x < n
    one true some h = omega arith
    one false some h = h

-- what has 0 where it is marked lies in them
in_class : (marks : List Bool) (ns xs : List ℕ) → inside ns xs ≡ true → inside (unmarked 1 marks ns) (unmarked 0 marks xs) ≡ true
in_class [] ns xs e = e
in_class (mark ∷ marks) [] [] e = refl
in_class (mark ∷ marks) [] (x ∷ xs) e = absurd (true≢false (sym e))
in_class (mark ∷ marks) (n ∷ ns) [] e = absurd (true≢false (sym e))
in_class (mark ∷ marks) (n ∷ ns) (x ∷ xs) e =
    let both = inside_parts n ns x xs e in
    rw (one mark both.0, in_class marks ns xs both.1)
  where
    one : (mark : Bool) → x < n → ltb (cond mark 0 x) (cond mark 1 n) ≡ true
    one true h = lt-ltb 0 1 (omega arith)
    one false h = lt-ltb x n h

module _ (card : Card) (some : 0 < elements card) where
  abbrev class_extents : List ℕ
  class_extents = unmarked 1 (marks_of card) (extents card)

  -- leader k
  pub leader_at : ℕ → ℕ
  leader_at k = row_major (extents card) (components class_extents k)

  module _ (k : ℕ) (h : k < classes card) where
    class_components : inside class_extents (components class_extents k) ≡ true
    unfolding classes
    class_components = components_inside class_extents k (omega arith)

    all_inside : inside (extents card) (components class_extents k) ≡ true
    all_inside = class_inside (marks_of card) (extents card) (components class_extents k) some class_components

    pub leader_at_element : leader_at k < elements card
    unfolding leader_at
    leader_at_element = row_major_below (extents card) (components class_extents k) all_inside

    pub leader_at_leads : leader card (leader_at k) ≡ leader_at k
    unfolding leader leader_at
    leader_at_leads =
        ap (λ (l : List ℕ). row_major (extents card) (unmarked 0 (marks_of card) l)) (components_back (extents card) (components class_extents k) all_inside)
        ∙ ap (row_major (extents card)) (within_class (marks_of card) (extents card) (components class_extents k) class_components all_inside)

  pub leader_at_once : (j k : ℕ) → j < classes card → k < classes card → leader_at j ≡ leader_at k → j ≡ k
  unfolding classes leader_at
  leader_at_once j k hj hk e =
      let same = row_major_one_to_one (extents card) (components class_extents j) (components class_extents k) (all_inside j hj) (all_inside k hk) e in
      sym (components_give_back class_extents j hj) ∙ ap (row_major class_extents) same ∙ components_give_back class_extents k hk

  pub leader_at_found : (flat : ℕ) → flat < elements card → leader card flat ≡ flat → (k : ℕ) × (k < classes card) × (leader_at k ≡ flat)
  unfolding classes leader leader_at
  leader_at_found flat h leads =
      let own = own_components card flat in
      let within = in_class (marks_of card) (extents card) (components (extents card) flat) (components_inside (extents card) flat some) in (
        row_major class_extents own,
        row_major_below class_extents own within,
        ap (row_major (extents card)) (components_back class_extents own within) ∙ leads,
      )

-- an element leads exactly when its marked components are 0
component_at : (ns : List ℕ) (flat j : ℕ) → j < length ns → get_or (components ns flat) j 0 ≡ flat / product (drop (suc j) ns) % get_or ns j 0
component_at [] flat j h = absurd (not-suc-le-zero h)
component_at (n ∷ ns) flat zero h = refl
component_at (n ∷ ns) flat (suc j) h = component_at ns flat j (le_of_suc-le-suc h)

still : (marks : List Bool) (cs : List ℕ) → ((j : ℕ) → j < length cs → get_or marks j false ≡ true → get_or cs j 0 ≡ 0) → unmarked 0 marks cs ≡ cs
still [] cs zero-there = refl
still (mark ∷ marks) [] zero-there = refl
still (mark ∷ marks) (c ∷ cs) zero-there =
    ap₂ (λ (c : ℕ) (l : List ℕ). c ∷ l) (one mark (zero-there 0 (omega arith))) (still marks cs (λ j h. zero-there (suc j) (suc-le-suc h)))
  where
    one : (mark : Bool) → (mark ≡ true → c ≡ 0) → cond mark 0 c ≡ c
    one true h = sym (h refl)
    one false h = refl

zero_at : (marks : List Bool) (cs : List ℕ) (j : ℕ) → get_or marks j false ≡ true → get_or (unmarked 0 marks cs) j 0 ≡ 0
zero_at [] cs j e = absurd (true≢false (sym e))
zero_at (mark ∷ marks) [] j e = refl
zero_at (mark ∷ marks) (c ∷ cs) zero e = ap (λ (b : Bool). cond b 0 c) e
zero_at (mark ∷ marks) (c ∷ cs) (suc j) e = zero_at marks cs j e

module _ (card : Card) (flat : ℕ) (element : flat < elements card) where
  -- component j, by division
  abbrev pub component_of : ℕ → ℕ
  component_of j = flat / product (drop (suc j) (extents card)) % get_or (extents card) j 0

  as_many : length (components (extents card) flat) ≡ length (extents card)
  as_many = count (extents card)
    where
      count : (ns : List ℕ) → length (components ns flat) ≡ length ns
      count [] = refl
      count (n ∷ ns) = ap suc (count ns)

  pub still_leads : ((j : ℕ) → j < length (extents card) → get_or (marks_of card) j false ≡ true → component_of j ≡ 0) → leader card flat ≡ flat
  unfolding leader
  still_leads zero-there =
      ap (row_major (extents card))
      (still (marks_of card) (components (extents card) flat)
      (λ j h e. let k : j < length (extents card) = omega (arith, as_many) in component_at (extents card) flat j k ∙ zero-there j k e))
      ∙ components_give_back (extents card) flat element

  pub leads_still : leader card flat ≡ flat → (j : ℕ) → j < length (extents card) → get_or (marks_of card) j false ≡ true → component_of j ≡ 0
  unfolding leader
  leads_still leads j h e =
      let cs = components (extents card) flat in
      let same : own_components card flat ≡ cs =
      row_major_one_to_one (extents card) (own_components card flat) cs (own_inside card flat element)
      (components_inside (extents card) flat (omega arith)) (leads ∙ sym (components_give_back (extents card) flat element)) in
      sym (component_at (extents card) flat j h) ∙ ap (λ (l : List ℕ). get_or l j 0) (sym same) ∙ zero_at (marks_of card) cs j e
