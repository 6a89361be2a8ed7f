-- One walk over the shard's iters, from the last: what is left of the flat index is the quotient by the extents passed, and no marked component passed is more
-- than 0.
use mathlib.Core.Path.{◌≡◌, sym, ap, ◌∙◌, subst}
use mathlib.Core.Bool.{true, false}
use mathlib.Core.List.{List}
use Prim.Native.Nat.{ℕ, suc, ◌*◌, ◌/◌, ◌%◌, ◌≤◌, ◌<◌}
use native.Mathlib.Nat.{div-div-eq-div-mul, mul_comm, zero-add, eq-or-lt_of_le}
use native.Mathlib.Omega.{arith}
use mathlib.Core.Logic.{⊎_elim}
use lib.IntN.{ℤ}
use lib.ListN.{length, get_or, drop, length-take}
use lib.Seq.{slice, drop-cons, get_or-take}
use Rattle.card.specs.Lists.{all, within, product}
use Rattle.card.specs.Limits.{most_extent}
use Rattle.card.specs.Card.{elements}
use Rattle.card.specs.Packed.{mark_at, card_of, ListOf}
use Rattle.card.proofs.Lists.{all_at, within_numbers}
use Rattle.card.proofs.ReadBack.{extents_part}
use Rattle.card.proofs.Marks.{as_many_marks, mark_there}
use Rattle.rules.specs.Reuse.{extents, leader, Unmarked}
use Rattle.rules.proofs.Reuse.{leads_itself, component_of, still_leads, leads_still}
use Rattle.reuse.specs.Clauses.{extents_there, Element}

-- the extents of a packed card's listed shard iters
pub extents_there_lem : (numbers : List ℕ) (strides : List ℤ) → length numbers ≡ 56 → ListOf numbers 0 → extents (card_of numbers strides) ≡ extents_there numbers
extents_there_lem numbers strides all of = extents_part numbers strides 0 of all ∙ ap (λ (end : ℕ). slice 0 end numbers) (zero-add (get_or numbers 40 0))

module _ (numbers : List ℕ) (flat : ℕ) (e : Element numbers flat) where
  abbrev pub count : ℕ
  count = get_or numbers 40 0

  -- component j
  abbrev pub component : ℕ → ℕ
  component j = flat / product (drop (suc j) (extents_there numbers)) % get_or numbers j 0

  pub as_many : length (extents_there numbers) ≡ count
  as_many = length-take count numbers ∙ omega (arith, e.all_numbers, e.of.few)

  pub extent_there : (k : ℕ) → k < count → get_or (extents_there numbers) k 0 ≡ get_or numbers k 0
  extent_there k h = get_or-take count numbers k 0 h

  pub some_extent : (k : ℕ) → k < count → 1 ≤ get_or numbers k 0
  some_extent k h =
      let fits = all_at (within 1 most_extent) (extents_there numbers) k 0 e.some_extents (omega (arith, as_many)) in
      omega (arith, (within_numbers 1 most_extent (get_or (extents_there numbers) k 0) fits).0, extent_there k h)

  -- a walk that has passed all iters from k on
  pub record Walked (k rest : ℕ) : Type 0 where
    pub left : rest ≡ flat / product (drop k (extents_there numbers))
    pub still : (j : ℕ) → k ≤ j → j < count → mark_at numbers j ≡ true → component j ≡ 0

  -- the component that comes next
  pub next_is : (k rest : ℕ) → Walked (suc k) rest → rest % get_or numbers k 0 ≡ component k
  next_is k rest w = ap (λ (n : ℕ). n % get_or numbers k 0) w.left

  pub walked_more : (k rest : ℕ) → k < count → Walked (suc k) rest → (mark_at numbers k ≡ true → component k ≡ 0) → Walked k (rest / get_or numbers k 0)
  walked_more k rest h w zero-here = record {
    left =
        ap (λ (n : ℕ). n / get_or numbers k 0) w.left
        ∙ div-div-eq-div-mul flat (product (drop (suc k) (extents_there numbers))) (get_or numbers k 0)
        ∙ ap (λ (n : ℕ). flat / n) (mul_comm (product (drop (suc k) (extents_there numbers))) (get_or numbers k 0)
        ∙ ap (λ (n : ℕ). n * product (drop (suc k) (extents_there numbers))) (sym (extent_there k h)))
        ∙ sym (ap (λ (l : List ℕ). flat / product l) (drop-cons (extents_there numbers) k 0 (omega (arith, as_many))));
    still = λ j from below m.
        ⊎_elim (λ (same : k ≡ j). subst (λ (i : ℕ). component i ≡ 0) same (zero-here (subst (λ (i : ℕ). mark_at numbers i ≡ true) (sym same) m)))
        (λ (later : k < j). w.still j later below m) (eq-or-lt_of_le from);
  }

  module _ (strides : List ℤ) where
    same_extents : extents (card_of numbers strides) ≡ extents_there numbers
    same_extents = extents_there_lem numbers strides e.all_numbers e.of

    an_element : flat < elements (card_of numbers strides)
    an_element = rw (ap product same_extents) e.element

    same_component : (j : ℕ) → j < count → component_of (card_of numbers strides) flat an_element j ≡ component j
    same_component j h =
        ap (λ (l : List ℕ). flat / product (drop (suc j) l) % get_or l j 0) same_extents
        ∙ ap (λ (n : ℕ). flat / product (drop (suc j) (extents_there numbers)) % n) (extent_there j h)

    counted : length (extents (card_of numbers strides)) ≡ count
    counted = ap length same_extents ∙ as_many

    -- all passed, the element leads
    pub walked_leads : (rest : ℕ) → Walked 0 rest → leader (card_of numbers strides) flat ≡ flat
    walked_leads rest w =
        still_leads (card_of numbers strides) flat an_element
        (λ j h m.
        let below : j < count = omega (arith, counted) in
        same_component j below ∙ w.still j (omega arith) below (sym (mark_there numbers strides e.of j below) ∙ m))

    -- where nothing is marked it does too
    pub unmarked_leads : Unmarked (card_of numbers strides) → leader (card_of numbers strides) flat ≡ flat
    unmarked_leads none = leads_itself (card_of numbers strides) none flat an_element

    -- and a marked component that is not 0 shows that it does not
    pub moved_follows : (k : ℕ) → k < count → mark_at numbers k ≡ true → (component k ≡ 0 → ⊥) → leader (card_of numbers strides) flat ≡ flat → ⊥
    moved_follows k h m moved leads =
        moved (sym (same_component k h)
        ∙ leads_still (card_of numbers strides) flat an_element leads k (omega (arith, counted)) (mark_there numbers strides e.of k h ∙ m))

-- no mark among the listed
pub none_marked : (numbers : List ℕ) (strides : List ℤ) → ListOf numbers 0 → ((j : ℕ) → j < get_or numbers 40 0 → mark_at numbers j ≡ false)
    → Unmarked (card_of numbers strides)
none_marked numbers strides of none k h =
    let below : k < get_or numbers 40 0 = omega (arith, as_many_marks numbers strides of) in mark_there numbers strides of k below ∙ none k below
