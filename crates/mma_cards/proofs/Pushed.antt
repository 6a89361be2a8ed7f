-- Iters pushed one behind the other are the list without those of extent 1: each push writes the first empty slot.
use mathlib.Core.Path.{◌≡◌, refl, sym, ap, subst, ◌∙◌}
use mathlib.Core.Bool.{Bool, true, false, cond}
use mathlib.Core.List.{List, [], ◌∷◌, ◌++◌, append_assoc, append-nil}
use Prim.Native.Nat.{ℕ, zero, suc, ◌+◌, ◌-◌, ◌*◌, ◌≤◌, ◌<◌}
use native.Mathlib.Omega.{arith}
use borrow.Author.Tests.{eq-eqb, ne_eqb}
use lib.Dec.{eqb}
use lib.ListN.{length, set, replicate, length-append}
use lib.Seq.{set-append_seam, append_snoc}
use Rattle.card.specs.Lists.{padded}
use Rattle.card.specs.Card.{counted, none}
use Rattle.card.specs.declared.Iter.{Iter}
use Rattle.card.specs.declared.Iters.{Iters}
use Rattle.fragment_layouts.specs.Layouts.{register}
use Rattle.mma_kinds.specs.declared.KindForm.{KindForm}
use Rattle.mma_kinds.specs.Layouts.{down, across, form_iters, cut}
use Rattle.mma_cards.specs.Clauses.{Follows}

cut_append : (a b : List Iter) → cut (a ++ b) ≡ cut a ++ cut b
cut_append [] b = refl
cut_append (x ∷ a) b = split (eqb x.extent 1) (cut_append a b)
  where
    split : (e : Bool) → cut (a ++ b) ≡ cut a ++ cut b → cond e (cut (a ++ b)) (x ∷ cut (a ++ b)) ≡ cond e (cut a) (x ∷ cut a) ++ cut b
    split true h = h
    split false h = ap (λ (l : List Iter). x ∷ l) h

cut_short : (a : List Iter) → length (cut a) ≤ length a
cut_short [] = omega arith
cut_short (x ∷ a) = split (eqb x.extent 1) (cut_short a)
  where
    split : (e : Bool) → length (cut a) ≤ length a → length (cond e (cut a) (x ∷ cut a)) ≤ suc (length a)
    split true h = omega (arith, h)
    split false h = omega (arith, h)

-- one list pushed, and then another
pub follows_more : (a b c : Iters) (xs ys : List Iter) → Follows a b xs → Follows b c ys → Follows a c (xs ++ ys)
follows_more a b c xs ys f g l e room =
    let few = length-append xs ys in
    let long = length-append l (cut xs) in
    let first = f l e (omega (arith, room, few)) in
    g (l ++ cut xs) first (omega (arith, room, few, long, cut_short xs))
    ∙ ap counted (append_assoc l (cut xs) (cut ys) ∙ ap (λ (t : List Iter). l ++ t) (sym (cut_append xs ys)))

-- an iter written to the first empty slot
pushed : (l : List Iter) (x : Iter) → length l < 8 → set (padded none l) (length l) x ≡ padded none (l ++ x ∷ [])
pushed l x h =
    let room : 8 - length l ≡ suc (7 - length l) = omega (arith, h) in
    let left : 7 - length l ≡ 8 - length (l ++ x ∷ []) = omega (arith, h, length-append l (x ∷ [])) in
    ap (λ (n : ℕ). set (l ++ replicate n none) (length l) x) room
    ∙ set-append_seam l none (replicate (7 - length l) none) x
    ∙ sym (append_snoc l x (replicate (7 - length l) none))
    ∙ ap (λ (n : ℕ). (l ++ x ∷ []) ++ replicate n none) left

pub follows_one : (a : Iters) (x : Iter) → (x.extent ≡ 1 → ⊥) → Follows a (record { at = set a.at a.count x; count = a.count + 1 }) (x ∷ [])
follows_one a x other l e room =
    let stands : cut (x ∷ []) ≡ x ∷ [] = rw (ne_eqb x.extent 1 other) in
    let long : length l + 1 ≡ length (l ++ x ∷ []) = sym (length-append l (x ∷ [])) in
    let slots = pushed l x (omega (arith, room)) in
    ap (λ (i : Iters). record { at = set i.at i.count x; count = i.count + 1 }) e
    ∙ (λ j. record { at = slots j; count = long j })
    ∙ ap (λ (t : List Iter). counted (l ++ t)) (sym stands)

pub follows_none : (a : Iters) (x : Iter) → x.extent ≡ 1 → Follows a a (x ∷ [])
follows_none a x one l e room =
    let gone : cut (x ∷ []) ≡ [] = rw (eq-eqb x.extent 1 one) in
    e ∙ ap counted (sym (append-nil l) ∙ ap (λ (t : List Iter). l ++ t) (sym gone))

-- the shard, from its three lists
module _ (f : KindForm) (a b c : Iters) (e : Iters) (start : e ≡ counted []) where
  pub shard_turned : f.turned ≡ true → Follows e a (register f.matrices (f.repeats * (f.halves * f.next)) ∷ []) → Follows a b (across f) → Follows b c (down f) → c ≡ counted (cut (form_iters f))
  shard_turned t one two three =
      follows_more e a c (register f.matrices (f.repeats * (f.halves * f.next)) ∷ []) (across f ++ down f) one (follows_more a b c (across f) (down f) two three) [] start (omega arith)
      ∙ rw t refl

  pub shard_straight : f.turned ≡ false → Follows e a (register f.matrices (f.repeats * (f.halves * f.next)) ∷ []) → Follows a b (down f) → Follows b c (across f) → c ≡ counted (cut (form_iters f))
  shard_straight t one two three =
      follows_more e a c (register f.matrices (f.repeats * (f.halves * f.next)) ∷ []) (down f ++ across f) one (follows_more a b c (down f) (across f) two three) [] start (omega arith)
      ∙ rw t refl
