-- The run finds what the record says, by the laws of twins, and the record allows one finding.
use Rattle.std.specs.Prelude.{Some, Option, None}
use mathlib.Core.Path.{◌≡◌, refl, sym, ap, ap₂, ◌∙◌, subst}
use mathlib.Core.Bool.{Bool, true, false, cond, and-eq-true_iff, false≢true}
use mathlib.Core.List.{List, [], ◌∷◌}
use Prim.Native.Nat.{ℕ, zero, suc, ◌+◌, ◌<◌}
use native.Mathlib.Nat.{le_antisymm, not-suc-le-zero, le_of_suc-le-suc}
use native.Mathlib.Omega.{arith}
use borrow.Author.Tests.{eqb-true, eq-eqb, ltb-true, ltb-false}
use lib.Dec.{ltb}
use lib.IntN.{ℤ, pos, negsuc}
use lib.ListN.{length, get_or}
use Rattle.card.specs.Card.{size}
use Rattle.card.specs.declared.Iters.{Iters}
use Rattle.rules.specs.Rules.{axes, part}
use Rattle.card.proofs.ReadBack.{eight_at}
use Rattle.idle.specs.Idle.{SameSums, IdlePair, NoIdlePair, Finds}
use Rattle.idle.specs.Run.{equal, same_on, twin_from, pair_from, pair_of}
use Rattle.idle.specs.Clauses.{NoneBelow, Twin, NoneBefore}
use Rattle.idle.proofs.Twins.{none_below_zero, none_below_more, twin_found, twin_none, none_before_zero, none_before_more, pair_found}

equal_true : (x y : ℤ) → equal x y ≡ true → x ≡ y
equal_true (pos a) (pos b) t = ap pos (eqb-true a b t)
equal_true (pos a) (negsuc b) t = absurd (false≢true t)
equal_true (negsuc a) (pos b) t = absurd (false≢true t)
equal_true (negsuc a) (negsuc b) t = ap negsuc (eqb-true a b t)

equal_self : (x : ℤ) → equal x x ≡ true
equal_self (pos a) = eq-eqb a a refl
equal_self (negsuc a) = eq-eqb a a refl

-- the test of a list of axes
module _ (f g : ℕ → ℤ) where
  same_on_true : (l : List ℕ) → same_on f g l ≡ true → (k : ℕ) → k < length l → f (get_or l k 0) ≡ g (get_or l k 0)
  same_on_true [] t k h = absurd (not-suc-le-zero h)
  same_on_true (axis ∷ l) t zero h = equal_true (f axis) (g axis) ((and-eq-true_iff (equal (f axis) (g axis)) (same_on f g l)).0 t).0
  same_on_true (axis ∷ l) t (suc k) h = same_on_true l ((and-eq-true_iff (equal (f axis) (g axis)) (same_on f g l)).0 t).1 k (le_of_suc-le-suc h)

  same_on_lem : (l : List ℕ) → ((k : ℕ) → k < length l → f (get_or l k 0) ≡ g (get_or l k 0)) → same_on f g l ≡ true
  same_on_lem [] all = refl
  same_on_lem (axis ∷ l) all =
      (and-eq-true_iff (equal (f axis) (g axis)) (same_on f g l)).1
      (ap (equal (f axis)) (sym (all 0 (omega arith))) ∙ equal_self (f axis), same_on_lem l (λ k h. all (suc k) (omega arith)))

-- a pair found
abbrev some_pair : ℕ → ℕ → Option (ℕ × ℕ)
some_pair x y = Some (x, y)

module _ (replica : Iters) where
  axis_there : (axis : ℕ) → axis < length axes → get_or axes axis 0 ≡ axis
  axis_there axis h = eight_at (λ (i : ℕ). i) 0 axis h

  tested_same : (a b : ℕ) → same_on (part replica a) (part replica b) axes ≡ true → SameSums replica a b
  tested_same a b t axis h = rw (axis_there axis h) at (same_on_true (part replica a) (part replica b) axes t axis h)

  tested_different : (a b : ℕ) → same_on (part replica a) (part replica b) axes ≡ false → SameSums replica a b → ⊥
  tested_different a b t same =
      false≢true (sym t ∙ same_on_lem (part replica a) (part replica b) axes (λ k h. rw (axis_there k h) (same k h)))

  twin_from_lem : (b a n : ℕ) → a + n ≡ b → NoneBelow replica b a → Twin replica b (twin_from replica b a n)
  twin_from_lem b a zero e so_far =
      let end : a ≡ b = omega arith in subst (Twin replica b) (sym end) (twin_none replica b a end so_far)
  twin_from_lem b a (suc n) e so_far = split (same_on (part replica a) (part replica b) axes) refl (λ more. twin_from_lem b (a + 1) n (omega arith) more)
    where
      split : (t : Bool) → same_on (part replica a) (part replica b) axes ≡ t → (NoneBelow replica b (a + 1) → Twin replica b (twin_from replica b (a + 1) n))
          → Twin replica b (cond t a (twin_from replica b (a + 1) n))
      split true t rest = twin_found replica b a (omega arith) (tested_same a b t) so_far
      split false t rest = rest (none_below_more replica b a (tested_different a b t) so_far)

  pair_from_lem : (b n : ℕ) → b + n ≡ size replica → NoneBefore replica b → Finds replica (pair_from replica b n)
  pair_from_lem b zero e so_far = let end : b ≡ size replica = omega arith in subst (NoneBefore replica) end so_far
  pair_from_lem b (suc n) e so_far = split (ltb (twin_from replica b 0 b) b) refl (λ more. pair_from_lem (b + 1) n (omega arith) more)
    where
      twin : Twin replica b (twin_from replica b 0 b)
      twin = twin_from_lem b 0 b (omega arith) (none_below_zero replica b)

      split : (t : Bool) → ltb (twin_from replica b 0 b) b ≡ t → (NoneBefore replica (b + 1) → Finds replica (pair_from replica (b + 1) n))
          → Finds replica (cond t (Some ((twin_from replica b 0 b), b)) (pair_from replica (b + 1) n))
      split true t rest =
          pair_found replica b (twin_from replica b 0 b) (omega arith) (ltb-true (twin_from replica b 0 b) b t) twin so_far
      split false t rest = rest (none_before_more replica b (twin_from replica b 0 b) (ltb-false (twin_from replica b 0 b) b t) twin so_far)

  -- where there is a pair, there is not none
  pair_is_some : {a b : ℕ} → IdlePair replica a b → NoIdlePair replica → ⊥
  pair_is_some {a} {b} p none = none a b p.different p.combination p.same

  -- and there is one
  module _ {a b a' b' : ℕ} (p : IdlePair replica a b) (q : IdlePair replica a' b') where
    same_b : b ≡ b'
    same_b =
        le_antisymm (p.smallest_b a' b' q.different q.combination q.same)
        (q.smallest_b a b p.different p.combination p.same)

    same_a : a ≡ a'
    same_a =
        le_antisymm
        (p.smallest_a a' (rw same_b q.different) (subst (SameSums replica a') (sym same_b) q.same))
        (q.smallest_a a (rw (sym same_b) p.different) (subst (SameSums replica a) same_b p.same))

    pair_unique : some_pair a b ≡ some_pair a' b'
    pair_unique = ap₂ some_pair same_a same_b

  -- two findings that the definition allows are equal
  pub idle_settled : (i j : Option (ℕ × ℕ)) → Finds replica i → Finds replica j → i ≡ j
  idle_settled (Some (a, b)) (Some (a', b')) p q = pair_unique p q
  idle_settled (Some (a, b)) None p q = absurd (pair_is_some p q)
  idle_settled None (Some (a, b)) p q = absurd (pair_is_some q p)
  idle_settled None None p q = refl

  -- the run finds what the definition says
  pub run_finds : Finds replica (pair_of replica)
  unfolding pair_of
  run_finds = pair_from_lem 0 (size replica) (omega arith) (none_before_zero replica)

  -- and nothing else does, so what the run computes is what the definition says
  pub found_is_run : (i : Option (ℕ × ℕ)) → Finds replica i → i ≡ pair_of replica
  found_is_run i f = idle_settled i (pair_of replica) f run_finds
