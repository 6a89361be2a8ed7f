-- The search for the pair as it is run: seconds rising, and for each second the firsts below it rising. Nothing here has to be believed:
-- proofs/Run.antt shows that the run finds what Idle.antt says, and that nothing else does.
use Rattle.std.specs.Prelude.{Bool, true, false, cond, ◌&&◌, List, [], ◌∷◌, ℕ, zero, suc, ◌+◌, eqb, ltb, ℤ, pos, negsuc, Option, None, Some}
use Rattle.card.specs.Card.{size}
use Rattle.card.specs.declared.Iters.{Iters}
use Rattle.rules.specs.Rules.{axes, part}

abbrev pub equal : ℤ → ℤ → Bool
equal (pos a) (pos b) = eqb a b
equal (pos a) (negsuc b) = false
equal (negsuc a) (pos b) = false
equal (negsuc a) (negsuc b) = eqb a b

abbrev pub same_on : (ℕ → ℤ) → (ℕ → ℤ) → List ℕ → Bool
same_on f g [] = true
same_on f g (axis ∷ after) = equal (f axis) (g axis) && same_on f g after

-- the first of n combinations from a on with the sums of b, else the one after them
abbrev pub twin_from : Iters → ℕ → ℕ → ℕ → ℕ
twin_from replica b a zero = a
twin_from replica b a (suc n) = cond (same_on (part replica a) (part replica b) axes) a (twin_from replica b (a + 1) n)

-- the pair with the smallest second of n combinations from b on
abbrev pub pair_from : Iters → ℕ → ℕ → Option (ℕ × ℕ)
pair_from replica b zero = None
pair_from replica b (suc n) = cond (ltb (twin_from replica b 0 b) b) (Some ((twin_from replica b 0 b), b)) (pair_from replica (b + 1) n)

unfoldable pub pair_of : Iters → Option (ℕ × ℕ)
pair_of replica = pair_from replica 0 (size replica)
