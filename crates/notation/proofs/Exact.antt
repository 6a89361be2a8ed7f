-- Any machine that is stuck exactly off the beginnings of the correct texts finds the longest beginning.
use Prim.Native.Nat.{ℕ, zero, suc, ◌+◌, ◌≤◌, ◌<◌}
use mathlib.Core.Path.{◌≡◌, refl, sym, ap, ◌∙◌}
use mathlib.Core.Bool.{Bool, true, false}
use mathlib.Core.List.{List, [], ◌∷◌, ◌++◌, append-nil, append_assoc}
use native.Mathlib.Omega.{arith}
use lib.ListN.{length, take, drop, take-append-drop}
use lib.Seq.{take-take, take-length}
use Rattle.notation.specs.Beginning.{Begins, Refused}
use Rattle.notation.specs.Machine.{runs}

pub runs_append : {S : Type 0} (step : S → ℕ → S) (s : S) (t u : List ℕ) → runs step s (t ++ u) ≡ runs step (runs step s t) u
runs_append step s [] u = refl
runs_append step s (b ∷ t) u = runs_append step (step s b) t u

module _ {S : Type 0} (step : S → ℕ → S) (start : S) (stuck : S → Bool) (Correct : List ℕ → Type 0)
    (stays : (s : S) (b : ℕ) → stuck s ≡ true → stuck (step s b) ≡ true)
    (free : (t : List ℕ) → Correct t → stuck (runs step start t) ≡ false) where
  still : (s : S) (t : List ℕ) → stuck s ≡ true → stuck (runs step s t) ≡ true
  still s [] h = h
  still s (b ∷ t) h = still (step s b) t (stays s b h)

  -- no correct text begins with a text that is stuck
  no_rest : (t u : List ℕ) → stuck (runs step start t) ≡ true → Correct (t ++ u) → ⊥
  no_rest t u h c =
      let p : stuck (runs step start (t ++ u)) ≡ true = rw (runs_append step start t u) (still (runs step start t) u h) in
      let e : ◌≡◌ {A = Bool} true false = sym p ∙ free (t ++ u) c in
      let z : ◌≡◌ {A = ℕ} 0 1 = cc in omega arith

  pub refused_at_lem : (t : List ℕ) (a : ℕ) → a < length t → Begins Correct (take a t) → stuck (runs step start (take (a + 1) t)) ≡ true → Refused Correct t a
  refused_at_lem t a h b s =
      record {
        within = omega arith;
        begins = b;
        longest = λ k less in-text w.
            let cut : take (a + 1) t ++ drop (a + 1) (take k t) ≡ take k t
            = ap (λ (l : List ℕ). l ++ drop (a + 1) (take k t)) (sym (take-take (a + 1) k t (omega arith))) ∙ take-append-drop (a + 1) (take k t) in
            no_rest (take (a + 1) t) (drop (a + 1) (take k t) ++ w.rest) s (rw (← append_assoc, cut) w.correct);
        incorrect = λ c. no_rest (take (a + 1) t) (drop (a + 1) t) s (rw (take-append-drop (a + 1) t) c);
      }

  pub refused_whole : (t : List ℕ) → Begins Correct t → (Correct t → ⊥) → Refused Correct t (length t)
  refused_whole t b no-c =
      record { within = omega arith; begins = rw (take-length t) b; longest = λ k less in-text w. absurd (omega arith); incorrect = no-c }
