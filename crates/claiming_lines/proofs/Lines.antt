-- A line is written cell by cell, and line by line the copies of a run: where each cell was nobody's when it was written, the table has the owners.
use mathlib.Core.Path.{◌≡◌, refl, sym, ap, ◌∙◌, subst}
use mathlib.Core.Logic.{◌⊎◌, inl, inr, ⊎_elim, ◌↔◌}
use mathlib.Core.List.{List}
use Prim.Native.Nat.{ℕ, ◌+◌, ◌≤◌, ◌<◌}
use native.Mathlib.Nat.{eq-or-lt_of_le}
use native.Mathlib.Decide.{ℕ_discrete}
use native.Mathlib.Omega.{arith}
use borrow.Author.Count.{below_more}
use lib.ListN.{length, get_or, set, length-set}
use lib.Seq.{get_or-set_same, get_or-set_other}
use Rattle.laws.proofs.Order.{le_or_lt}
use Rattle.claims.specs.Claims.{CopiesAt, Claims, Owners, taken}
use Rattle.claims.proofs.Rows.{occupied_set, taken_owned}
use Rattle.claiming_lines.specs.Lines.{CellNumbered, CellKept, Lined, Copied, Partly}

module _ (cell element : ℕ → ℕ) where
  -- of no steps nothing is written
  pub lined_none : (table : List ℕ) → Lined cell element 0 table table
  lined_none table = record { size = refl; each = λ c. inr (record { none = λ j h. absurd (omega arith); same = refl }); counted = omega arith }

  -- one step more, to a cell that is nobody's still
  module _ (n : ℕ) (before after : List ℕ) (l : Lined cell element n before after) (h : cell n < length after) (free : get_or after (cell n) 0 ≡ 0) where
    abbrev next : List ℕ
    next = set after (cell n) (element n + 1)

    at_it : (c : ℕ) → cell n ≡ c → CellNumbered cell element n before after c ⊎ CellKept cell n before after c → CellNumbered cell element (n + 1) before next c
    at_it c e was =
        let mine : get_or next c 0 ≡ element n + 1 = subst (λ (d : ℕ). get_or next d 0 ≡ element n + 1) e (get_or-set_same after (cell n) (element n + 1) 0 h) in
        let none : get_or after c 0 ≡ 0 = subst (λ (d : ℕ). get_or after d 0 ≡ 0) e free in
        ⊎_elim (λ (m : CellNumbered cell element n before after c). absurd (omega (arith, m.owner, none)))
        (λ (k : CellKept cell n before after c). record {
          step = n;
          below = omega arith;
          there = e;
          only = below_more (λ j. cell j ≡ c → j ≡ n) n (λ j less there. absurd (k.none j less there)) (λ there. refl);
          free = sym k.same ∙ none;
          owner = mine;
        })
        was

    elsewhere : (c : ℕ) → (cell n ≡ c → ⊥) → CellNumbered cell element n before after c ⊎ CellKept cell n before after c
        → CellNumbered cell element (n + 1) before next c ⊎ CellKept cell (n + 1) before next c
    elsewhere c ne was =
        let same : get_or next c 0 ≡ get_or after c 0 = get_or-set_other after (cell n) c (element n + 1) 0 (λ e. ne (sym e)) in
        ⊎_elim
        (λ (m : CellNumbered cell element n before after c). inl (record {
          step = m.step;
          below = omega (arith, m.below);
          there = m.there;
          only = below_more (λ j. cell j ≡ c → j ≡ m.step) n m.only (λ there. absurd (ne there));
          free = m.free;
          owner = same ∙ m.owner;
        }))
        (λ (k : CellKept cell n before after c). inr (record {
          none = below_more (λ j. cell j ≡ c → ⊥) n k.none ne;
          same = same ∙ k.same;
        }))
        was

    either : (c : ℕ) → Dec (cell n ≡ c) → CellNumbered cell element (n + 1) before next c ⊎ CellKept cell (n + 1) before next c
    either c (yes e) = inl (at_it c e (l.each c))
    either c (no ne) = elsewhere c ne (l.each c)

    pub lined_more : Lined cell element (n + 1) before next
    lined_more = record {
      size = length-set after (cell n) (element n + 1) ∙ l.size;
      each = λ c. either c (ℕ_discrete (cell n) c);
      counted =
          omega (arith, l.counted, occupied_set after (cell n) (element n + 1) h, ap taken free, taken_owned (element n + 1) (omega arith));
    }

-- only the cells of the steps matter
pub lined_as : (cell other element : ℕ → ℕ) (n : ℕ) {before after : List ℕ} → ((j : ℕ) → j < n → cell j ≡ other j) → Lined cell element n before after
    → Lined other element n before after
lined_as cell other element n {before} {after} e l = record {
  size = l.size;
  each = λ c.
      ⊎_elim
      (λ (m : CellNumbered cell element n before after c). inl (record {
        step = m.step;
        below = m.below;
        there = sym (e m.step m.below) ∙ m.there;
        only = λ j h there. m.only j h (e j h ∙ there);
        free = m.free;
        owner = m.owner;
      }))
      (λ (k : CellKept cell n before after c). inr (record { none = λ j h there. k.none j h (e j h ∙ there); same = k.same }))
      (l.each c);
  counted = l.counted;
}

-- the copies of n elements, copy by copy
module _ (p : CopiesAt) (first : ℕ) (element : ℕ → ℕ) (n : ℕ) (later : (j : ℕ) → j < n → first ≤ element j) where
  pub partly_none : (table : List ℕ) → Owners p first table → Partly p first element n 0 table
  partly_none table owners = record {
    smaller = λ f c h. (λ e. ((owners f c).0 e).1, λ k. (owners f c).1 (h, k));
    these = λ j c h. (λ e. absurd (omega (arith, later j h, ((owners (element j) c).0 e).0)), λ k. absurd (omega (arith, k.below)));
    nobody_else = λ f c h others e. absurd (omega (arith, ((owners f c).0 e).0));
  }

  -- one line more: copy k of each
  module _ (apart : (i j : ℕ) → i < n → j < n → element i ≡ element j → i ≡ j) (k : ℕ) (before after : List ℕ) (was : Partly p first element n k before)
      (l : Lined (λ j. p.at (element j) k) element n before after) where
    abbrev Mine : ℕ → Type 0
    Mine c = CellNumbered (λ j. p.at (element j) k) element n before after c

    abbrev Others : ℕ → Type 0
    Others c = CellKept (λ j. p.at (element j) k) n before after c

    new_smaller : (f c : ℕ) → f < first → (get_or after c 0 ≡ f + 1) ↔ Claims p f c
    new_smaller f c h =
        ⊎_elim
        (λ (m : Mine c). (
          λ e. absurd (omega (arith, m.owner, later m.step m.below)),
          λ claim. absurd (omega (arith, m.free, (was.smaller f c h).1 claim)),
        ))
        (λ (o : Others c). (λ e. (was.smaller f c h).0 (sym o.same ∙ e), λ claim. o.same ∙ (was.smaller f c h).1 claim))
        (l.each c)

    new_these : (j c : ℕ) → j < n → (get_or after c 0 ≡ element j + 1) ↔ Copied p (element j) (k + 1) c
    new_these j c h =
        ⊎_elim
        (λ (m : Mine c). (
          λ e.
              let same : m.step ≡ j = apart m.step j m.below h (omega (arith, m.owner)) in
              record { copy = k; below = omega arith; there = subst (λ (i : ℕ). p.at (element i) k ≡ c) same m.there },
          λ d.
              ⊎_elim (λ (last : d.copy ≡ k).
              let same : j ≡ m.step = m.only j h (subst (λ (r : ℕ). p.at (element j) r ≡ c) last d.there) in
              m.owner ∙ ap (λ (i : ℕ). element i + 1) (sym same))
              (λ (less : d.copy < k). absurd (omega (arith, m.free, (was.these j c h).1 (record { copy = d.copy; below = less; there = d.there }))))
              (eq-or-lt_of_le (omega (arith, d.below))),
        ))
        (λ (o : Others c). (
          λ e. let d = (was.these j c h).0 (sym o.same ∙ e) in record { copy = d.copy; below = omega (arith, d.below); there = d.there },
          λ d.
              ⊎_elim (λ (last : d.copy ≡ k). absurd (o.none j h (subst (λ (r : ℕ). p.at (element j) r ≡ c) last d.there)))
              (λ (less : d.copy < k). o.same ∙ (was.these j c h).1 (record { copy = d.copy; below = less; there = d.there }))
              (eq-or-lt_of_le (omega (arith, d.below))),
        ))
        (l.each c)

    new_else : (f c : ℕ) → first ≤ f → ((j : ℕ) → j < n → element j ≡ f → ⊥) → get_or after c 0 ≡ f + 1 → ⊥
    new_else f c h others e =
        ⊎_elim (λ (m : Mine c). others m.step m.below (omega (arith, m.owner)))
        (λ (o : Others c). was.nobody_else f c h others (sym o.same ∙ e))
        (l.each c)

    pub partly_more : Partly p first element n (k + 1) after
    partly_more = record { smaller = new_smaller; these = new_these; nobody_else = new_else }

  -- all copies of the n elements, and the others up to m have none: these are the owners of m elements
  pub record Filled (k m : ℕ) : Type 0 where
    pub end : first ≤ m
    pub within : (j : ℕ) → j < n → element j < m
    pub whole : (j : ℕ) → j < n → p.copies (element j) ≡ k
    pub which : (f : ℕ) → first ≤ f → f < m → ((j : ℕ) × (j < n) × (element j ≡ f)) ⊎ (((j : ℕ) → j < n → element j ≡ f → ⊥) × (p.copies f ≡ 0))

  module _ (k m : ℕ) (filled : Filled k m) (table : List ℕ) (is : Partly p first element n k table) where
    this : (f c j : ℕ) → j < n → element j ≡ f → (get_or table c 0 ≡ f + 1) ↔ ((f < m) × Claims p f c)
    this f c j h e =
        subst (λ (g : ℕ). (get_or table c 0 ≡ g + 1) ↔ ((g < m) × Claims p g c)) e (
          λ entry.
              let d = (is.these j c h).0 entry in
              (filled.within j h, record { copy = d.copy; below = omega (arith, d.below, filled.whole j h); there = d.there }),
          λ claim. (is.these j c h).1 (record { copy = claim.1.copy; below = omega (arith, claim.1.below, filled.whole j h); there = claim.1.there }),
        )

    pub partly_all : Owners p m table
    partly_all f c = by (le_or_lt first f) (le_or_lt m f)
      where
        by : (first ≤ f) ⊎ (f < first) → (m ≤ f) ⊎ (f < m) → (get_or table c 0 ≡ f + 1) ↔ ((f < m) × Claims p f c)
        by (inr less) past = (λ e. (omega (arith, filled.end), (is.smaller f c less).0 e), λ claim. (is.smaller f c less).1 claim.1)
        by (inl more) (inl past) = (
          λ e. absurd (is.nobody_else f c more (λ j h same. absurd (omega (arith, filled.within j h))) e),
          λ claim. absurd (omega (arith, claim.0)),
        )
        by (inl more) (inr inside) =
            ⊎_elim (λ (it : (j : ℕ) × (j < n) × (element j ≡ f)). this f c it.0 it.1 it.2)
            (λ (none : ((j : ℕ) → j < n → element j ≡ f → ⊥) × (p.copies f ≡ 0)). (
              λ e. absurd (is.nobody_else f c more none.0 e),
              λ claim. absurd (omega (arith, claim.1.below, none.1)),
            ))
            (filled.which f more inside)
