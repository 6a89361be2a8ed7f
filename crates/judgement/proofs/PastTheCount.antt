-- Iters past a count play no part in the verdict and in the owner: two cards that differ there alone have the same numbers and the same spots.
use Rattle.std.specs.Prelude.{Result}
use mathlib.Core.Path.{◌≡◌, refl, sym, ap, ◌∙◌, subst}
use mathlib.Core.List.{List, map}
use Prim.Native.Nat.{ℕ}
use lib.ListN.{length}
use Rattle.answers.specs.declared.Refusal.{Refusal}
use Rattle.judgement.specs.declared.Approved.{Approved}
use Rattle.card.specs.Lists.{product}
use Rattle.card.specs.Card.{extent_of, elements, copies, cells}
use Rattle.card.specs.declared.Card.{Card}
use Rattle.card.proofs.Theorems.{AlikeCards}
use Rattle.rules.specs.RowMajor.{position}
use Rattle.rules.specs.Rules.{spot_at}
use Rattle.rules.proofs.Theorems.{same_spot, same_led}
use Rattle.idle.proofs.Theorems.{past_the_count_idle}
use Rattle.judgement.specs.Judgement.{placed, LiesInside, AllInside, FirstOutside, Judgement, NotAdmitted, NoRoom, OutsideAt, Clashing, Passed, Judged, ComesTo}
use Rattle.judgement.specs.Verdict.{verdict_of, table_after, VerdictPromise, asked_spot, OwnerJudgement, NoCell, ByVerdict, OwnerComesTo, owner_table_after, owner_of, OwnerPromise}

module _ (a b : Card) (alike : AlikeCards a b) where
  same_elements : elements a ≡ elements b
  same_elements = ap (λ l. product (map extent_of l)) alike.shard.iters

  same_copies : copies a ≡ copies b
  same_copies = ap (λ l. product (map extent_of l)) alike.replica.iters

  same_cells : cells a ≡ cells b
  same_cells = ap product alike.lengths

  same_layout_lem : placed a ≡ placed b
  same_layout_lem = rw (same_copies, same_led a b alike, same_spot a b alike)

  judged : {room : ℕ} → Judged a room → Judged b room
  judged h = record { admitted = sym (past_the_count_idle a b alike) ∙ h.admitted; enough = rw same_cells at h.enough }

  all_inside : AllInside a → AllInside b
  all_inside h = rw (same_elements, same_copies, same_spot a b alike) at h

  first_outside_lem : {flat axis : ℕ} → FirstOutside a flat axis → FirstOutside b flat axis
  first_outside_lem h = record {
    element = rw same_elements at h.element;
    combination = h.combination;
    copy = rw same_copies at h.copy;
    outside = rw (same_spot a b alike) at h.outside;
    smallest_axis = rw (same_copies, same_spot a b alike) at h.smallest_axis;
    smallest_flat = rw (same_elements, same_copies, same_spot a b alike) at h.smallest_flat;
  }

  comes_alike : (room : ℕ) (j : Judgement) → ComesTo a room j → ComesTo b room j
  comes_alike room (NotAdmitted r) h = sym (past_the_count_idle a b alike) ∙ h
  comes_alike room NoRoom h = (sym (past_the_count_idle a b alike) ∙ h.0, rw same_cells at h.1)
  comes_alike room (OutsideAt flat axis) h = (judged h.0, first_outside_lem h.1)
  comes_alike room (Clashing x y cell) h = (judged h.0, all_inside h.1, rw (same_layout_lem, same_elements) at h.2)
  comes_alike room (Passed owners n) h = (judged h.0, all_inside h.1, rw (same_layout_lem, same_elements, same_cells) at h.2)

  same_verdict : (j : Judgement) → verdict_of a j ≡ verdict_of b j
  same_verdict (NotAdmitted r) = refl
  same_verdict NoRoom = rw same_cells
  same_verdict (OutsideAt flat axis) = refl
  same_verdict (Clashing x y cell) = refl
  same_verdict (Passed owners n) = rw (same_elements, same_cells)

  same_table : (j : Judgement) (table : List ℕ) → table_after a j table ≡ table_after b j table
  same_table (NotAdmitted r) table = refl
  same_table NoRoom table = refl
  same_table (OutsideAt flat axis) table = rw same_cells
  same_table (Clashing x y cell) table = rw same_cells
  same_table (Passed owners n) table = rw same_cells

  -- what the verdict on the one may answer and leave, the verdict on the other may
  pub past_the_count_verdict : (before after : List ℕ) (v : Result Approved Refusal) → VerdictPromise a before after v → VerdictPromise b before after v
  past_the_count_verdict before after v p = record {
    judgement = p.judgement;
    comes = comes_alike (length before) p.judgement p.comes;
    answers = p.answers ∙ same_verdict p.judgement;
    leaves = p.leaves ∙ same_table p.judgement before;
  }

  same_asked : (xs : List ℕ) → asked_spot a xs ≡ asked_spot b xs
  same_asked xs = ap (λ (lengths : List ℕ). spot_at (position lengths xs)) alike.lengths

  owner_comes_alike : (xs : List ℕ) (room : ℕ) (j : OwnerJudgement) → OwnerComesTo a xs room j → OwnerComesTo b xs room j
  owner_comes_alike xs room (NoCell axis) h = (sym (past_the_count_idle a b alike) ∙ h.0, sym (same_asked xs) ∙ h.1)
  owner_comes_alike xs room (ByVerdict j) h =
      (λ admitted. subst LiesInside (same_asked xs) (h.0 (past_the_count_idle a b alike ∙ admitted)), comes_alike room j h.1)

  same_owner : (xs : List ℕ) (j : OwnerJudgement) (table : List ℕ) → owner_of a xs j table ≡ owner_of b xs j table
  same_owner xs (NoCell axis) table = refl
  same_owner xs (ByVerdict j) table = rw (same_verdict j, same_table j table, same_asked xs)

  same_owner_table : (j : OwnerJudgement) (table : List ℕ) → owner_table_after a j table ≡ owner_table_after b j table
  same_owner_table (NoCell axis) table = refl
  same_owner_table (ByVerdict j) table = same_table j table

  -- and so with the owner of a cell
  pub past_the_count_owner : (xs before after : List ℕ) (owner : Result ℕ Refusal) → OwnerPromise a xs before after owner → OwnerPromise b xs before after owner
  past_the_count_owner xs before after owner p = record {
    judgement = p.judgement;
    comes = owner_comes_alike xs (length before) p.judgement p.comes;
    answers = p.answers ∙ same_owner xs p.judgement before;
    leaves = p.leaves ∙ same_owner_table p.judgement before;
  }
