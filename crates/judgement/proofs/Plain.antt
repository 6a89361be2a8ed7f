-- The promises in the documents' words allow what those between the crates allow: the run comes to one judgement, and each case of the one is a case of the
-- other.
use Rattle.std.specs.Prelude.{Result, Ok, ⊤, Err}
use mathlib.Core.Path.{◌≡◌, refl, sym, ap, ap₂, ◌∙◌, subst}
use mathlib.Core.Logic.{◌↔◌}
use mathlib.Core.List.{List, ◌++◌}
use Prim.Native.Nat.{ℕ, ◌+◌, ◌≤◌, ◌<◌, min}
use native.Mathlib.Omega.{arith}
use lib.ListN.{length, get_or, take, drop, length-append, length-drop, length-take, take-append-drop}
use lib.Seq.{ext_get_or, get_or-take, drop_at}
use Rattle.answers.specs.Refusals.{no_refusal}
use Rattle.judgement.specs.declared.Approved.{Approved}
use Rattle.answers.specs.declared.Cell.{Cell}
use Rattle.answers.specs.declared.Refusal.{Refusal}
use Rattle.card.specs.Card.{elements, cells}
use Rattle.card.specs.declared.Card.{Card}
use Rattle.rules.specs.Copies.{cell_of}
use Rattle.rules.specs.declared.Spot.{Spot}
use Rattle.rules.specs.declared.Spot.TheVariants.{Inside, Outside}
use Rattle.idle.specs.Admission.{full_admission}
use Rattle.idle.proofs.Theorems.{checks_passed, admitted_exactly, checks_from_run, run_from_checks}
use Rattle.claims.specs.Claims.{occupied}
use Rattle.claims.proofs.Theorems.{same_entry, owners_none_share}
use Rattle.judgement.specs.Judgement.{placed, LiesInside, AllInside, Judgement, NotAdmitted, NoRoom, OutsideAt, Clashing, Passed, ComesTo}
use Rattle.judgement.specs.Verdict.{verdict_of, table_after, VerdictPromise, asked_spot, OwnerJudgement, NoCell, ByVerdict, OwnerComesTo, read_entry, owner_table_after, owner_of, OwnerPromise, approved_with}
use Rattle.judgement.specs.Plain.{OneClassACell, Approval, VerdictInTable, VerdictSays, OwnerAt, OwnerSays}
use Rattle.judgement.specs.Run.{judge}
use Rattle.judgement.proofs.Unique.{not_both, judgement_unique, owner_judgement_unique}
use Rattle.judgement.proofs.Run.{judge_comes}
use Rattle.judgement.proofs.Theorems.{one_class_exactly, first_shared_lem, clash_exactly, demand_3, approved_passed, verdict_settled, owner_settled, owner_by_verdict}

-- two approvals are equal, and so are the tables that they leave
approval_settled : (card : Card) (before a b : List ℕ) (v w : Result Approved Refusal) → Approval card before a v → Approval card before b w → (a ≡ b) × (v ≡ w)
approval_settled card before a b v w p q =
    let n : ℕ = cells card in
    let same_cells : take n a ≡ take n b =
    ext_get_or 0 (take n a) (take n b)
    (length-take n a ∙ ap (min n) (p.as_long ∙ sym q.as_long) ∙ sym (length-take n b))
    (λ c h.
    let below : c < n = omega (arith, length-take n a) in
    get_or-take n a c 0 below
    ∙ same_entry (get_or a c 0) (get_or b c 0) (λ f e. (q.owners c f below).1 ((p.owners c f below).0 e)) (λ f e. (p.owners c f below).1 ((q.owners c f below).0 e))
    ∙ sym (get_or-take n b c 0 below)) in (
      sym (take-append-drop n a) ∙ rw (same_cells, p.past, sym q.past) (take-append-drop n b),
      p.answers ∙ ap (λ (t : List ℕ). approved_with (elements card) (occupied t) n) same_cells ∙ sym q.answers,
    )

module _ (card : Card) (before after : List ℕ) (verdict : Result Approved Refusal) (p : VerdictPromise card before after verdict) where
  -- the answer and the table of a judgement that the card comes to
  by_judgement : (j : Judgement) → ComesTo card (length before) j → (verdict ≡ verdict_of card j) × (after ≡ table_after card j before)
  by_judgement j h =
      let same = judgement_unique card (length before) p.judgement j p.comes h in
      (p.answers ∙ ap (verdict_of card) same, p.leaves ∙ ap (λ (k : Judgement). table_after card k before) same)

  module _ (admitted : full_admission card ≡ no_refusal) where
    approved : cells card ≤ length before → AllInside card → OneClassACell card → Approval card before after verdict
    approved long inside one =
        let six = (admitted_exactly card).0 admitted in
        let d = demand_3 card before after verdict six.0 six.1 long p in
        let yes = d.approved.1 (inside, one) in
        let so = approved_passed card before after verdict p yes in
        let left = (by_judgement (Passed so.0 so.1) so.2).1 in
        let size = so.2.2.size in
        record {
          answers = d.counts yes;
          owners = d.owner yes;
          past = ap (drop (cells card)) left ∙ drop_at so.0 (drop (cells card) before) (cells card) size;
          as_long = ap length left ∙ omega (arith, length-append so.0 (drop (cells card) before), length-drop (cells card) before, size);
        }

    in_table : VerdictInTable card before after verdict
    in_table = record {
      short = λ few. by_judgement NoRoom (admitted, few);
      outside = λ flat axis long first. by_judgement (OutsideAt flat.0 axis) (record { admitted = admitted; enough = long }, first);
      shared = λ x y cell long inside first.
          by_judgement (Clashing x.0 y.0 cell.0)
          (record { admitted = admitted; enough = long }, inside, clash_exactly card (checks_passed card admitted) x.0 y.0 cell.0 inside first);
      passed = approved;
    }

  -- from the words of the run to those of the documents
  verdict_plain : VerdictSays card before after verdict
  verdict_plain = checks_from_run card (λ refusal e. by_judgement (NotAdmitted refusal) e) in_table

-- and back: of a card that passes 1 to 6 and 17 the run names the one case
table_by_run : (card : Card) (before after : List ℕ) (verdict : Result Approved Refusal) → full_admission card ≡ no_refusal → VerdictInTable card before after verdict
    → VerdictPromise card before after verdict
table_by_run card before after verdict admitted k = go (judge card (length before)) (judge_comes card (length before))
  where
    promise : (j : Judgement) → ComesTo card (length before) j → (verdict ≡ verdict_of card j) × (after ≡ table_after card j before)
        → VerdictPromise card before after verdict
    promise j h so = record { judgement = j; comes = h; answers = so.0; leaves = so.1 }

    go : (j : Judgement) → ComesTo card (length before) j → VerdictPromise card before after verdict
    go (NotAdmitted refusal) h = absurd (not_both card h admitted)
    go NoRoom h = promise NoRoom h (k.short h.1)
    go (OutsideAt flat axis) h = promise (OutsideAt flat axis) h (k.outside (record { 0 = flat }) axis h.0.enough h.1)
    go (Clashing x y cell) h =
        promise (Clashing x y cell) h
        (k.shared (record { 0 = x }) (record { 0 = y }) (record { 0 = cell }) h.0.enough h.1
        (first_shared_lem card (checks_passed card admitted) x y cell h.1 h.2))
    go (Passed owners n) h =
        let six = checks_passed card admitted in
        let one = (one_class_exactly card six h.1).1 (owners_none_share (placed card) (elements card) owners h.2.owners) in
        let run : VerdictPromise card before (owners ++ drop (cells card) before) (approved_with (elements card) n (cells card)) =
        record { judgement = Passed owners n; comes = h; answers = refl; leaves = refl } in
        let same =
        approval_settled card before after (owners ++ drop (cells card) before) verdict (approved_with (elements card) n (cells card))
        (k.passed h.0.enough h.1 one)
        (approved card before (owners ++ drop (cells card) before) (approved_with (elements card) n (cells card)) run admitted h.0.enough h.1 one) in
        promise (Passed owners n) h (same.1, same.0)

-- the verdict's two promises are one
pub verdict_exactly : (card : Card) (before after : List ℕ) (verdict : Result Approved Refusal)
    → VerdictSays card before after verdict ↔ VerdictPromise card before after verdict
verdict_exactly card before after verdict = (λ k. split k (full_admission card) refl, verdict_plain card before after verdict)
  where
    split : VerdictSays card before after verdict → (a : Result ⊤ Refusal) → full_admission card ≡ a → VerdictPromise card before after verdict
    split k (Ok _) e = table_by_run card before after verdict e ((run_from_checks card k).1 e)
    split k (Err refusal) e =
        let so = (run_from_checks card k).0 refusal e in
        record { judgement = NotAdmitted refusal; comes = e; answers = so.0; leaves = so.1 }

-- two outcomes that the promise allows are equal
pub verdict_says_settled : (card : Card) (before a b : List ℕ) (v w : Result Approved Refusal) → VerdictSays card before a v → VerdictSays card before b w
    → (a ≡ b) × (v ≡ w)
verdict_says_settled card before a b v w h k =
    verdict_settled card before a b v w ((verdict_exactly card before a v).0 h) ((verdict_exactly card before b w).0 k)

module _ (card : Card) (coordinates before after : List ℕ) (owner : Result ℕ Refusal) where
  owner_plain : OwnerPromise card coordinates before after owner → OwnerSays card coordinates before after owner
  owner_plain p =
      checks_from_run card (λ refusal e. by_owner (ByVerdict (NotAdmitted refusal)) (λ a. absurd (not_both card e a), e))
      (λ admitted. at admitted (asked_spot card coordinates) refl)
    where
      by_owner : (j : OwnerJudgement) → OwnerComesTo card coordinates (length before) j
          → (owner ≡ owner_of card coordinates j before) × (after ≡ owner_table_after card j before)
      by_owner j h =
          let same = owner_judgement_unique card coordinates (length before) p.judgement j p.comes h in (
            p.answers ∙ ap (λ (k : OwnerJudgement). owner_of card coordinates k before) same,
            p.leaves ∙ ap (λ (k : OwnerJudgement). owner_table_after card k before) same,
          )

      at : full_admission card ≡ no_refusal → (s : Spot) → asked_spot card coordinates ≡ s → OwnerAt card before after owner s
      at admitted (Outside axis) q = by_owner (NoCell axis) (admitted, q)
      at admitted (Inside cell) q =
          let v = owner_by_verdict card coordinates before after owner cell q p in
          (v.0, in_table card before after v.0 v.1 admitted, v.2)

  owner_by_run : OwnerSays card coordinates before after owner → OwnerPromise card coordinates before after owner
  owner_by_run k = split (full_admission card) refl
    where
      at : full_admission card ≡ no_refusal → (s : Spot) → asked_spot card coordinates ≡ s → OwnerAt card before after owner s
          → OwnerPromise card coordinates before after owner
      at admitted (Outside axis) q so = record { judgement = NoCell axis; comes = (admitted, q); answers = so.0; leaves = so.1 }
      at admitted (Inside cell) q so =
          let v = table_by_run card before after so.0 admitted so.1 in
          record {
            judgement = ByVerdict v.judgement;
            comes = (λ a. subst LiesInside (sym q) tt, v.comes);
            answers =
                so.2
                ∙ ap₂ (λ (w : Result Approved Refusal) (t : List ℕ). read_entry w (get_or t cell.0 0)) v.answers v.leaves
                ∙ ap (λ (s : Spot). read_entry (verdict_of card v.judgement) (get_or (table_after card v.judgement before) (cell_of s) 0)) (sym q);
            leaves = v.leaves;
          }

      split : (a : Result ⊤ Refusal) → full_admission card ≡ a → OwnerPromise card coordinates before after owner
      split (Ok _) e = at e (asked_spot card coordinates) refl ((run_from_checks card k).1 e)
      split (Err refusal) e =
          let so = (run_from_checks card k).0 refusal e in
          record {
            judgement = ByVerdict (NotAdmitted refusal);
            comes = (λ a. absurd (not_both card e a), e);
            answers = so.0;
            leaves = so.1;
          }

  -- and so are the owner's
  pub owner_exactly : OwnerSays card coordinates before after owner ↔ OwnerPromise card coordinates before after owner
  owner_exactly = (owner_by_run, owner_plain)

pub owner_says_settled : (card : Card) (coordinates before a b : List ℕ) (v w : Result ℕ Refusal) → OwnerSays card coordinates before a v
    → OwnerSays card coordinates before b w → (a ≡ b) × (v ≡ w)
owner_says_settled card coordinates before a b v w h k =
    owner_settled card coordinates before a b v w ((owner_exactly card coordinates before a v).0 h) ((owner_exactly card coordinates before b w).0 k)
