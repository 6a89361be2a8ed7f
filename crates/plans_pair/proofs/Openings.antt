-- What two judgements come to, case by case, and what is left in the two tables.
use Rattle.std.specs.Prelude.{Result, Err, Ok}
use mathlib.Core.Path.{◌≡◌, refl, sym, ap, ap₂, ◌∙◌, subst}
use mathlib.Core.Bool.{Bool, true, false, cond, not, ◌||◌, and-eq-true_iff}
use mathlib.Core.List.{List, ◌++◌}
use Prim.Native.Nat.{ℕ, ◌≤◌, min}
use native.Mathlib.Omega.{arith}
use lib.Dec.{eqb, ltb, leb}
use lib.ListN.{length, take, drop, replicate, length-replicate}
use lib.Seq.{drop_at}
use borrow.Author.Tests.{leb-true, le-ltb}
use Rattle.plans_second.specs.declared.Matching.{Matching}
use Rattle.judgement.specs.declared.Approved.{Approved}
use Rattle.laws.proofs.Rungs.{apart}
use Rattle.laws.proofs.Lists.{take_whole}
use Rattle.answers.specs.declared.Refusal.{Refusal}
use Rattle.answers.specs.declared.Refusal.TheVariants.{Limits, Space, Shape, TooShort}
use Rattle.card.specs.Lists.{all, within, product, same}
use Rattle.card.proofs.Lists.{same_true}
use Rattle.card.specs.Limits.{most_length, most_cells}
use Rattle.card.specs.Packed.{beyond}
use Rattle.card.specs.Card.{elements, cells}
use Rattle.card.specs.Admission.{space_fits}
use Rattle.card.specs.declared.Card.{Card}
use Rattle.claims.specs.Claims.{occupied}
use Rattle.judgement.specs.Judgement.{Judgement, NotAdmitted, NoRoom, OutsideAt, Clashing, Passed, ComesTo}
use Rattle.judgement.specs.Plain.{VerdictSays}
use Rattle.judgement.specs.Verdict.{verdict_of, table_after, VerdictPromise, approved_with}
use Rattle.judgement.proofs.Plain.{verdict_exactly}
use Rattle.judgement.specs.Run.{judge}
use Rattle.judgement.proofs.Run.{judge_comes}
use Rattle.plans_judged.specs.Pair.{one_space, marked, owners_of, Emptied, Ready, after_both, opening}
use Rattle.plans_judged.specs.Endings.{emptying, Kept, Left, ending_of}
use Rattle.plans_second.specs.Clauses.{OtherPromise, matching_with}
use Rattle.plans_pair.specs.Clauses.{pairing, if_approved, BothPromise, both_ready, OpenPromise}

-- the product of eight lengths that fit is not capped
pub cells_whole : (lengths : List ℕ) (n : ℕ) → length lengths ≡ 8 → space_fits lengths ≡ true → n ≡ min (product (take 8 lengths)) beyond → n ≡ product lengths
cells_whole lengths n eight fits e =
    let few = leb-true (product lengths) most_cells ((and-eq-true_iff (all (within 1 most_length) lengths) (leb (product lengths) most_cells)).0 fits).1 in
    let whole : n ≡ min (product lengths) beyond = e ∙ ap (λ (l : List ℕ). min (product l) beyond) (take_whole 8 lengths eight) in
    omega arith

module _ {one : Card} (two : Card) {first : List ℕ} (second : List ℕ) {after : List ℕ} {v : Result Approved Refusal} (says : VerdictSays one first after v) where
  w : VerdictPromise one first after v
  w = (verdict_exactly one first after v).0 says

  -- both verdicts, where the first approves
  pub both_judged : {after-other : List ℕ} {p : Result Matching Refusal} {n o c : ℕ} → v ≡ approved_with n o c → OtherPromise one two n second after-other p
      → BothPromise one two first second after after-other p
  both_judged {after-other} {p} {n} {o} {c} e q =
      let is : verdict_of one w.judgement ≡ approved_with n o c = sym w.answers ∙ e in
      record {
        judgement = w.judgement;
        other = q.other;
        comes = w.comes;
        comes_other = q.comes_other;
        answers = rw is q.answers;
        leaves = w.leaves;
        leaves_other = rw is q.leaves_other;
      }

  -- and where it does not
  pub first_refused : {r : Refusal} → v ≡ Err r → BothPromise one two first second after second (Err r)
  first_refused {r} e =
      let is : verdict_of one w.judgement ≡ Err r = sym w.answers ∙ e in
      record {
        judgement = w.judgement;
        other = judge two (length second);
        comes = w.comes;
        comes_other = judge_comes two (length second);
        answers = rw is refl;
        leaves = w.leaves;
        leaves_other = rw is refl;
      }

-- entries past the cells stay
pub past_stays : (card : Card) (room : ℕ) (j : Judgement) (table : List ℕ) → ComesTo card room j → drop (cells card) (table_after card j table) ≡ drop (cells card) table
past_stays card room (NotAdmitted refusal) table h = refl
past_stays card room NoRoom table h = refl
past_stays card room (OutsideAt flat axis) table h = drop_at (replicate (cells card) 0) (drop (cells card) table) (cells card) (length-replicate (cells card) 0)
past_stays card room (Clashing x y cell) table h = drop_at (replicate (cells card) 0) (drop (cells card) table) (cells card) (length-replicate (cells card) 0)
past_stays card room (Passed owners count) table h = drop_at owners (drop (cells card) table) (cells card) h.2.size

-- the counts of two layouts that match
abbrev pub cells_told : Result Matching Refusal → ℕ
cells_told (Ok pair) = pair.cells
cells_told (Err refusal) = 0

abbrev pub occupied_told : Result Matching Refusal → ℕ
occupied_told (Ok pair) = pair.occupied
occupied_told (Err refusal) = 0

module _ (one two : Card) (room other : ℕ) where
  -- the ladder after both verdicts, where it refuses
  ladder_refused : (a b : Bool) (r : Refusal) (n m : ℕ) (f s : List ℕ) → Err r ≡ cond a (Err Limits) (cond (not b) (Err Shape) (matching_with n m))
      → cond a (Emptied Limits) (cond (not b) (Emptied Shape) (Ready f s)) ≡ Emptied r
  ladder_refused true b r n m f s e = let same-refusal : r ≡ Limits = cc in ap Emptied (sym same-refusal)
  ladder_refused false true r n m f s e = absurd (apart cc)
  ladder_refused false false r n m f s e = let same-refusal : r ≡ Shape = cc in ap Emptied (sym same-refusal)

  -- and where it does not
  ladder_matching : (a b : Bool) (c o n m : ℕ) (f s : List ℕ) → matching_with c o ≡ cond a (Err Limits) (cond (not b) (Err Shape) (matching_with n m))
      → (c ≡ n) × (o ≡ m) × (cond a (Emptied Limits) (cond (not b) (Emptied Shape) (Ready f s)) ≡ Ready f s)
  ladder_matching true b c o n m f s e = absurd (apart cc)
  ladder_matching false true c o n m f s e = (ap cells_told e, ap occupied_told e, refl)
  ladder_matching false false c o n m f s e = absurd (apart cc)

  abbrev marks : Bool
  marks = marked one || marked two

  pub pair_refused : (j k : Judgement) (r : Refusal) → Err r ≡ pairing (verdict_of one j) (verdict_of two k) marks → after_both one two j k ≡ Emptied r
  pair_refused (NotAdmitted refusal) k r e = let q : r ≡ refusal = cc in ap Emptied (sym q)
  pair_refused NoRoom k r e = cc
  pair_refused (OutsideAt flat axis) k r e = cc
  pair_refused (Clashing x y cell) k r e = cc
  pair_refused (Passed f n) (NotAdmitted refusal) r e = let q : r ≡ refusal = cc in ap Emptied (sym q)
  pair_refused (Passed f n) NoRoom r e = cc
  pair_refused (Passed f n) (OutsideAt flat axis) r e = cc
  pair_refused (Passed f n) (Clashing x y cell) r e = cc
  pair_refused (Passed f n) (Passed s m) r e = ladder_refused marks (eqb (elements one) (elements two)) r (cells two) m f s e

  -- both approved, with the owners in both tables
  pub record Paired (j k : Judgement) (c o : ℕ) (first second : List ℕ) : Type 0 where
    pub ready : after_both one two j k ≡ Ready (owners_of j) (owners_of k)
    pub whole : c ≡ cells two
    pub counted : o ≡ occupied (owners_of k)
    pub holds : table_after one j first ≡ owners_of j ++ drop (cells one) first
    pub holds_other : if_approved (verdict_of one j) (table_after two k second) second ≡ owners_of k ++ drop (cells two) second

  pub pair_matching : (j k : Judgement) (c o : ℕ) (first second : List ℕ) → ComesTo two other k
      → matching_with c o ≡ pairing (verdict_of one j) (verdict_of two k) marks → Paired j k c o first second
  pair_matching (NotAdmitted refusal) k c o first second g e = absurd (apart cc)
  pair_matching NoRoom k c o first second g e = absurd (apart cc)
  pair_matching (OutsideAt flat axis) k c o first second g e = absurd (apart cc)
  pair_matching (Clashing x y cell) k c o first second g e = absurd (apart cc)
  pair_matching (Passed f n) (NotAdmitted refusal) c o first second g e = absurd (apart cc)
  pair_matching (Passed f n) NoRoom c o first second g e = absurd (apart cc)
  pair_matching (Passed f n) (OutsideAt flat axis) c o first second g e = absurd (apart cc)
  pair_matching (Passed f n) (Clashing x y cell) c o first second g e = absurd (apart cc)
  pair_matching (Passed f n) (Passed s m) c o first second g e =
      let l = ladder_matching marks (eqb (elements one) (elements two)) c o (cells two) m f s e in
      record { ready = l.2; whole = l.0; counted = l.1 ∙ g.2.counted; holds = refl; holds_other = refl }

-- two cards of one space, with room in both tables
module _ (one two : Card) (first second : List ℕ) (space : one_space one.lengths two.lengths ≡ true) (long : cells one ≤ length first)
    (long_other : cells one ≤ length second) where
  one_count : cells one ≡ cells two
  one_count =
      ap product
      (same_true one.lengths two.lengths
      ((and-eq-true_iff (same one.lengths two.lengths) (space_fits one.lengths)).0 space).0)

  into : (j k : Judgement) → opening one two (length first) (length second) j k ≡ after_both one two j k
  into j k = rw (space, le-ltb (length first) (cells one) long, le-ltb (length second) (cells one) long_other) refl

  pub opens_matching : {f s : List ℕ} {p : Result Matching Refusal} {c o : ℕ} → BothPromise one two first second f s p → p ≡ matching_with c o
      → OpenPromise one two first second f s (matching_with c o)
  opens_matching {f} {s} {p} {c} {o} b e =
      let m = pair_matching one two (length first) (length second) b.judgement b.other c o first second b.comes_other (sym e ∙ b.answers) in
      let is = into b.judgement b.other ∙ m.ready in
      record {
        judgement = b.judgement;
        other = b.other;
        comes = b.comes;
        comes_other = b.comes_other;
        ending = Left (both_ready (cells one) (owners_of b.judgement) (owners_of b.other));
        follows = ap (ending_of (cells one) Err (both_ready (cells one))) (sym is);
        answers = ap₂ matching_with (m.whole ∙ sym one_count) m.counted;
        leaves = b.leaves ∙ m.holds;
        leaves_other = b.leaves_other ∙ m.holds_other ∙ ap (λ (n : ℕ). owners_of b.other ++ drop n second) (sym one_count);
      }

  past_other : (v : Result Approved Refusal) (k : Judgement) → ComesTo two (length second) k
      → drop (cells one) (if_approved v (table_after two k second) second) ≡ drop (cells one) second
  past_other (Ok approval) k g = rw one_count (past_stays two (length second) k second g)
  past_other (Err r) k g = refl

  pub opens_refused : {f s f' s' : List ℕ} {p : Result Matching Refusal} {r : Refusal} {n : ℕ} → BothPromise one two first second f s p → p ≡ Err r
      → n ≡ cells one → f' ≡ replicate n 0 ++ drop n f → s' ≡ replicate n 0 ++ drop n s → OpenPromise one two first second f' s' (Err r)
  opens_refused {f} {s} {f'} {s'} {p} {r} {n} b e count ef es =
      let is = into b.judgement b.other ∙ pair_refused one two (length first) (length second) b.judgement b.other r (sym e ∙ b.answers) in
      record {
        judgement = b.judgement;
        other = b.other;
        comes = b.comes;
        comes_other = b.comes_other;
        ending = Left (emptying (cells one) (Err r));
        follows = ap (ending_of (cells one) Err (both_ready (cells one))) (sym is);
        answers = refl;
        leaves =
            ef
            ∙ ap (λ (m : ℕ). replicate m 0 ++ drop m f) count
            ∙ ap (λ (l : List ℕ). replicate (cells one) 0 ++ l)
            (ap (drop (cells one)) b.leaves ∙ past_stays one (length first) b.judgement first b.comes);
        leaves_other =
            es
            ∙ ap (λ (m : ℕ). replicate m 0 ++ drop m s) count
            ∙ ap (λ (l : List ℕ). replicate (cells one) 0 ++ l)
            (ap (drop (cells one)) b.leaves_other ∙ past_other (verdict_of one b.judgement) b.other b.comes_other);
      }

-- not one space, and no room: nothing is touched
module _ (one two : Card) (first second : List ℕ) where
  pub no_space : one_space one.lengths two.lengths ≡ false → OpenPromise one two first second first second (Err Space)
  no_space e =
      record {
        judgement = judge one (length first);
        other = judge two (length second);
        comes = judge_comes one (length first);
        comes_other = judge_comes two (length second);
        ending = Kept (Err Space);
        follows = rw e refl;
        answers = refl;
        leaves = refl;
        leaves_other = refl;
      }

  pub no_room : {n : ℕ} → one_space one.lengths two.lengths ≡ true → n ≡ cells one → (ltb (length first) n || ltb (length second) n) ≡ true
      → OpenPromise one two first second first second (Err (TooShort n))
  no_room {n} e count short =
      let tests : (ltb (length first) (cells one) || ltb (length second) (cells one)) ≡ true = subst (λ (m : ℕ). (ltb (length first) m || ltb (length second) m) ≡ true) count short in
      record {
        judgement = judge one (length first);
        other = judge two (length second);
        comes = judge_comes one (length first);
        comes_other = judge_comes two (length second);
        ending = Kept (Err (TooShort (cells one)));
        follows = rw (e, tests) refl;
        answers = ap (λ (m : ℕ). Err (TooShort m)) count;
        leaves = refl;
        leaves_other = refl;
      }
