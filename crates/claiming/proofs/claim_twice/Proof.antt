-- `claiming::claim_twice` approves what was claimed copy by copy, and else judges anew: either way the table was cleared before.
use mathlib.Core.Path.{◌≡◌, ◌∙◌, subst}
use mathlib.Core.List.{List}
use Prim.Native.Nat.{ℕ}
use native.Mathlib.Omega.{arith}
use borrow.Author.Rules.{rules}
use lib.ListN.{length}
use Rattle.card.specs.Card.{cells}
use Rattle.card.specs.Packed.{card_of}
use Rattle.card.specs.declared.Card.{Card}
use Rattle.claims.specs.Claims.{OwnedTable}
use Rattle.judgement.specs.Judgement.{placed}
use Rattle.claiming_runs.proofs.Laws.{cleared_size}
use Rattle.claiming_in_order.proofs.Laws.{admits}
use Rattle.claiming_in_order.proofs.Promises.{approved_promise, cells_anew}
use Rattle.claiming.proofs.claim_twice.Statement.{statement}
use Rattle.claiming.proofs.claim_twice.Tie as tie

abbrev card : tie.Start → Card
card s = card_of s.args.numbers.now s.args.strides.now

exact : (s : tie.Start) → length s.args.table.now ≡ cells (card s)
exact s = cleared_size (card s) s.requires.1.1

-- after the quick pass
module _ (q : tie.After-claim_quickly-occupied) where
  abbrev start : tie.Start
  start = q.before.before.before.before

  abbrev after : List ℕ
  after = q.claim_quickly-occupied.new.table

  kept : length after ≡ cells (card start)
  kept = q.claim_quickly-occupied.auto.table ∙ exact start

pub claim_twice_spec : {M : Type 1} → statement M
claim_twice_spec =
    tie.close
    (tie.spec (λ c κs.
    let s = c in
    (record { admits = admits s.requires.0.0; all_elements = s.requires.0.0.all_elements; inside = s.requires.1.0; cleared = s.requires.1.1 }, s.requires.0.1.adds)) (λ c. search rules) (λ c.
    let q = c in
    let s = start q.before.before.before in
    approved_promise (card s) s.args.table.now s.requires.0.0.admitted (exact s) s.requires.1.0
    (subst (λ (n : ℕ). OwnedTable (placed (card s)) n (cells (card s)) (after q.before.before.before) q.claim_quickly-occupied.result) s.requires.0.0.all_elements
    (q.claim_quickly-occupied.ensures.0 (omega arith))) s.requires.0.0.all_elements (kept q.before.before.before)) (λ c κs.
    let q = c in
    let s = start q.before.before.before.before.before in
    (s.requires.0, (s.requires.1.0, q.claim_quickly-occupied.ensures.1 (omega arith)))) (λ c. search rules) (λ c. search rules) (λ c.
    let r = c in
    let q = r in
    let s = start q.before.before.before.before.before.before.before.before.before.before in
    cells_anew (card s) s.args.table.now (after q.before.before.before.before.before.before.before.before.before.before) s.requires.0.0.admitted (exact s) (kept q.before.before.before.before.before.before.before.before.before.before) r.claim_runs.ensures))
