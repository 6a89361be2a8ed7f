-- `claiming_copies::claim_quickly` claims the lines of a card without marks; where a cell had an owner already the table is cleared.
use mathlib.Core.Path.{ap, ◌∙◌}
use Prim.Native.Nat.{ℕ}
use native.Mathlib.Omega.{arith}
use borrow.Author.Rules.{rules}
use lib.ListN.{replicate}
use Rattle.card.specs.Packed.{card_of}
use Rattle.card.specs.declared.Card.{Card}
use Rattle.claiming_runs.proofs.Laws.{readable, cleared_size}
use Rattle.claiming_copies.proofs.claim_quickly.Statement.{statement}
use Rattle.claiming_copies.proofs.claim_quickly.Tie as tie
use Rattle.claiming_copies.proofs.claim_quickly.Lts as lts

abbrev card : tie.Start → Card
card s = card_of s.args.numbers.now s.args.strides.now

-- the answers stand apart from `close`, so that they are read where a callee is not proved
answered : {M : Type 1} → lts.Closed tie.the-claims tie.handed_pre tie.handed_post M
answered =
    tie.spec (λ c. (λ some. absurd (omega arith), λ none. c.requires.0.cleared)) (λ c κs. let s = c in readable s.args.numbers.now s.args.strides.now s.requires.0.admits) (λ c. (λ some. absurd (omega arith), λ none. c.requires.0.cleared)) (λ c κs.
    let h = c in
    let s = h in
    (s.requires.0, s.requires.1, h.has_marks.ensures s.args.strides.now (cc))) (λ c. search rules) (λ c. (c.claim_lines-occupied.ensures, λ none. absurd (omega arith))) (λ c κs. search rules) (λ c. search rules) (λ c.
    let k = c in
    let l = k in
    let s = l in (
      λ some. absurd (omega arith),
      λ none. k.clear.ensures
          ∙ ap (λ (n : ℕ). replicate n 0) (l.claim_lines-occupied.auto.table ∙ cleared_size (card s.before.before.before.before.before.before.before.before.before.before.before.before.before) s.requires.0.cleared),
    ))

pub claim_quickly_spec : {M : Type 1} → statement M
claim_quickly_spec = tie.close answered
