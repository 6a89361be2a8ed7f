-- `claiming::judge_passes` looks for what lies outside, and then makes the pass, in the cleared cells.
use Rattle.std.proofs.Common.{ap, ◌∙◌, ℕ, replicate}
use Rattle.card.specs.Packed.{card_of}
use Rattle.claiming_in_order.proofs.Laws.{admits}
use Rattle.claiming_in_order.proofs.Promises.{outside_promise, cells_anew}
use Rattle.claiming.proofs.judge_passes.Goals as goal

pub find_outside-search-requires : goal.find_outside-search-requires
find_outside-search-requires c = admits c.requires.pass

pub returns-in-Some : goal.returns-in-Some
returns-in-Some c =
    let a = c.args in
    let cleared = c.clear.ensures ∙ ap (λ (n : ℕ). replicate n 0) c.requires.table_len in
    let first = rw c.in-Some.is at c.find_outside-search.ensures in
    outside_promise (card_of a.numbers.now a.strides.now) a.table.now c.requires.pass.admitted c.requires.table_len _ _ first cleared

pub claim_all-requires : goal.claim_all-requires
claim_all-requires c = record {
  pass = c.requires.pass;
  all_inside = (rw c.in_default.is at c.find_outside-search.ensures, c.clear.ensures ∙ ap (λ (n : ℕ). replicate n 0) c.requires.table_len);
}

pub returns : goal.returns
returns c =
    let a = c.args in
    cells_anew (card_of a.numbers.now a.strides.now) a.table.now c.clear.new.table c.requires.pass.admitted c.requires.table_len (c.clear.auto.table ∙ c.requires.table_len) c.claim_all.ensures
