-- One turn makes one entry anew: it moves what its source says, or keeps what is given.
use Rattle.std.proofs.Common.{rules, ℕ, ◌/◌, get_or, sym, ◌∙◌}
use borrow.Author.Tests.{lt-ltb, le-ltb}
use Rattle.values.specs.declared.Register.{Register}
use Rattle.values.specs.declared.Register.TheVariants.{Empty}
use Rattle.values.proofs.Rows.{anew_none, anew_next, anew_all}
use Rattle.dealing_moves.proofs.moved_row.Goals.{then-s, else-s}
use Rattle.dealing_moves.proofs.moved_row.Goals as goal

pub loop-k-init : goal.loop-k-init
loop-k-init g c rule told = anew_none Empty 8 rule c.args.given (search rules)

pub loop-k-preserved : goal.loop-k-preserved
loop-k-preserved g c rule told =
    let l = c.loop-k in
    let a = c.args in
    let s : ℕ = c.source-s.result in
    let before : Register = get_or a.given l.k Empty in
    let ruled = told l.k s before c.loop-k-test.true c.source-s.ensures in
    anew_next Empty 8 rule a.given l.row l.k _ (l.invariant rule told) c.loop-k-test.true
    (elim c.if-s.branch [
      | then-s w ↦ w.row-is ∙ sym (ruled ∙ rw (lt-ltb (s / 8) g.row.N w.if-s.true))
      | else-s w ↦ w.row-is ∙ sym (ruled ∙ rw (le-ltb (s / 8) g.row.N w.if-s.false))
    ])

pub returns : goal.returns
returns g c rule told =
    let l = c.loop-k in
    anew_all Empty 8 rule c.args.given l.row l.k (l.invariant rule told) c.loop-k-test.false
