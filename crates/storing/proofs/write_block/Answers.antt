-- `storing::write_block` refuses by checks 1 to 6, then 20, then 11; else the block is filled.
use Rattle.std.proofs.Common.{arith, ◌≡◌, refl, sym, ap, ◌∙◌, ℕ, List, ◌++◌, length, take, drop}
use Rattle.std.proofs.lemmas.Result.{err_from_is_err_and}
use borrow.Author.Tests.{lt-ltb, le-ltb}
use lib.Seq.{length-take-le}
use Rattle.book.specs.Block.{most_note, block_length}
use Rattle.storing.proofs.write_block.Goals as goal

pub returns-in_err-admit : goal.returns-in_err-admit
returns-in_err-admit c =
    let p = err_from_is_err_and c.from_residual.result c.from_residual.ensures.1 in
    (rw (p.1, p.2, sym c.admit.ensures ∙ c.in_err-admit.was) refl, rw p.1 refl)

pub returns-then-note-gt-MOST_NOTE : goal.returns-then-note-gt-MOST_NOTE
returns-then-note-gt-MOST_NOTE c = (rw (sym c.admit.ensures ∙ c.in_ok-admit.was, lt-ltb most_note (length c.args.note.now) (omega arith)) refl, refl)

pub returns-then-memory-lt-BLOCK : goal.returns-then-memory-lt-BLOCK
returns-then-memory-lt-BLOCK c =
    (rw (sym c.admit.ensures ∙ c.in_ok-admit.was, le-ltb most_note (length c.args.note.now) (omega arith), lt-ltb (length c.args.memory.now) block_length (omega arith)) refl, refl)

pub fill-requires : goal.fill-requires
fill-requires c = (length-take-le 512 c.args.memory.now (omega arith), omega arith)

pub returns : goal.returns
returns c = (
  rw (sym c.admit.ensures ∙ c.in_ok-admit.was, le-ltb most_note (length c.args.note.now) (omega arith), le-ltb (length c.args.memory.now) block_length (omega arith)) refl,
  ap (λ (x : List ℕ). x ++ drop 512 c.args.memory.now) c.fill.ensures,
)
