-- `judge::judge_kept` says what the two whole lines come to: what is kept of each is answered as it is (typed_judged's `judge_kept`).
use Rattle.std.proofs.Common.{arith}
use Rattle.typed_judged.proofs.Long.{judge_kept}
use Rattle.judge.proofs.judge_kept.Goals as goal

pub returns : goal.returns
returns c one two e f =
    record {
      after = _;
      verdict = c.judge_lines-verdict.result;
      promised =
          judge_kept one two _ _ c.judge_lines-verdict.result 4096 (omega arith)
          (rw (c.kept-lengths.ensures, c.kept-text.ensures, ← e, ← f) at c.judge_lines-verdict.ensures);
      numbered = c.in_numbers.ensures;
    }
