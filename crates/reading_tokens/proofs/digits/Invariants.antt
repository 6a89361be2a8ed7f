-- `reading_tokens::digits` runs over the digits that go on a number: the invariant is the run up to the place, and each digit carries it one on.
use Rattle.std.proofs.Common.{◌<◌}
use Rattle.reading_tokens.specs.Run.{DigitRun}
use Rattle.reading_tokens.proofs.digits.Given as goal

abbrev pub invariant-loop-i : goal.invariant-loop-i
invariant-loop-i l = DigitRun l.text l.fn.from l.fn.first l.i l.value × (l.fn.first < 100000 → l.value < 100000)
