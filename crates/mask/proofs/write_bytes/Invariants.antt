-- The first j bytes are written and the others as they were.
use Rattle.std.proofs.Common.{◌≡◌, ◌++◌, drop}
use Rattle.mask_pattern.specs.Pattern.{mask_bytes}
use Rattle.mask_pattern.proofs.Counted.{word_bit}
use Rattle.mask.proofs.write_bytes.Given as goal

abbrev pub invariant-loop-j : goal.invariant-loop-j
invariant-loop-j l = l.mask ≡ mask_bytes (word_bit l.words) l.j ++ drop l.j l.fn.mask
