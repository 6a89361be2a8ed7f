-- `desk_lines_reply::lent::digest` is safe: the sum stays below the modulus.
use Rattle.std.proofs.Common.{◌<◌}
use Rattle.desk_lines_reply.proofs.lent.digest.Given as goal

abbrev pub invariant-loop-i : goal.invariant-loop-i
invariant-loop-i l = l.sum < 4294967291
