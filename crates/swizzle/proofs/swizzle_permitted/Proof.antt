-- `swizzle::swizzle_permitted` is the swizzle: a permitted swizzle's shifts stay within 64 bits, so that no bit is lost.
use native.Mathlib.Omega.{arith}
use lib.Pow.{pow_pos}
use Rattle.laws.proofs.Words.{one_shifted}
use Rattle.swizzle.proofs.Laws.{Permitted, permitted_numbers, swizzled_shifted}
use Rattle.swizzle.proofs.swizzle_permitted.Statement.{statement}
use Rattle.swizzle.proofs.swizzle_permitted.Tie as tie

numbers : (c : tie.Start) → Permitted c.args.m c.args.b c.args.s
numbers c = permitted_numbers c.args.m c.args.b c.args.s c.requires

returns : tie.Need-returns
returns c =
    let a = c.args in
    let n = numbers c in
    rw (one_shifted a.b (omega arith)) (swizzled_shifted a.m a.b a.s a.address n.most_m n.most_b)

pub swizzle_permitted_spec : {M : Type 1} → statement M
swizzle_permitted_spec =
    tie.close
    (tie.spec (λ c. let n = numbers c in omega arith) (λ c. let n = numbers c in omega arith) (λ c. let n = numbers c in omega arith)
    (λ c. let n = numbers c in omega (arith, one_shifted c.args.b (omega arith), pow_pos c.args.b)) (λ c. let n = numbers c in omega arith)
    returns)
