-- `card_products::times` is the capped product: a factor from the cap on makes a product from the cap on, unless the other is 0, and two below fit a word.
use Prim.Native.Nat.{ℕ, ◌*◌, ◌-◌, min}
use mathlib.Core.Path.{ap}
use native.Mathlib.Nat.{mul-le-mul}
use native.Mathlib.Omega.{arith}
use borrow.Author.Rules.{rules}
use Rattle.card.specs.Packed.{beyond}
use Rattle.card_products.proofs.times.Statement.{statement}
use Rattle.card_products.proofs.times.Tie as tie

returns : tie.Need-returns-then-a-eq0
returns c = let a = c.args in omega (arith, ap (λ (n : ℕ). min (n * a.b) beyond) c.if-a-eq0.true)

returns_2 : tie.Need-returns-then-b-ge-BEYOND
returns_2 c =
    let a = c.args in
    let more = mul-le-mul {n₁ = 1} {m₁ = beyond} {n₂ = a.a} {m₂ = a.b} (omega arith) (omega arith) in
    omega arith

mul_whole : tie.Need-overflow_mul-whole
mul_whole c =
    let a = c.args in
    let few = mul-le-mul {n₁ = a.a} {m₁ = a.b} {n₂ = beyond} {m₂ = beyond - 1} c.requires (omega arith) in
    omega arith

pub times_spec : {M : Type 1} → statement M
times_spec = tie.close (tie.spec returns returns_2 mul_whole (λ c. search rules) (λ c. search rules))
