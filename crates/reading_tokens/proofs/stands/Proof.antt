-- `reading_tokens::stands` is the definition: past the end nothing stands, within it the byte is compared.
use native.Mathlib.Omega.{arith}
use borrow.Author.Rules.{rules}
use borrow.Author.Tests.{lt-ltb, le-ltb}
use lib.ListN.{length}
use Rattle.reading_tokens.proofs.stands.Statement.{statement}
use Rattle.reading_tokens.proofs.stands.Tie as tie

returns : tie.Need-returns-then-text-at
returns c = let a = c.args in rw (le-ltb a.at (length a.text.now) (omega arith))

returns_2 : tie.Need-returns
returns_2 c = let a = c.args in rw (lt-ltb a.at (length a.text.now) (omega arith))

pub stands_spec : {M : Type 1} → statement M
stands_spec = tie.close (tie.spec returns (λ c. search rules) returns_2)
