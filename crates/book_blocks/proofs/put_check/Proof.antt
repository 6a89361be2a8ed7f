-- `book_blocks::put_check` stores four bytes.
use Rattle.book_blocks.proofs.Laws.{check_put}
use native.Mathlib.Omega.{arith}
use borrow.Author.Rules.{rules}
use Rattle.book_blocks.proofs.put_check.Statement.{statement}
use Rattle.book_blocks.proofs.put_check.Tie as tie

returns : tie.Need-returns
returns c = check_put c.args.block.now c.args.n c.requires

pub put_check_spec : {M : Type 1} → statement M
put_check_spec = tie.close (tie.spec (λ c. search rules) (λ c. search rules) (λ c. search rules) (λ c. search rules) (λ c. search rules) (λ c. search rules) (λ c. search rules) (λ c. search rules) (λ c. search rules) returns)
