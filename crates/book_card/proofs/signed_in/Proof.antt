-- `book_card::signed_in` is two's complement of four bytes.
use mathlib.Core.Path.{◌≡◌, ap, ◌∙◌}
use Rattle.book.specs.Bytes.{signed32}
use Rattle.book_card.proofs.Laws.{stored_signed}
use native.Mathlib.Omega.{arith}
use borrow.Author.Rules.{rules}
use Rattle.book_card.proofs.signed_in.Statement.{statement}
use Rattle.book_card.proofs.signed_in.Tie as tie

returns : tie.Need-returns
returns c =
    let f = c in
    let few = rw f.four.ensures.0 at f.four.ensures.1 in
    (stored_signed (c.signed.ensures ∙ ap signed32 f.four.ensures.0, few), few)

pub signed_in_spec : {M : Type 1} → statement M
signed_in_spec = tie.close (tie.spec (λ c κs. search rules) (λ c κs. search rules) returns)
