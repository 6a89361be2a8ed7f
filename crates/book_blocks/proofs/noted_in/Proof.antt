-- `book_blocks::noted_in` reads two bytes.
use mathlib.Core.Path.{◌≡◌, sym, ◌∙◌}
use Rattle.book_card.proofs.Laws.{field_pair}
use native.Mathlib.Omega.{arith}
use borrow.Author.Rules.{rules}
use Rattle.book_blocks.proofs.noted_in.Statement.{statement}
use Rattle.book_blocks.proofs.noted_in.Tie as tie

returns : tie.Need-returns
returns c =
    let d = c in
    let s = d in
    (rw (c.one-2.ensures.0, d.one.ensures.0) (sym (field_pair 6 s.args.block.now (omega (arith, s.requires)))), omega (arith, c.one-2.ensures.1, d.one.ensures.1))

pub noted_in_spec : {M : Type 1} → statement M
noted_in_spec = tie.close (tie.spec (λ c κs. search rules) (λ c κs. search rules) (λ c. search rules) (λ c. search rules) returns)
