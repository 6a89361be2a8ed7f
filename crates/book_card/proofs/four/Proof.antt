-- `book_card::four` reads its four bytes.
use mathlib.Core.Path.{◌≡◌, sym, ◌∙◌}
use native.Mathlib.Omega.{arith}
use borrow.Author.Rules.{rules}
use Rattle.book_card.proofs.Laws.{field_four}
use Rattle.book_card.proofs.four.Statement.{statement}
use Rattle.book_card.proofs.four.Tie as tie

returns : tie.Need-returns
returns c =
    let d = c in
    let e = d in
    let f = e in
    let s = f in (
      rw (c.wide-4.ensures.0, d.wide-3.ensures.0, e.wide-2.ensures.0, f.wide.ensures.0) (sym (field_four s.args.at s.args.block.now s.requires)),
      omega (arith, c.wide-4.ensures.1, d.wide-3.ensures.1, e.wide-2.ensures.1, f.wide.ensures.1),
    )

pub four_spec : {M : Type 1} → statement M
four_spec =
    tie.close
    (tie.spec (λ c. search rules) (λ c κs. search rules) (λ c. search rules) (λ c. search rules) (λ c κs. search rules) (λ c. search rules) (λ c. search rules)
    (λ c κs. search rules) (λ c. search rules) (λ c. search rules) (λ c κs. search rules) (λ c. search rules) (λ c. search rules) (λ c. search rules)
    (λ c. search rules) (λ c. search rules) (λ c. search rules) returns)
