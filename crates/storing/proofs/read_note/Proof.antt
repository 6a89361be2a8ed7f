-- `storing::read_note` is the part of the block that the note is.
use Rattle.std.specs.Prelude.{Ok}
use Prim.Native.Nat.{ℕ, ◌+◌, ◌-◌}
use mathlib.Core.Path.{◌≡◌, refl, sym, ap, ◌∙◌}
use mathlib.Core.List.{List}
use native.Mathlib.Nat.{add-sub_cancel_left}
use lib.ListN.{take, drop}
use Rattle.answers.specs.Refusals.{no_refusal}
use Rattle.book.specs.Book.{read_answer}
use Rattle.book.specs.declared.Page.{Page}
use Rattle.book.proofs.Theorems.{Passed, passed}
use native.Mathlib.Omega.{arith}
use borrow.Author.Rules.{rules}
use Rattle.storing.proofs.read_note.Statement.{statement}
use Rattle.storing.proofs.read_note.Tie as tie

done : (c : tie.In-Ok) → read_answer c.args.block.now ≡ no_refusal
done c = ap (λ (p : Page). p.answer) (sym c.read_block-page.ensures) ∙ c.in-Ok.is

was : (c : tie.In-Ok) → Passed c.args.block.now
was c = passed c.args.block.now (done c)

part_result_end : tie.Need-slice_bounds-result-end
part_result_end c = let p = was c.before in omega (arith, p.room, p.noted, c.noted_in.ensures.0)

returns : tie.Need-returns-in-Ok
returns c =
    let n = c in
    let e = n in
    rw (done e.before.before, add-sub_cancel_left 216 n.noted_in.result, n.noted_in.ensures.0) (refl, (refl, omega arith))

returns_2 : tie.Need-returns-in-Err
returns_2 c =
    let e = c in
    rw (ap (λ (p : Page). p.answer) (sym e.read_block-page.ensures) ∙ e.in-Err.is) (refl, (refl, omega arith))

pub read_note_spec : {M : Type 1} → statement M
read_note_spec = tie.close (tie.spec (λ c κs. search rules) (λ c. search rules) (λ c κs. (was c).room) (λ c. search rules) (λ c. search rules) (λ c. search rules) part_result_end (λ c. search rules) (λ c. search rules) (λ c. search rules) (λ c. search rules) returns returns_2)
