-- `urszovely::note_place` goes by the answer: of a block that was read the note is as long as its two bytes say.
use mathlib.Core.Path.{◌≡◌, sym, ap, ◌∙◌}
use mathlib.Core.List.{[], ◌∷◌}
use Prim.Native.Nat.{ℕ}
use native.Mathlib.Omega.{arith}
use lib.ListN.{length, drop, length-drop}
use lib.Seq.{length-take-le}
use borrow.Author.Rules.{rules}
use Rattle.book.specs.Book.{noted_in, note_in}
use Rattle.book.proofs.Theorems.{Passed, passed}
use Rattle.urszovely.proofs.note_place.Statement.{statement}
use Rattle.urszovely.proofs.note_place.Tie as tie

was : (c : tie.In-Ok) → Passed c.args.block.now
was c = let s = c in passed s.args.block.now (sym s.requires ∙ c.in-Ok.is)

returns : tie.Need-returns-in-Ok
returns c =
    let e = c in
    let block = e.args.block.now in
    let long : length (note_in block) ≡ noted_in block =
    length-take-le (noted_in block) (drop 216 block) (omega (arith, length-drop 216 block, (was e.before).room, (was e.before).noted)) in
    rw e.in-Ok.is (ap (λ (n : ℕ). 216 ∷ n ∷ []) (c.noted_in.ensures.0 ∙ sym long))

pub note_place_spec : {M : Type 1} → statement M
note_place_spec = tie.close (tie.spec (λ c. search rules) (λ c κs. (was c).room) (λ c. search rules) returns (λ c. search rules))
