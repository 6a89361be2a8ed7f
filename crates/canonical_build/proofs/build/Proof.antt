-- `canonical_build::build` refuses in the order of the checks, and builds the card where they are passed.
use mathlib.Core.Path.{◌≡◌, sym, ◌∙◌}
use mathlib.Core.Bool.{true, false}
use borrow.Author.Rules.{rules}
use borrow.Author.Tests.{not-true, not-false}
use Rattle.swizzle.specs.Mode.{known, mode_answer}
use Rattle.swizzle.proofs.Theorems.{mode_told}
use Rattle.canonical.specs.Canonical.{fits}
use Rattle.canonical_build.proofs.Laws.{sound, not_chosen}
use Rattle.canonical_build.proofs.build.Statement.{statement}
use Rattle.canonical_build.proofs.build.Tie as tie

returns : tie.Need-returns-then-not-is_fit
returns c =
    let f = c in
    let m = f in
    let s = m in
    let a = s.args.a in
    let chosen = sym m.swizzle_of_mode-chosen.ensures ∙ m.in-Ok.is in
    let told : known a.bits a.mode ≡ true = (mode_told a.bits a.mode m.in-Ok.swizzle chosen).0 in
    let unfit : fits a ≡ false = sym f.is_fit.ensures ∙ c.if-not-is_fit.true in
    rw (told, unfit) c.refuse.ensures

card_of_requires : tie.Need-card_of-card-requires
card_of_requires c κs =
    let f = c in
    let m = f in
    let s = m in
    let a = s.args.a in
    let chosen = sym m.swizzle_of_mode-chosen.ensures ∙ m.in-Ok.is in
    let told : known a.bits a.mode ≡ true = (mode_told a.bits a.mode m.in-Ok.swizzle chosen).0 in
    let fit : fits a ≡ true = sym f.is_fit.ensures ∙ c.if-not-is_fit.false in
    (sound a told fit, chosen)

returns_2 : tie.Need-returns-else-not-is_fit
returns_2 c =
    let f = c in
    let m = f in
    let s = m in
    let a = s.args.a in
    let chosen = sym m.swizzle_of_mode-chosen.ensures ∙ m.in-Ok.is in
    let told : known a.bits a.mode ≡ true = (mode_told a.bits a.mode m.in-Ok.swizzle chosen).0 in
    let fit : fits a ≡ true = sym f.is_fit.ensures ∙ c.if-not-is_fit.false in
    rw (told, fit, c.card_of-card.ensures)

returns_3 : tie.Need-returns-in-Err
returns_3 c =
    let m = c in
    let s = m in
    let a = s.args.a in
    let told = not_chosen a.bits a.mode m.in-Err.refusal (sym m.swizzle_of_mode-chosen.ensures ∙ m.in-Err.is) in
    rw told.0 (rw told.1 at c.refuse-in-Err.ensures)

pub build_spec : {M : Type 1} → statement M
build_spec = tie.close (tie.spec (λ c κs. search rules) (λ c. search rules) (λ c κs. search rules) (λ c κs. search rules) returns card_of_requires (λ c. search rules) (λ c κs. search rules) returns_2 returns_3)
