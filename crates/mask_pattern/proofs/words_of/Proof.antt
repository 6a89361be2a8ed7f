-- `mask_pattern::words_of` are the words of the columns: those of the sub-masks side by side where the non-zero mask is 1, else all clear.
use native.Mathlib.Omega.{arith}
use borrow.Author.Rules.{rules}
use mathlib.Core.Path.{refl, sym, fun_ext, ◌∙◌}
use mathlib.Core.Bool.{false}
use Prim.Native.Nat.{◌-◌, ◌*◌, min}
use borrow.Author.Tests.{not-true, not-false}
use lib.ListN.{get_or-replicate}
use Rattle.mask_pattern.proofs.Bytes.{none_zeroed, all_used_lem}
use Rattle.mask_pattern.proofs.Pattern.{all_clear}
use Rattle.mask_pattern.proofs.Runs.{number_run}
use Rattle.mask_pattern.proofs.Counted.{columns_set}
use Rattle.mask_pattern.proofs.words_of.Statement.{statement}
use Rattle.mask_pattern.proofs.words_of.Tie as tie

returns : tie.Need-returns-then-not-fields
returns c =
    let a = c.args in
    let clear = fun_ext (all_clear a.size a.fields (not-true a.fields.non_zero c.if-not-fields.true)) in
    rw clear (
      sym (none_zeroed 0 a.n),
      sym (all_used_lem 0 a.n),
      λ i h.
          get_or-replicate 4 i 0 0 (omega arith)
          ∙ sym (number_run (λ p. false) (64 * i) 0 (min (a.n - 64 * i) 64) (omega arith) (λ k l. absurd (omega arith)) (λ k l b. refl)),
    )

returns_2 : tie.Need-returns
returns_2 c =
    let start = c in
    let a = start.args in
    let on = not-false a.fields.non_zero c.if-not-fields.false in
    rw (columns_set a.size a.fields on) c.pattern_words.ensures

pub words_of_spec : {M : Type 1} → statement M
words_of_spec = tie.close (tie.spec returns (λ c. search rules) (λ c. search rules) (λ c κs. search rules) returns_2)
