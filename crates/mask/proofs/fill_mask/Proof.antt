-- `mask::fill_mask` says what the words say, and their bytes are the bytes of the columns.
use borrow.Author.Rules.{rules}
use mathlib.Core.Path.{ap₂, ◌∙◌}
use lib.ListN.{length}
use Rattle.mask.specs.Mask.{mask_with}
use Rattle.mask_pattern.specs.Pattern.{column}
use Rattle.mask_pattern.proofs.Counted.{words_bytes}
use Rattle.mask.proofs.fill_mask.Statement.{statement}
use Rattle.mask.proofs.fill_mask.Tie as tie

returns : tie.Need-returns
returns c =
    let a = c.args in
    let words = c.words_of-words in (
      ap₂ mask_with words.ensures.0 words.ensures.1,
      c.write_bytes.ensures ∙ words_bytes (column a.size a.fields) words.result.at (length a.mask.now) words.ensures.2,
    )

pub fill_mask_spec : {M : Type 1} → statement M
fill_mask_spec = tie.close (tie.spec (λ c. search rules) (λ c κs. search rules) (λ c κs. search rules) (λ c. search rules) returns)
