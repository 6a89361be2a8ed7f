-- One turn writes one byte of its word behind those that are written.
use Rattle.std.proofs.Common.{List, ℕ, refl, ap₂, ◌∙◌, set, arith}
use Rattle.mask_pattern.specs.Pattern.{mask_bytes}
use Rattle.mask_pattern.proofs.Bytes.{bytes_store}
use Rattle.mask_pattern.proofs.Counted.{word_bit, word_byte}
use Rattle.mask.proofs.write_bytes.Goals as goal

pub loop-j-init : goal.loop-j-init
unfolding mask_bytes
loop-j-init c = refl

pub loop-j-preserved : goal.loop-j-preserved
loop-j-preserved c =
    let a = c.args in
    let now = c.loop-j in
    ap₂ (λ (l : List ℕ) (v : ℕ). set l now.j v) now.invariant (word_byte a.words now.j) ∙ bytes_store (word_bit a.words) a.mask.now now.j (omega arith)
