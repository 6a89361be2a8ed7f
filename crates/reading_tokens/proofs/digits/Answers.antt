-- The run ends at the first byte that does not go on the number, or with the text.
use Rattle.std.proofs.Common.{◌≡◌, length, get_or, refl, sym, ◌∙◌, arith}
use Rattle.notation.specs.Machine.{digit_of}
use Rattle.reading_tokens.proofs.Laws.{digits_more, still_small}
use Rattle.reading_tokens.proofs.digits.Goals as goal

pub returns-then-not-goes_on : goal.returns-then-not-goes_on
returns-then-not-goes_on c =
    rw c.right.ensures
    record { fit = refl; runs_to = c.loop-i.invariant.0; stops = λ _. rw c.digit-d.ensures at (sym c.goes_on.ensures ∙ c.if-not-goes_on.true); small = c.loop-i.invariant.1 }

pub loop-i-preserved : goal.loop-i-preserved
loop-i-preserved c =
    let t = c.args.text.now in
    let on = rw c.digit-d.ensures at (sym c.goes_on.ensures ∙ c.if-not-goes_on.false) in
    rw (c.longer-value.ensures, c.digit-d.ensures)
    (digits_more t c.args.from c.args.first c.loop-i.i c.loop-i.value c.loop-i.invariant.0 (omega arith) on, λ _. still_small c.loop-i.value (digit_of (get_or t c.loop-i.i 0)) on)

pub returns : goal.returns
returns c =
    let all : c.loop-i.i ≡ length c.args.text.now = omega arith in
    rw (c.right-2.ensures, ← all) record { fit = refl; runs_to = c.loop-i.invariant.0; stops = λ h. absurd (omega (arith, h)); small = c.loop-i.invariant.1 }
