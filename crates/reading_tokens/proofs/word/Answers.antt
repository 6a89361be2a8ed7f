-- The run ends where no letter is owed, where another byte stands, or with the text.
use Rattle.std.proofs.Common.{◌≡◌, length, arith}
use Rattle.reading_tokens.proofs.Laws.{word_more, word_good, word_bad}
use Rattle.reading_tokens.proofs.word.Goals as goal

pub returns-then-wanted-eq0 : goal.returns-then-wanted-eq0
returns-then-wanted-eq0 c =
    let a = c.args in
    rw c.right.ensures (word_good a.text.now a.from a.owed a.value c.loop-i.i c.loop-i.o c.loop-i.invariant (rw c.expected-wanted.ensures at c.if-wanted-eq0.true))

pub returns-then-text-i : goal.returns-then-text-i
returns-then-text-i c =
    let a = c.args in
    rw c.wrong.ensures
    (word_bad a.text.now a.from a.owed a.value c.loop-i.i c.loop-i.o c.loop-i.invariant (rw c.expected-wanted.ensures at c.if-wanted-eq0.false) (λ _. rw c.expected-wanted.ensures at c.if-text-i.true))

pub loop-i-preserved : goal.loop-i-preserved
loop-i-preserved c =
    let a = c.args in
    word_more a.text.now a.from a.owed c.loop-i.i c.loop-i.o c.loop-i.invariant (omega arith) (rw c.expected-wanted.ensures at c.if-wanted-eq0.false) (rw c.expected-wanted.ensures at c.if-text-i.false)

pub returns-then-expected-eq0 : goal.returns-then-expected-eq0
returns-then-expected-eq0 c =
    let a = c.args in
    let all : c.loop-i.i ≡ length a.text.now = omega arith in
    rw (c.right-then-expected-eq0.ensures, ← all) (word_good a.text.now a.from a.owed a.value c.loop-i.i c.loop-i.o c.loop-i.invariant (rw c.expected.ensures at c.if-expected-eq0.true))

pub returns : goal.returns
returns c =
    let a = c.args in
    let all : c.loop-i.i ≡ length a.text.now = omega arith in
    rw (c.wrong-2.ensures, ← all) (word_bad a.text.now a.from a.owed a.value c.loop-i.i c.loop-i.o c.loop-i.invariant (rw c.expected.ensures at c.if-expected-eq0.false) (λ h. absurd (omega (arith, h))))
