-- Each turn counts one word more; behind the last the columns of all words are counted.
use Rattle.std.proofs.Common.{ℕ, ◌≡◌, ap, ◌∙◌, subst, ◌+◌, ◌/◌, set as store, arith}
use lib.Count.{ones}
use Rattle.mask_pattern.specs.Pattern.{zeroed, first_used}
use Rattle.mask_pattern.proofs.Runs.{side}
use Rattle.mask_pattern.proofs.Counted.{Counted, none_counted, one_more}
use Rattle.mask_pattern.proofs.pattern_words.Goals as goal

pub loop-p-init : goal.loop-p-init
loop-p-init c =
    let a = c.args in
    none_counted (side a.skip a.used a.size a.counts.now a.spans.now) a.n

pub loop-p-preserved : goal.loop-p-preserved
loop-p-preserved c =
    let a = c.args in
    let now = c.loop-p in
    let count = c.min-count in
    let word = c.mask_word-word in
    let columns = side a.skip a.used a.size a.counts.now a.spans.now in
    let next : now.p + count.result ≡ now.p + 64 = omega (arith, count.ensures) in
    subst (λ (p : ℕ). Counted columns a.n (store now.at (now.p / 64) word.result) (now.zeroed + ones word.result) c.first_used-first.result p) next
    (one_more columns a.n now.at now.zeroed now.first now.p count.result word.result c.first_used-first.result now.invariant (omega arith) (omega arith) count.ensures
    word.ensures c.first_used-first.ensures)

-- where there is no column
pub returns : goal.returns
returns c =
    let a = c.args in
    let now = c.loop-p in
    let columns = side a.skip a.used a.size a.counts.now a.spans.now in
    let most = now.invariant.most in
    let all : now.p ≡ a.n = omega arith in
    (now.invariant.counted ∙ ap (zeroed columns 0) all, now.invariant.least ∙ ap (first_used columns 0) all, λ i h. now.invariant.held i (omega arith))

-- after the last word
pub returns-2 : goal.returns-2
returns-2 c =
    let a = c.args in
    let now = c.loop-p in
    let count = c.min-count in
    let word = c.mask_word-word in
    let columns = side a.skip a.used a.size a.counts.now a.spans.now in
    let all : now.p + count.result ≡ a.n = omega (arith, count.ensures) in
    let done =
    one_more columns a.n now.at now.zeroed now.first now.p count.result word.result c.first_used-first.result now.invariant (omega arith) (omega arith) count.ensures
    word.ensures c.first_used-first.ensures in
    (done.counted ∙ ap (zeroed columns 0) all, done.least ∙ ap (first_used columns 0) all, λ i h. done.held i (omega arith))
