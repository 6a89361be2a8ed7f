-- `reuse::stands_still` walks over the shard's iters from the last: it turns back at a marked component that is not 0, and at the end there is none.
use Rattle.std.proofs.Common.{arith, List, ◌≡◌, ◌<◌, ◌-◌, ◌%◌, ◌∙◌, sym, ap, subst, ℕ, suc, Bool, true, false, eqb, get_or}
use mathlib.Core.Bool.{not, ◌&&◌, and-eq-true_iff, true≢false}
use borrow.Author.Tests.{eq-eqb, ne_eqb, eqb-true, not-false}
use Rattle.card.specs.Packed.{mark_at}
use Rattle.reuse.specs.Clauses.{Element}
use Rattle.reuse.proofs.Walk.{some_extent, Walked, walked_more, next_is, walked_leads, moved_follows}
use Rattle.reuse.proofs.stands_still.Goals as goal

-- a walk that is still to pass some iters is to pass one
at_next : (numbers : List ℕ) (flat : ℕ) (e : Element numbers flat) (k rest : ℕ) → 0 < k → Walked numbers flat e k rest → Walked numbers flat e (suc (k - 1)) rest
at_next numbers flat e k rest some w = subst (λ (n : ℕ). Walked numbers flat e n rest) (omega arith) w

both_or : (a : Bool) (n : ℕ) → (a && not (eqb n 0)) ≡ false → a ≡ true → n ≡ 0
both_or true n e h = eqb-true n 0 (not-false (eqb n 0) e)
both_or false n e h = absurd (true≢false (sym h))

pub nonzero_rem-rest : goal.nonzero_rem-rest
nonzero_rem-rest c = some_extent c.args.numbers.now c.args.flat.0 c.requires (c.loop-k.k - 1) (omega arith)

pub returns-then-numbers-k : goal.returns-then-numbers-k
returns-then-numbers-k c = λ strides.
    let numbers = c.args.numbers.now in
    let flat = c.args.flat.0 in
    let l = c.loop-k in
    let k = l.k - 1 in
    let here = get_or numbers k 0 in
    let both = (and-eq-true_iff (mark_at numbers k) (not (eqb (l.rest % here) 0))).0 c.if-numbers-k.true in
    let next = next_is numbers flat c.requires k l.rest (at_next numbers flat c.requires l.k l.rest c.loop-k-test.true (l.invariant c.requires)) in
    sym (ne_eqb _ flat
    (moved_follows numbers flat c.requires strides k (omega arith) both.0
    (λ z. true≢false (sym both.1 ∙ ap not (eq-eqb (l.rest % here) 0 (next ∙ z))))))

pub nonzero_div-rest : goal.nonzero_div-rest
nonzero_div-rest c = some_extent c.args.numbers.now c.args.flat.0 c.requires (c.loop-k.k - 1) (omega arith)

pub loop-k-preserved : goal.loop-k-preserved
loop-k-preserved c = λ e.
    let numbers = c.args.numbers.now in
    let flat = c.args.flat.0 in
    let l = c.loop-k in
    let k = l.k - 1 in
    let here = get_or numbers k 0 in
    let so_far = at_next numbers flat e l.k l.rest c.loop-k-test.true (l.invariant e) in
    walked_more numbers flat e k l.rest (omega arith) so_far
    (λ m. sym (next_is numbers flat e k l.rest so_far) ∙ both_or (mark_at numbers k) (l.rest % here) c.if-numbers-k.false m)

pub returns : goal.returns
returns c = λ strides.
    let numbers = c.args.numbers.now in
    let flat = c.args.flat.0 in
    let l = c.loop-k in
    let done : l.k ≡ 0 = omega arith in
    let walked = subst (λ (k : ℕ). Walked numbers flat c.requires k l.rest) done (l.invariant c.requires) in
    sym (eq-eqb _ flat (walked_leads numbers flat c.requires strides l.rest walked))
