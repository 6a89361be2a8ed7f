-- `admission::check_fields` is the ladder of checks 1 to 3: the tests that led to each return are the definition's own, so the ladder computes to the answer.
use mathlib.Core.Path.{◌≡◌, sym, ap₂, ◌∙◌}
use mathlib.Core.Bool.{true, ◌&&◌}
use borrow.Author.Rules.{rules}
use borrow.Author.Tests.{not-true, not-false}
use Rattle.card.specs.Admission.{counts_fit, numbers_fit, axes_fit}
use Rattle.card.specs.Packed.{card_of}
use Rattle.card.specs.declared.Card.{Card}
use Rattle.card.proofs.Listed.{shard_list, replica_list}
use Rattle.admission.proofs.check_fields.Statement.{statement}
use Rattle.admission.proofs.check_fields.Tie as tie

abbrev asked : tie.Start → Card
asked s = card_of s.args.numbers.now s.args.strides.now

-- what each check that was passed says
counts : (c : tie.Else-not-counts_fit) → counts_fit (asked c.before.before) ≡ true
counts c = sym (c.counts_fit.ensures c.args.strides.now) ∙ c.if-not-counts_fit.false

-- what the walks over both lists, the marks and the offset say of checks 2 and 3
abbrev passed : tie.After-list_fits-replica → tie.Else-not-counts_fit
passed w = w.before.before

abbrev marked : tie.After-offset_fits → tie.After-marks_fit
marked c = c.before.before.before

abbrev walked : tie.After-offset_fits → tie.After-list_fits-replica
walked c = (marked c).before.before

numbers : (c : tie.After-offset_fits) → let w = walked c in
    numbers_fit (asked (passed w).before.before)
    ≡ (w.list_fits-shard.result.limits && (marked c).marks_fit.result && w.list_fits-replica.result.limits && c.offset_fits.result)
numbers c =
    let w = walked c in
    sym (ap₂ ◌&&◌ (ap₂ ◌&&◌ (ap₂ ◌&&◌ w.list_fits-shard.ensures.0 (marked c).marks_fit.ensures) w.list_fits-replica.ensures.0)
    (c.offset_fits.ensures (passed w).args.numbers.now))

axes : (w : tie.After-list_fits-replica) → axes_fit (asked (passed w).before.before) ≡ (w.list_fits-shard.result.axes && w.list_fits-replica.result.axes)
axes w = sym (ap₂ ◌&&◌ w.list_fits-shard.ensures.1 w.list_fits-replica.ensures.1)

returns : tie.Need-returns-then-not-counts_fit
returns c = rw (sym (c.counts_fit.ensures c.args.strides.now) ∙ c.if-not-counts_fit.true)

list_fits_requires : tie.Need-list_fits-shard-requires
list_fits_requires c κs = let a = c.args in shard_list a.numbers.now a.strides.now (counts c)

list_fits_requires_2 : tie.Need-list_fits-replica-requires
list_fits_requires_2 c κs = let a = c.args in replica_list a.numbers.now a.strides.now (counts c.before)

marks_fit_requires : tie.Need-marks_fit-requires
marks_fit_requires c κs =
    let e = passed c.before in
    let a = e.args in
    (shard_list a.numbers.now a.strides.now (counts e), search rules)

returns_2 : tie.Need-returns-then-not-shard-marks_fit
returns_2 c = let o = c in rw (counts (passed (walked o.before)), numbers o.before ∙ c.if-not-shard-marks_fit.true)

returns_3 : tie.Need-returns-then-not-shard-replica
returns_3 c =
    let e = c in
    let o = e in
    let w = walked o.before.before.before.before in
    rw (counts (passed w), numbers o.before.before.before.before ∙ e.if-not-shard-marks_fit.false, axes w ∙ c.if-not-shard-replica.true)

returns_4 : tie.Need-returns
returns_4 c =
    let e = c in
    let o = e in
    let w = walked o.before.before.before.before in
    rw (counts (passed w), numbers o.before.before.before.before ∙ e.if-not-shard-marks_fit.false, axes w ∙ c.if-not-shard-replica.false)

pub check_fields_spec : {M : Type 1} → statement M
check_fields_spec =
    tie.close
    (tie.spec (λ c κs. search rules) returns list_fits_requires list_fits_requires_2 marks_fit_requires (λ c κs. search rules) returns_2 returns_3 returns_4)
