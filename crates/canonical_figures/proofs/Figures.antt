-- Every load of the canonical layouts has its stated answer and encodings: tests that the checker computes over whole lists, each within the steps
-- that one declaration may take, and the law that turns them into whatever the promise allows.
use mathlib.Core.Path.{◌≡◌, refl}
use mathlib.Core.Bool.{Bool, true, ◌&&◌, and-eq-true_iff}
use mathlib.Core.List.{List}
use Prim.Native.Nat.{ℕ, ◌<◌}
use borrow.Author.Tests.{eqb-true}
use lib.Dec.{eqb}
use lib.Count.{count_leading_zeros}
use lib.ListN.{length, get_or, replicate}
use Rattle.laws.proofs.Table.{every, every_at}
use Rattle.answers.specs.declared.Numbers.{Numbers}
use Rattle.swizzle.specs.Swizzle.{swizzled}
use Rattle.swizzle.specs.Mode.{bit_length}
use Rattle.card.specs.Admission.{admission}
use Rattle.rules.specs.RowMajor.{position}
use Rattle.rules.specs.Rules.{coordinates, spot}
use Rattle.rules.specs.Reuse.{leader}
use Rattle.idle.specs.Run.{pair_of}
use Rattle.idle.specs.Admission.{full_admission}
use Rattle.canonical.specs.Canonical.{CanonicalPromise, reported_numbers}
use Rattle.canonical.specs.Run.{report_run}
use Rattle.canonical.specs.declared.Reported.{Reported}
use Rattle.canonical.proofs.Theorems.{canonical_is_run}
use Rattle.canonical_figures.specs.Loads.{Lent, FigureReply, FigureLoad, figures, checks}

abbrev same_numbers : Numbers → Numbers → Bool
same_numbers m n = eqb m.number n.number && (eqb m.a n.a && (eqb m.b n.b && eqb m.c n.c))

both : (a b : Bool) → (a && b) ≡ true → (a ≡ true) × (b ≡ true)
both a b e = (and-eq-true_iff a b).0 e

numbers_same : (m n : Numbers) → same_numbers m n ≡ true → m ≡ n
numbers_same m n e =
    let t = both (eqb m.number n.number) (eqb m.a n.a && (eqb m.b n.b && eqb m.c n.c)) e in
    let a = both (eqb m.a n.a) (eqb m.b n.b && eqb m.c n.c) t.1 in
    let b = both (eqb m.b n.b) (eqb m.c n.c) a.1 in
    λ i. record {
      number = eqb-true m.number n.number t.0 i;
      a = eqb-true m.a n.a a.0 i;
      b = eqb-true m.b n.b b.0 i;
      c = eqb-true m.c n.c b.1 i;
    }

abbrev same : Reported → FigureReply → Bool
same r s = same_numbers (reported_numbers r) s.numbers && (eqb r.lbo s.lbo && eqb r.sbo s.sbo)

-- what a load is put to: the entries lent are not looked at
abbrev before : Lent → List ℕ
before l = replicate l.entries 1000000

meets : ℕ → FigureLoad → Bool
meets k load = same (report_run load.put.question (before load.put)) load.stated

-- what a load states of an outcome
pub record Stated (load : FigureLoad) (r : Reported) : Type 0 where
  pub numbers : reported_numbers r ≡ load.stated.numbers
  pub its_lbo : r.lbo ≡ load.stated.lbo
  pub its_sbo : r.sbo ≡ load.stated.sbo

stated : (load : FigureLoad) (r : Reported) → same r load.stated ≡ true → Stated load r
stated load r e =
    let s = load.stated in
    let t = both (same_numbers (reported_numbers r) s.numbers) (eqb r.lbo s.lbo && eqb r.sbo s.sbo) e in
    let l = both (eqb r.lbo s.lbo) (eqb r.sbo s.sbo) t.1 in
    record {
      numbers = numbers_same (reported_numbers r) s.numbers t.0;
      its_lbo = eqb-true r.lbo s.lbo l.0;
      its_sbo = eqb-true r.sbo s.sbo l.1;
    }

-- whatever the promise allows to each load of a list is as stated
abbrev pub AsStated : List FigureLoad → Type 0
AsStated loads = (other : FigureLoad) (k : ℕ) → k < length loads → (after : List ℕ) (r : Reported)
    → CanonicalPromise (get_or loads k other).put.question (before (get_or loads k other).put) after r → Stated (get_or loads k other) r

-- it is, where a list passes the test that the checker computes
passed : (loads : List FigureLoad) → every meets 0 loads ≡ true → AsStated loads
unfolding meets
passed loads test other k h after r allowed =
    let load = get_or loads k other in
    rw (canonical_is_run load.put.question (before load.put) after r allowed).0
    (stated load (report_run load.put.question (before load.put)) (every_at meets loads other test k h))

figures_test : every meets 0 figures ≡ true
unfolding meets figures swizzled bit_length count_leading_zeros admission pair_of full_admission position coordinates spot leader
figures_test = refl

pub figures_hold : AsStated figures
figures_hold = passed figures figures_test

checks_test : every meets 0 checks ≡ true
unfolding meets checks swizzled bit_length count_leading_zeros admission pair_of full_admission position coordinates spot leader
checks_test = refl

pub checks_hold : AsStated checks
checks_hold = passed checks checks_test
