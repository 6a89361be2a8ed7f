-- What the checks leave, and what bits and mode that are not known are refused with.
use Rattle.std.specs.Prelude.{Err}
use mathlib.Core.Path.{◌≡◌, refl, sym}
use mathlib.Core.Bool.{Bool, true, false, cond, not, ◌&&◌, ◌||◌, and-eq-true_iff, false≢true}
use Prim.Native.Nat.{ℕ, ◌*◌, ◌/◌, ◌%◌, ◌^◌, ◌≤◌, ◌<◌}
use native.Mathlib.Omega.{arith}
use borrow.Author.Tests.{leb-true, ltb-true}
use lib.Dec.{eqb, leb, ltb}
use lib.Pow.{pow_mono}
use Rattle.answers.specs.declared.Refusal.{Refusal}
use Rattle.answers.specs.declared.Refusal.TheVariants.{Swizzle}
use Rattle.laws.proofs.Rungs.{apart, passed_by}
use Rattle.laws.proofs.Words.{one_shifted}
use Rattle.swizzle.specs.Mode.{known, known_bits, mode_answer}
use Rattle.swizzle.proofs.Widths.{known_parts, at_known_bits}
use Rattle.card.specs.Lists.{within}
use Rattle.canonical.specs.Rule.{uses_lbo}
use Rattle.canonical.specs.Canonical.{stride_fits, fits}
use Rattle.canonical.specs.declared.Canonical.{Canonical}
use Rattle.canonical_build.specs.Clauses.{PassedChecks, longest}

stride_below : (bytes : ℕ) → stride_fits bytes ≡ true → bytes < 262144
stride_below bytes e = ltb-true bytes 262144 ((and-eq-true_iff (eqb (bytes % 16) 0) (ltb bytes 262144)).0 e).1

-- an unused LBO isn't looked at, a used one is
where_used : (used fit : Bool) → (not used || fit) ≡ true → used ≡ true → fit ≡ true
where_used true fit e h = e
where_used false fit e h = absurd (false≢true h)

pub sound : (a : Canonical) → known a.bits a.mode ≡ true → fits a ≡ true → PassedChecks a
sound a k f =
    let parts = known_parts a.bits a.mode k in
    let used = uses_lbo a.major a.mode in
    let s = (and-eq-true_iff (leb a.major 1 && within 1 8 a.m && within 1 8 a.k && (not used || stride_fits a.lbo)) (stride_fits a.sbo)).0 f in
    let l = (and-eq-true_iff (leb a.major 1 && within 1 8 a.m && within 1 8 a.k) (not used || stride_fits a.lbo)).0 s.0 in
    let c = (and-eq-true_iff (leb a.major 1 && within 1 8 a.m) (within 1 8 a.k)).0 l.0 in
    record {
      its_bits = parts.0;
      its_mode = parts.1;
      few_columns = leb-true a.k 8 ((and-eq-true_iff (leb 1 a.k) (leb a.k 8)).0 c.1).1;
      lbo_below = λ h. stride_below a.lbo (where_used used (stride_fits a.lbo) l.1 h);
      sbo_below = stride_below a.sbo s.1;
    }

-- a byte stride in elements is no longer than the longest
pub elements_short : (bits bytes : ℕ) → known_bits bits ≡ true → bytes < 262144 → bytes * 8 / bits ≤ longest
elements_short bits bytes known h =
    at_known_bits (λ n. bytes * 8 / n ≤ longest) (omega arith) (omega arith) (omega arith) (omega arith) (omega arith) (omega arith) bits known

-- and so is T, with the swizzle's width
pub T_few : (bits : ℕ) → known_bits bits ≡ true → 128 / bits ≤ 32
T_few = at_known_bits (λ n. 128 / n ≤ 32) (omega arith) (omega arith) (omega arith) (omega arith) (omega arith) (omega arith)

-- a swizzle's width is at most eight pieces, and so many times T is not long
pub pieces_few : (mode : ℕ) → mode ≤ 3 → 1 * 2 ^ mode % 2 ^ 64 ≡ 2 ^ mode
pieces_few mode h = one_shifted mode (omega arith)

pub wide_short : (bits mode : ℕ) → known_bits bits ≡ true → mode ≤ 3 → 2 ^ mode * (128 / bits) ≤ 256
wide_short bits mode known h =
    let few : 2 ^ mode ≤ 8 = pow_mono {i = mode} {j = 3} h in
    at_known_bits (λ n. 2 ^ mode * (128 / n) ≤ 256) (omega arith) (omega arith) (omega arith) (omega arith) (omega arith) (omega arith) bits known

-- where MN-major is swizzled, LBO is used
pub used_there : (p k : Bool) → (p || k) ≡ false → (p || not k) ≡ true
used_there true k e = absurd (false≢true (sym e))
used_there false true e = absurd (false≢true (sym e))
used_there false false e = refl

-- bits and mode that are not known are refused with 6
pub not_chosen : (bits mode : ℕ) (r : Refusal) → mode_answer bits mode ≡ Err r → (known bits mode ≡ false) × (r ≡ Swizzle)
not_chosen bits mode r e =
    let named = passed_by (known bits mode) e (λ q. apart (cc)) in
    let last = named.1 in
    (named.0, cc)
