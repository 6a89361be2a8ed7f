-- The question over the canonical layouts: document 02, request 7. Its checks, the card that is built, and what is reported of the verdict on it.
use Rattle.std.specs.Prelude.{◌≡◌, Bool, false, cond, not, ◌&&◌, ◌||◌, List, [], ◌∷◌, ◌++◌, ℕ, ◌*◌, ◌/◌, ◌%◌, eqb, leb, ltb, pos, replicate, Result, ⊤, Err, Ok}
use Rattle.answers.specs.Refusals.{no_refusal}
use Rattle.judgement.specs.declared.Approved.{Approved}
use Rattle.answers.specs.declared.Numbers.{Numbers}
use Rattle.answers.specs.declared.Refusal.{Refusal}
use Rattle.answers.specs.declared.Refusal.TheVariants.{Swizzle, Canonical as NotCanonical}
use Rattle.swizzle.specs.Mode.{known, swizzle_of_mode}
use Rattle.card.specs.Lists.{within}
use Rattle.card.specs.Limits.{last_axis}
use Rattle.card.specs.Card.{counted, no_card}
use Rattle.card.specs.declared.Iter.{Iter}
use Rattle.card.specs.declared.Card.{Card}
use Rattle.judgement.specs.Plain.{VerdictSays}
use Rattle.judgement.specs.Verdict.{verdict_numbers}
use Rattle.canonical.specs.Rule.{CuTeLayout, uses_lbo, rule}
use Rattle.canonical.specs.declared.Canonical.{Canonical}
use Rattle.canonical.specs.declared.Built.{Built}
use Rattle.canonical.specs.declared.Reported.{Reported}

-- byte strides must be multiples of 16 and below 262,144
abbrev pub stride_fits : ℕ → Bool
stride_fits bytes = eqb (bytes % 16) 0 && ltb bytes 262144

-- major-ness K or MN, m and k 1 to 8, and the byte strides, where an unused LBO isn't looked at
abbrev pub fits : Canonical → Bool
fits a =
    leb a.major 1
    && within 1 8 a.m
    && within 1 8 a.k
    && (not (uses_lbo a.major a.mode) || stride_fits a.lbo)
    && stride_fits a.sbo

-- bits or mode go to 6, judged first; then 22
abbrev pub checked : Canonical → Result ⊤ Refusal
checked a = cond (not (known a.bits a.mode)) (Err Swizzle) (cond (not (fits a)) (Err NotCanonical) no_refusal)

-- a byte stride in elements
abbrev pub in_elements : ℕ → ℕ → ℕ
in_elements bits bytes = bytes * 8 / bits

-- the layout: T is 128 / bits
abbrev pub cute_of : Canonical → CuTeLayout
cute_of a = rule a.major a.mode (128 / a.bits) a.m a.k (in_elements a.bits a.lbo) (in_elements a.bits a.sbo)

-- an extent by a stride on axis m
abbrev pub on_m : ℕ → ℕ → Iter
on_m extent stride = record { extent = extent; stride = pos stride; axis = last_axis }

-- a CuTe mode turned round, the outermost first, before further iters
abbrev pub turned : List ℕ → List ℕ → List Iter → List Iter
turned [] strides iters = iters
turned (extent ∷ extents) [] iters = iters
turned (extent ∷ extents) (stride ∷ strides) iters = turned extents strides (on_m extent stride ∷ iters)

-- rows first, then columns
abbrev pub shard_of : CuTeLayout → List Iter
shard_of l = turned l.rows l.row_strides (turned l.columns l.column_strides [])

-- the card: the shard alone, on axis m, whose length is given, under the mode's swizzle
abbrev pub canonical_card : Canonical → Card
canonical_card a = record {
  shard = counted (shard_of (cute_of a));
  marks = replicate 8 false;
  replica = counted [];
  offset = replicate 8 (pos 0);
  lengths = replicate 7 1 ++ a.length ∷ [];
  swizzle = swizzle_of_mode a.bits a.mode;
}

-- and a card of zeros where it is refused
abbrev pub refused_by : Refusal → Built
refused_by refusal = record { answer = Err refusal; card = no_card }

abbrev pub built_by : Result ⊤ Refusal → Canonical → Built
built_by (Ok _) a = record { answer = no_refusal; card = canonical_card a }
built_by (Err refusal) a = refused_by refusal

abbrev pub built : Canonical → Built
built a = built_by (checked a) a

-- LBO and SBO divided by 16; where LBO isn't used, 1; both 0 when refused
abbrev pub encoded_lbo : Canonical → ℕ
encoded_lbo a = cond (uses_lbo a.major a.mode) (a.lbo / 16) 1

abbrev pub reported : Canonical → Result Approved Refusal → Reported
reported a (Ok approval) = record {
  verdict = Ok approval;
  lbo = encoded_lbo a;
  sbo = a.sbo / 16;
}
reported a (Err refusal) = record { verdict = Err refusal; lbo = 0; sbo = 0 }

-- the promise: where the checks are passed the verdict on the card, else the refusal and an untouched table
abbrev pub PromiseBy : Result ⊤ Refusal → Canonical → List ℕ → List ℕ → Reported → Type 0
PromiseBy (Ok _) a before after r = VerdictSays (canonical_card a) before after r.verdict × (r ≡ reported a r.verdict)
PromiseBy (Err refusal) a before after r = (r ≡ reported a (Err refusal)) × (after ≡ before)

abbrev pub CanonicalPromise : Canonical → List ℕ → List ℕ → Reported → Type 0
CanonicalPromise a before after r = PromiseBy (checked a) a before after r

-- number and details are the verdict's
abbrev pub reported_numbers : Reported → Numbers
reported_numbers r = verdict_numbers r.verdict
