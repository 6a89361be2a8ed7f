-- `placement::place_packed` is the ladder of checks: the tests that led to each return are the definition's own, and only the last return has written.
use Rattle.std.proofs.Common.{◌≡◌, sym, ap, ◌∙◌, Bool, ℕ, List, ◌++◌, drop, get_or, length, arith}
use Rattle.std.proofs.lemmas.Result.{err_from_is_err_and}
use lib.ListN.{take-append-drop}
use lib.Seq.{length-take-le}
use Rattle.card.specs.Card.{elements, copies}
use Rattle.card.specs.Packed.{card_of, Admits, Whole}
use Rattle.card.specs.declared.Card.{Card}
use Rattle.card.proofs.Admitted.{sized, measured}
use Rattle.answers.specs.Refusals.{no_refusal}
use Rattle.idle.specs.Admission.{full_admission}
use Rattle.idle.proofs.Theorems.{checks_passed}
use Rattle.placement_judged.specs.declared.Tuple.{Tuple}
use Rattle.placement_judged.specs.Placement.{shape_admitted}
use Rattle.placement.proofs.Elements.{named, unnamed, shaped}
use Rattle.placement.proofs.Placings.{not_admitted, not_shaped, not_fitting, too_short, lies_outside, copied}
use Rattle.placement.proofs.place_packed.Goals as goal

-- what an admitted card's numbers say
admits : (numbers : List ℕ) (strides : _) → Whole numbers strides → full_admission (card_of numbers strides) ≡ no_refusal → Admits numbers strides
admits numbers strides whole admitted = record { whole = whole; admitted = checks_passed (card_of numbers strides) admitted }

is_elements : (numbers : List ℕ) (strides : _) → Whole numbers strides → full_admission (card_of numbers strides) ≡ no_refusal
    → get_or numbers 45 0 ≡ elements (card_of numbers strides)
is_elements numbers strides whole admitted = (measured numbers strides (admits numbers strides whole admitted)).elements_are

is_copies : (numbers : List ℕ) (strides : _) → Whole numbers strides → full_admission (card_of numbers strides) ≡ no_refusal
    → get_or numbers 46 0 ≡ copies (card_of numbers strides)
is_copies numbers strides whole admitted = (measured numbers strides (admits numbers strides whole admitted)).copies_are

-- the shape is judged by the card's own elements
shape_judged : (numbers : List ℕ) (strides : _) → Whole numbers strides → full_admission (card_of numbers strides) ≡ no_refusal
    → (shape : Tuple) {r : Bool} → r ≡ shape_admitted shape (get_or numbers 45 0) → shape_admitted shape (elements (card_of numbers strides)) ≡ r
shape_judged numbers strides whole admitted shape e = sym (e ∙ ap (shape_admitted shape) (is_elements numbers strides whole admitted))

pub returns-in_err-admit_packed : goal.returns-in_err-admit_packed
returns-in_err-admit_packed c =
    let a = c.args in
    let p = err_from_is_err_and c.from_residual.result c.from_residual.ensures.1 in
    rw (p.1, p.2)
    (not_admitted (card_of a.numbers.now a.strides.now) a.shape a.coordinates a.memory.now _ (sym c.admit_packed.ensures ∙ c.in_err-admit_packed.was))

pub is_admitted-requires : goal.is_admitted-requires
is_admitted-requires c =
    let a = c.args in
    let admitted = sym c.admit_packed.ensures ∙ c.in_ok-admit_packed.was in
    let n = sized (card_of a.numbers.now a.strides.now) (admits a.numbers.now a.strides.now c.requires admitted).admitted in
    omega (arith, is_elements a.numbers.now a.strides.now c.requires admitted, n.most_elements_lem)

pub returns-then-not-is_admitted : goal.returns-then-not-is_admitted
returns-then-not-is_admitted c =
    let a = c.args in
    let admitted = sym c.admit_packed.ensures ∙ c.in_ok-admit_packed.was in
    not_shaped (card_of a.numbers.now a.strides.now) a.shape a.coordinates a.memory.now admitted
    (shape_judged a.numbers.now a.strides.now c.requires admitted a.shape c.is_admitted.ensures ∙ c.if-not-is_admitted.true)

pub flatten-found-requires : goal.flatten-found-requires
flatten-found-requires c =
    let a = c.args in
    let card = card_of a.numbers.now a.strides.now in
    let admitted = sym c.admit_packed.ensures ∙ c.in_ok-admit_packed.was in
    let n = sized card (admits a.numbers.now a.strides.now c.requires admitted).admitted in
    let fits = shape_judged a.numbers.now a.strides.now c.requires admitted a.shape c.is_admitted.ensures ∙ c.if-not-is_admitted.false in
    shaped a.shape (elements card) n.some_elements n.most_elements_lem fits

pub returns-in_default : goal.returns-in_default
returns-in_default c =
    let a = c.args in
    let card = card_of a.numbers.now a.strides.now in
    let admitted = sym c.admit_packed.ensures ∙ c.in_ok-admit_packed.was in
    let fits = shape_judged a.numbers.now a.strides.now c.requires admitted a.shape c.is_admitted.ensures ∙ c.if-not-is_admitted.false in
    not_fitting card a.shape a.coordinates a.memory.now admitted fits (unnamed a.shape a.coordinates (sym c.flatten-found.ensures ∙ c.in_default.is))

pub returns-then-memory-copies : goal.returns-then-memory-copies
returns-then-memory-copies c =
    let a = c.args in
    let card = card_of a.numbers.now a.strides.now in
    let admitted = sym c.admit_packed.ensures ∙ c.in_ok-admit_packed.was in
    let fits = shape_judged a.numbers.now a.strides.now c.requires admitted a.shape c.is_admitted.ensures ∙ c.if-not-is_admitted.false in
    let it = named a.shape a.coordinates c.in-Some.flat (sym c.flatten-found.ensures ∙ c.in-Some.is) in
    too_short card a.shape a.coordinates a.memory.now admitted fits c.in-Some.flat it _ (is_copies a.numbers.now a.strides.now c.requires admitted) c.if-memory-copies.true

pub place_cells-axis-requires : goal.place_cells-axis-requires
place_cells-axis-requires c =
    let a = c.args in
    let admitted = sym c.admit_packed.ensures ∙ c.in_ok-admit_packed.was in (
      admits a.numbers.now a.strides.now c.requires admitted,
      length-take-le _ a.memory.now c.if-memory-copies.false ∙ is_copies a.numbers.now a.strides.now c.requires admitted,
    )

pub returns-then-axis-lt-AXES : goal.returns-then-axis-lt-AXES
returns-then-axis-lt-AXES c =
    let a = c.args in
    let card = card_of a.numbers.now a.strides.now in
    let admitted = sym c.admit_packed.ensures ∙ c.in_ok-admit_packed.was in
    let fits = shape_judged a.numbers.now a.strides.now c.requires admitted a.shape c.is_admitted.ensures ∙ c.if-not-is_admitted.false in
    let it = named a.shape a.coordinates c.in-Some.flat (sym c.flatten-found.ensures ∙ c.in-Some.is) in
    let n = get_or a.numbers.now 46 0 in
    rw (ap (λ (l : List ℕ). l ++ drop n a.memory.now) (c.place_cells-axis.ensures.refused c.if-axis-lt-AXES.true) ∙ take-append-drop n a.memory.now)
    (lies_outside card a.shape a.coordinates a.memory.now admitted fits c.in-Some.flat it n c.place_cells-axis.result
    (is_copies a.numbers.now a.strides.now c.requires admitted) c.if-memory-copies.false c.place_cells-axis.ensures.smallest_axis c.if-axis-lt-AXES.true)

pub returns : goal.returns
returns c =
    let a = c.args in
    let card = card_of a.numbers.now a.strides.now in
    let admitted = sym c.admit_packed.ensures ∙ c.in_ok-admit_packed.was in
    let fits = shape_judged a.numbers.now a.strides.now c.requires admitted a.shape c.is_admitted.ensures ∙ c.if-not-is_admitted.false in
    let it = named a.shape a.coordinates c.in-Some.flat (sym c.flatten-found.ensures ∙ c.in-Some.is) in
    let n = get_or a.numbers.now 46 0 in
    copied card a.shape a.coordinates a.memory.now admitted fits c.in-Some.flat it n c.place_cells-axis.result
    (is_copies a.numbers.now a.strides.now c.requires admitted) c.if-memory-copies.false c.place_cells-axis.ensures.smallest_axis c.if-axis-lt-AXES.false
    (ap (λ (l : List ℕ). l ++ drop n a.memory.now) (c.place_cells-axis.ensures.placed c.if-axis-lt-AXES.false))
