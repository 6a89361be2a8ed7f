-- One turn writes the three numbers of one iter after those that are there.
use Rattle.std.proofs.Common.{List, ℕ, ◌≡◌, refl, ap, ◌∙◌, rules, arith, ◌+◌, ◌*◌, ◌<◌, get_or, set, to_z, of_z, w64}
use Rattle.std.proofs.lemmas.List.Edits.{sets}
use mir.Facts.{to_z-of_z}
use Rattle.card.specs.Card.{none}
use Rattle.c_layout.specs.Layout.{bits_of}
use Rattle.c_layout.proofs.Laws.{three, slots_more, of_iter}
use Rattle.c_layout.proofs.put_iters.Goals as goal

pub loop-k-preserved : goal.loop-k-preserved
loop-k-preserved c =
    let l = c.loop-k in
    let at = c.args.iters.at in
    let from = c.args.from in
    let place = from + 1 + 3 * l.k in
    let iter = get_or at l.k none in
    let small : l.k < 8 = omega (arith, c.loop-k-test.true) in
    let back : to_z w64 (of_z w64 iter.stride) ≡ iter.stride = search (rules, to_z-of_z) in
    rw (c.bits-stride.ensures, back) (three l.card place iter.extent (bits_of iter.stride) iter.axis
    ∙ ap (λ (r : List ℕ). sets r place (of_iter at l.k)) l.invariant
    ∙ slots_more (of_iter at) 3 (λ _. refl) (set c.args.card.now from c.args.iters.count) (from + 1) l.k small)
