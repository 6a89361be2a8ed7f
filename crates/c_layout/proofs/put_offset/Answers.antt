-- One turn writes one offset after those that are there.
use Rattle.std.proofs.Common.{◌≡◌, refl, ◌∙◌, rules, arith, ◌+◌, ◌*◌, ◌<◌, get_or, set, pos, to_z, of_z, w64}
use mir.Facts.{to_z-of_z}
use Rattle.c_layout.specs.Layout.{bits_of}
use Rattle.c_layout.proofs.Laws.{slots_more, of_offset}
use Rattle.c_layout.proofs.put_offset.Goals as goal

pub loop-k-preserved : goal.loop-k-preserved
loop-k-preserved c =
    let l = c.loop-k in
    let offset = c.args.offset in
    let z = get_or offset l.k (pos 0) in
    let small : l.k < 8 = omega (arith, c.loop-k-test.true) in
    let back : to_z w64 (of_z w64 z) ≡ z = search (rules, to_z-of_z) in
    let place : 38 + l.k ≡ 38 + 1 * l.k = omega arith in
    rw (c.bits.ensures, back)
    ((λ j. set (l.invariant j) (place j) (bits_of z)) ∙ slots_more (of_offset offset) 1 (λ _. refl) c.args.card.now 38 l.k small)
