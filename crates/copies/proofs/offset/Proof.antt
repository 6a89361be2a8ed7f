-- `copies::offset` reads the eight signed numbers from the sixteenth on.
use mathlib.Core.Path.{◌≡◌, sym}
use Prim.Native.Nat.{◌+◌}
use borrow.Author.Rules.{rules}
use lib.IntN.{pos}
use lib.ListN.{length, get_or}
use lib.Seq.{slice, length-slice}
use native.Mathlib.Omega.{arith}
use mir.Syntax.{w64}
use mir.Facts.{to_z-of_z}
use Rattle.card.proofs.ReadBack.{eight_slots, slice_at}
use Rattle.copies.proofs.offset.Statement.{statement}
use Rattle.copies.proofs.offset.Tie as tie

returns : tie.Need-returns
returns c =
    let l = c.args.strides.now in
    let all = c.requires in
    rw (
      to_z-of_z {w = w64} {z = get_or l 16 (pos 0)} (record { sfits = c.result-1.given }),
      to_z-of_z {w = w64} {z = get_or l 17 (pos 0)} (record { sfits = c.result-2-1.given }),
      to_z-of_z {w = w64} {z = get_or l 18 (pos 0)} (record { sfits = c.result-3-1.given }),
      to_z-of_z {w = w64} {z = get_or l 19 (pos 0)} (record { sfits = c.result-4-1.given }),
      to_z-of_z {w = w64} {z = get_or l 20 (pos 0)} (record { sfits = c.result-5-1.given }),
      to_z-of_z {w = w64} {z = get_or l 21 (pos 0)} (record { sfits = c.result-6-1.given }),
      to_z-of_z {w = w64} {z = get_or l 22 (pos 0)} (record { sfits = c.result-7-1.given }),
      to_z-of_z {w = w64} {z = get_or l 23 (pos 0)} (record { sfits = c.result-8-1.given }),
    )
    (sym (eight_slots (λ k. get_or l (16 + k) (pos 0)) (pos 0) (slice 16 24 l) (length-slice 16 24 l (omega arith)) (λ k h. slice_at l 16 24 (pos 0) k (omega arith))))

pub offset_spec : {M : Type 1} → statement M
offset_spec =
    tie.close
    (tie.spec (λ c. search rules) (λ c. search rules) (λ c. search rules) (λ c. search rules) (λ c. search rules) (λ c. search rules)
    (λ c. search rules) (λ c. search rules) returns)
