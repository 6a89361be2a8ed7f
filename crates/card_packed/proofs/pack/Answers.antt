-- `card_packed::pack` writes the ten columns of a card side by side: a turn writes one entry of each, and after eight turns the card can be read back.
use Rattle.std.proofs.Common.{arith, rules, ◌≡◌, refl, ◌<◌, get_or, Bool, true, false}
use lib.IntN.{pos}
use mir.Syntax.{w64}
use mir.Val.{bool_byte}
use mir.Facts.{to_z-of_z}
use Rattle.laws.proofs.Lists.{length_of}
use Rattle.laws.proofs.Columns.{filled_more}
use Rattle.card.specs.Card.{none, mark_number}
use Rattle.card.proofs.ReadBack.{OfEight, packs}
use Rattle.card_packed.proofs.pack.Goals as goal

marked : (mark : Bool) → bool_byte mark ≡ mark_number mark
marked true = refl
marked false = refl

pub loop-k-preserved : goal.loop-k-preserved
loop-k-preserved c =
    let card = c.args.card in
    let l = c.loop-k in
    let shard_back = to_z-of_z {w = w64} {z = (get_or card.shard.at l.k none).stride} (record { sfits = c.struct_told-1.given.1.0.1 }) in
    let replica_back = to_z-of_z {w = w64} {z = (get_or card.replica.at l.k none).stride} (record { sfits = c.struct_told-in-loop-k-1.given.1.0.1 }) in
    let offset_back = to_z-of_z {w = w64} {z = get_or card.offset l.k (pos 0)} (record { sfits = c.strides-1.given }) in
    let small : l.k < 8 = omega arith in record {
      numbers = rw (c.from.ensures, marked) (filled_more 0 _ 7 l.k small l.invariant.numbers);
      strides = rw (shard_back, replica_back, offset_back) (filled_more (pos 0) _ 3 l.k small l.invariant.strides);
    }

pub returns : goal.returns
returns c =
    let card = c.args.card in
    let l = c.loop-k in
    let done : l.k ≡ 8 = omega arith in
    let eight : OfEight card = record {
      shard = search (rules, length_of);
      marks = search rules;
      replica = search (rules, length_of);
      offset = search rules;
      lengths = search rules;
    } in
    packs card eight (rw (done, c.last_column-last.ensures) at l.invariant.numbers) (rw done at l.invariant.strides)
