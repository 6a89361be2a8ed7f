-- `c_packed::pack` puts one column after the other: then the card can be read back.
use mathlib.Core.Path.{◌≡◌, refl, ap, ◌∙◌}
use mathlib.Core.List.{List}
use Prim.Native.Nat.{ℕ, ◌+◌, ◌*◌, ◌<◌}
use native.Mathlib.Omega.{arith}
use borrow.Author.Rules.{rules}
use lib.IntN.{ℤ, pos}
use lib.ListN.{length, get_or, get_or-replicate}
use Rattle.card.specs.Packed.{last_column}
use Rattle.c_card.specs.Card.{signed64, card_from}
use Rattle.c_packed.proofs.Puts.{Upto, upto_none, upto_more, upto_all, entry_at}
use Rattle.c_packed.proofs.Columns.{slot, number_from, stride_from, packs_from}
use Rattle.c_packed.proofs.pack.Statement.{statement}
use Rattle.c_packed.proofs.pack.Tie as tie

-- the signed columns before one were put, and the unsigned ones
abbrev Strides : tie.Start → ℕ → List ℤ → Type 0
Strides s column l = let a = s.args in Upto (pos 0) (stride_from a.card.now a.bits) 3 a.strides.now column l

abbrev Numbers : tie.Start → ℕ → List ℕ → Type 0
Numbers s column l = let a = s.args in Upto 0 (number_from a.card.now a.bits (last_column (card_from a.card.now a.bits))) 7 a.numbers.now column l

-- what is read of the card
abbrev read : tie.Start → ℕ → ℕ
read s at = get_or s.args.card.now at 0

abbrev s0 : tie.After-put_signed → tie.Start
s0 c = c.before.before.before

strides_1 : (c : tie.After-put_signed) → Strides (s0 c) 1 c.put_signed.new.strides
strides_1 c =
    upto_more (pos 0) _ 3 _ 0 (upto_none (pos 0) _ 3 _ (s0 c).requires.1) c.put_signed.ensures
    (λ j h. ap signed64 (entry_at (λ (k : ℕ). read (s0 c) (2 + 3 * k)) c.of_shard.ensures j h))

abbrev s1 : tie.After-put_signed-2 → tie.Start
s1 c = s0 c.before.before.before

strides_2 : (c : tie.After-put_signed-2) → Strides (s1 c) 2 c.put_signed-2.new.strides
strides_2 c =
    upto_more (pos 0) _ 3 _ 1 (strides_1 c.before.before.before) c.put_signed-2.ensures
    (λ j h. ap signed64 (entry_at (slot (s1 c).args.card.now (s1 c).args.bits 27) c.of_replica.ensures j h))

abbrev s2 : tie.After-put_signed-3 → tie.Start
s2 c = s1 c.before.before.before

strides_3 : (c : tie.After-put_signed-3) → Strides (s2 c) 3 c.put_signed-3.new.strides
strides_3 c =
    upto_more (pos 0) _ 3 _ 2 (strides_2 c.before.before.before) c.put_signed-3.ensures
    (λ j h. ap signed64 (entry_at (λ (k : ℕ). read (s2 c) (38 + k)) c.of_axes.ensures j h))

abbrev s3 : tie.After-put → tie.Start
s3 c = s2 c.before.before.before

numbers_1 : (c : tie.After-put) → Numbers (s3 c) 1 c.put.new.numbers
numbers_1 c = upto_more 0 _ 7 _ 0 (upto_none 0 _ 7 _ (ap length (s3 c).requires.0)) c.put.ensures (entry_at (λ (k : ℕ). read (s3 c) (1 + 3 * k)) c.of_shard-2.ensures)

abbrev s4 : tie.After-put-2 → tie.Start
s4 c = s3 c.before.before.before

numbers_2 : (c : tie.After-put-2) → Numbers (s4 c) 2 c.put-2.new.numbers
numbers_2 c = upto_more 0 _ 7 _ 1 (numbers_1 c.before.before.before) c.put-2.ensures (entry_at (λ (k : ℕ). read (s4 c) (3 + 3 * k)) c.of_shard-3.ensures)

abbrev s5 : tie.After-put-3 → tie.Start
s5 c = s4 c.before.before.before

numbers_3 : (c : tie.After-put-3) → Numbers (s5 c) 3 c.put-3.new.numbers
numbers_3 c = upto_more 0 _ 7 _ 2 (numbers_2 c.before.before.before) c.put-3.ensures (entry_at (slot (s5 c).args.card.now (s5 c).args.bits 26) c.of_replica-2.ensures)

abbrev s6 : tie.After-put-4 → tie.Start
s6 c = s5 c.before.before.before

numbers_4 : (c : tie.After-put-4) → Numbers (s6 c) 4 c.put-4.new.numbers
numbers_4 c = upto_more 0 _ 7 _ 3 (numbers_3 c.before.before.before) c.put-4.ensures (entry_at (slot (s6 c).args.card.now (s6 c).args.bits 28) c.of_replica-3.ensures)

abbrev s7 : tie.After-put-5 → tie.Start
s7 c = s6 c.before.before.before

numbers_5 : (c : tie.After-put-5) → Numbers (s7 c) 5 c.put-5.new.numbers
numbers_5 c = upto_more 0 _ 7 _ 4 (numbers_4 c.before.before.before) c.put-5.ensures (entry_at (λ (k : ℕ). read (s7 c) (46 + k)) c.of_axes-2.ensures)

abbrev s8 : tie.After-put-6 → tie.Start
s8 c = s7 c.before.before.before

numbers_6 : (c : tie.After-put-6) → Numbers (s8 c) 6 c.put-6.new.numbers
numbers_6 c = upto_more 0 _ 7 _ 5 (numbers_5 c.before.before.before) c.put-6.ensures (λ j h. ap (λ (l : List ℕ). get_or l j 0) c.last_column.ensures)

abbrev s9 : tie.After-put_marks → tie.Start
s9 c = s8 c.before.before

numbers_7 : (c : tie.After-put_marks) → Numbers (s9 c) 7 c.put_marks.new.numbers
numbers_7 c = upto_more 0 _ 7 _ 6 (numbers_6 c.before.before) c.put_marks.ensures (λ j h. refl)

-- the marks are as they were: cleared
cleared : (c : tie.After-put-6) (k : ℕ) → k < 8 → get_or c.put-6.new.numbers (48 + k) 0 ≡ 0
cleared c k h =
    (numbers_6 c).later 6 k (omega arith) h ∙ ap (λ (l : List ℕ). get_or l (48 + k) 0) (s8 c).requires.0 ∙ get_or-replicate 56 (48 + k) 0 0 (omega arith)

returns : tie.Need-returns
returns c =
    let a = (s9 c).args in
    packs_from a.card.now a.bits (upto_all 0 _ 7 _ (numbers_7 c)) (upto_all (pos 0) _ 3 _ (strides_3 c.before.before.before.before.before.before.before.before.before.before.before.before.before.before.before.before.before.before.before.before))

pub pack_spec : {M : Type 1} → statement M
pack_spec =
    tie.close
    (tie.spec (λ c. search rules) (λ c κs. search rules) (λ c κs. (c.requires.1, omega arith)) (λ c. search rules) (λ c κs. search rules) (λ c κs. ((strides_1 c.before.before).whole, omega arith)) (λ c κs. search rules) (λ c κs. ((strides_2 c.before.before).whole, omega arith)) (λ c κs. search rules) (λ c κs. (ap length (s2 c.before.before).requires.0, omega arith)) (λ c. search rules) (λ c κs. search rules) (λ c κs. ((numbers_1 c.before.before).whole, omega arith)) (λ c κs. search rules) (λ c κs. ((numbers_2 c.before.before).whole, omega arith)) (λ c. search rules) (λ c κs. search rules) (λ c κs. ((numbers_3 c.before.before).whole, omega arith)) (λ c κs. search rules) (λ c κs. ((numbers_4 c.before.before).whole, omega arith)) (λ c κs. search rules) (λ c κs. ((numbers_5 c.before.before).whole, omega arith)) (λ c κs. ((numbers_6 c.before).whole, cleared c.before)) returns)
