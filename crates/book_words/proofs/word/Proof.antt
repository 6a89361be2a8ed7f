-- `book_words::word` goes by where the word lies.
use Prim.Native.Nat.{◌-◌}
use mathlib.Core.Path.{◌≡◌, ap, ◌∙◌}
use lib.IntN.{pos}
use lib.ListN.{get_or}
use mir.Syntax.{w64}
use mir.Facts.{to_z-of_z}
use Rattle.book.specs.Bytes.{twos}
use borrow.Author.Tests.{lt-ltb, le-ltb}
use native.Mathlib.Omega.{arith}
use borrow.Author.Rules.{rules}
use Rattle.book_words.proofs.word.Statement.{statement}
use Rattle.book_words.proofs.word.Tie as tie

returns : tie.Need-returns-then-i-lt2
returns c = let t = c in rw (lt-ltb t.args.i 2 t.if-i-lt2.true) c.first_word.ensures

returns_2 : tie.Need-returns-then-i-lt26
returns_2 c =
    let two = c in
    let one = two in
    let i = one.args.i in
    rw (le-ltb i 2 one.if-i-lt2.false, lt-ltb i 26 two.if-i-lt26.true) c.slot_word.ensures

returns_3 : tie.Need-returns-then-i-lt38
returns_3 c =
    let three = c in
    let two = three in
    let one = two in
    let i = one.args.i in
    rw (le-ltb i 2 one.if-i-lt2.false, le-ltb i 26 two.if-i-lt26.false, lt-ltb i 38 three.if-i-lt38.true) c.slot_word-then-i-lt38.ensures

returns_4 : tie.Need-returns-then-i-lt46
returns_4 c =
    let four = c in
    let three = four in
    let two = three in
    let one = two in
    let i = one.args.i in
    rw (le-ltb i 2 one.if-i-lt2.false, le-ltb i 26 two.if-i-lt26.false, le-ltb i 38 three.if-i-lt38.false, lt-ltb i 46 four.if-i-lt46.true)
    (c.twos.ensures.0 ∙ ap twos (to_z-of_z {w = w64} {z = get_or one.args.card.offset (i - 38) (pos 0)} (record { sfits = c.twos-arg-1.given })))

returns_5 : tie.Need-returns
returns_5 c =
    let four = c in
    let three = four in
    let two = three in
    let one = two in
    let i = one.args.i in
    rw (le-ltb i 2 one.if-i-lt2.false, le-ltb i 26 two.if-i-lt26.false, le-ltb i 38 three.if-i-lt38.false, le-ltb i 46 four.if-i-lt46.false)

pub word_spec : {M : Type 1} → statement M
word_spec = tie.close (tie.spec (λ c κs. search rules) returns (λ c κs. search rules) returns_2 (λ c κs. search rules) returns_3 (λ c. omega arith) (λ c. search rules) (λ c κs. search rules) returns_4 (λ c. omega arith) (λ c. search rules) returns_5)
