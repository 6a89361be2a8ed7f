-- `book_blocks::body_byte` goes by where the byte lies.
use mathlib.Core.Path.{sym}
use borrow.Author.Tests.{lt-ltb, le-ltb}
use lib.ListN.{get_or-eq_default}
use native.Mathlib.Omega.{arith}
use borrow.Author.Rules.{rules}
use Rattle.book_blocks.proofs.body_byte.Statement.{statement}
use Rattle.book_blocks.proofs.body_byte.Tie as tie
use Rattle.book_blocks.proofs.body_byte.Reads as reads
use Rattle.book_blocks.proofs.body_byte.Lts as lts

mul_result : tie.Need-offset_bounds-words-j
mul_result c = search rules

element_copy_out_result : tie.Need-bounds-words-j
element_copy_out_result c = search rules

mul_result_2 : tie.Need-overflow_mul-result
mul_result_2 c = search rules

shr_result : tie.Need-overflow_shr-result
shr_result c = search rules

cast_result : tie.Need-overflow_cast-result
cast_result c = search rules

returns : tie.Need-returns-then-j-lt-NOTE
returns c = rw (lt-ltb c.args.j 216 c.if-j-lt-NOTE.true)

shared_slice_read_result : tie.Need-bounds-note-k
shared_slice_read_result c = search rules

returns_2 : tie.Need-returns-then-k-note
returns_2 c = rw (le-ltb c.args.j 216 c.if-j-lt-NOTE.false)

returns_3 : tie.Need-returns
returns_3 c =
    let s = c in
    rw (le-ltb s.args.j 216 c.if-j-lt-NOTE.false) (sym (get_or-eq_default s.args.note.now 0 c.if-k-note.false))

pub body_byte_spec : {M : Type 1} → statement M
body_byte_spec =
    tie.close
    (tie.spec
    mul_result
    element_copy_out_result
    mul_result_2
    shr_result
    cast_result
    returns
    shared_slice_read_result
    returns_2
    returns_3)
