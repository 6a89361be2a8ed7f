-- `reading_letters::expected` is the definition: in each arm the letter is that of the words, and past them there is none.
use Prim.Native.Nat.{◌%◌}
use mathlib.Core.Path.{sym}
use native.Mathlib.Omega.{arith}
use Rattle.reading_letters.proofs.Words.{no_letter}
use Rattle.reading_letters.proofs.expected.Statement.{statement}
use Rattle.reading_letters.proofs.expected.Tie as tie

returns_25 : tie.Need-returns-in_default
returns_25 c =
    let r = c.in_default.in_default-own.rest in
    sym
    (no_letter (c.args.owed % 64) (omega arith)
    r.0.0.0.0.0.0.0.0.0.0.0.0.0.0.0.0.0.0.0.0.0.0.0.1 r.0.0.0.0.0.0.0.0.0.0.0.0.0.0.0.0.0.0.0.0.0.0.1 r.0.0.0.0.0.0.0.0.0.0.0.0.0.0.0.0.0.0.0.0.0.1
    r.0.0.0.0.0.0.0.0.0.0.0.0.0.0.0.0.0.0.0.0.1 r.0.0.0.0.0.0.0.0.0.0.0.0.0.0.0.0.0.0.0.1 r.0.0.0.0.0.0.0.0.0.0.0.0.0.0.0.0.0.0.1
    r.0.0.0.0.0.0.0.0.0.0.0.0.0.0.0.0.0.1 r.0.0.0.0.0.0.0.0.0.0.0.0.0.0.0.0.1 r.0.0.0.0.0.0.0.0.0.0.0.0.0.0.0.1 r.0.0.0.0.0.0.0.0.0.0.0.0.0.0.1
    r.0.0.0.0.0.0.0.0.0.0.0.0.0.1 r.0.0.0.0.0.0.0.0.0.0.0.0.1 r.0.0.0.0.0.0.0.0.0.0.0.1 r.0.0.0.0.0.0.0.0.0.0.1
    r.0.0.0.0.0.0.0.0.0.1 r.0.0.0.0.0.0.0.0.1 r.0.0.0.0.0.0.0.1 r.0.0.0.0.0.0.1 r.0.0.0.0.0.1
    r.0.0.0.0.1 r.0.0.0.1 r.0.0.1 r.0.1 r.1)

pub expected_spec : {M : Type 1} → statement M
expected_spec =
    tie.close
    (tie.spec
    (λ c. rw c.in-1.is) (λ c. rw c.in-2.is) (λ c. rw c.in-4.is) (λ c. rw c.in-5.is) (λ c. rw c.in-6.is) (λ c. rw c.in-7.is)
    (λ c. rw c.in-8.is) (λ c. rw c.in-10.is) (λ c. rw c.in-11.is) (λ c. rw c.in-12.is) (λ c. rw c.in-13.is) (λ c. rw c.in-14.is)
    (λ c. rw c.in-16.is) (λ c. rw c.in-17.is) (λ c. rw c.in-18.is) (λ c. rw c.in-20.is) (λ c. rw c.in-21.is) (λ c. rw c.in-23.is)
    (λ c. rw c.in-24.is) (λ c. rw c.in-25.is) (λ c. rw c.in-27.is) (λ c. rw c.in-28.is) (λ c. rw c.in-30.is) (λ c. rw c.in-32.is)
    returns_25)
