-- Line and bank of an element address: document 02, request 12, with the banks of source document 004.
use Rattle.std.specs.Prelude.{ℕ, ◌*◌, ◌/◌, ◌%◌, ◌^◌, cond, not, ltb, Result, Err, Ok}
use Rattle.answers.specs.declared.Refusal.{Refusal}
use Rattle.answers.specs.Refusals.{answer, refusal_numbers, numbers_of}
use Rattle.answers.specs.declared.Numbers.{Numbers}
use Rattle.answers.specs.declared.Refusal.TheVariants.{Swizzle, Coordinate}
use Rattle.swizzle.specs.Mode.{known_bits}
use Rattle.banks_judged.specs.declared.BankWord.{BankWord}

-- banks are 4 bytes wide: the bank word is address times bits, divided by 32
abbrev pub bank_word : ℕ → ℕ → ℕ
bank_word bits address = address * bits / 32

-- and 32 to a line
abbrev pub line_and_bank : ℕ → ℕ → BankWord
line_and_bank bits address = record { line = bank_word bits address / 32; bank = bank_word bits address % 32 }

-- the answer to any numbers: bits first, 6; then an address of 2^32 or more, 10
abbrev pub bank_answer : ℕ → ℕ → Result BankWord Refusal
bank_answer bits address =
    cond (not (known_bits bits)) (Err Swizzle)
    (cond (not (ltb address (2 ^ 32))) (Err Coordinate)
    (Ok (line_and_bank bits address)))

-- at number 0 line and bank
abbrev pub word_numbers : BankWord → Numbers
word_numbers word = answer 0 word.line word.bank 0

abbrev pub bank_numbers : Result BankWord Refusal → Numbers
bank_numbers = numbers_of word_numbers
