-- The reader of a line as a machine. Nothing here has to be believed: it is what the functions of the reader promise each other.
use Rattle.std.specs.Prelude.{ℕ, ◌+◌, ◌*◌, Bool, true, false, cond, ◌&&◌, List, ltb, eqb, set, replicate}
use Rattle.notation.specs.Machine.{digit_of, continues}
use Rattle.typed_lengths.specs.declared.LinePhase.{LinePhase}
use Rattle.typed_lengths.specs.declared.LinePhase.TheVariants.{Before, Inside, Stuck}
use Rattle.typed_lengths.specs.declared.LineReader.{LineReader}
use Rattle.typed_lengths.specs.declared.LineOfLengths.{LineOfLengths}

abbrev pub line_at : LinePhase → ℕ → ℕ → List ℕ → LineReader
line_at phase value count lengths = record { phase = phase; value = value; count = count; lengths = lengths }

abbrev pub zeros : List ℕ
zeros = replicate 8 0

abbrev pub halted : LineReader
halted = line_at Stuck 0 0 zeros

abbrev pub line_start : LineReader
line_start = line_at Before 0 0 zeros

abbrev pub before_move : LineReader → ℕ → LineReader
before_move r b = cond (ltb (digit_of b) 10) (line_at Inside (digit_of b) r.count r.lengths) halted

abbrev pub inside_move : LineReader → ℕ → LineReader
inside_move r b =
    cond (continues r.value (digit_of b)) (line_at Inside (r.value * 10 + digit_of b) r.count r.lengths)
    (cond (eqb b 32 && ltb r.count 7) (line_at Before 0 (r.count + 1) (set r.lengths r.count r.value)) halted)

abbrev pub line_phase_move : LinePhase → LineReader → ℕ → LineReader
line_phase_move Before r b = before_move r b
line_phase_move Inside r b = inside_move r b
line_phase_move Stuck r b = halted

unfoldable pub line_stepped : LineReader → ℕ → LineReader
line_stepped r b = line_phase_move r.phase r b

abbrev pub is_inside : LinePhase → Bool
is_inside Before = false
is_inside Inside = true
is_inside Stuck = false

abbrev pub line_concluded : LineReader → LineOfLengths
line_concluded r =
    cond (is_inside r.phase && eqb r.count 7) (record { correct = true; lengths = set r.lengths 7 r.value })
    (record { correct = false; lengths = zeros })
