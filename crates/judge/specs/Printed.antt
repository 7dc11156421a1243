-- What the program prints for what it read.
use Rattle.std.specs.Prelude.{ℕ, cond, List, ltb, length}
use Rattle.line.specs.Text.{ascii}
use Rattle.line.specs.Line.{line_of}

-- "The program takes 65,536 bytes at most from standard input and otherwise prints `too long`"; otherwise the line, judged in the program's
-- own work buffers
unfoldable pub printed_of : List ℕ → List ℕ
printed_of input = cond (ltb 65536 (length input)) (ascii "too long\n") (line_of input 8192 16384 16384)
