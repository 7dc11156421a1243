-- What the program prints for what it read.
use Rattle.std.specs.Prelude.{ℕ, cond, List, ltb, length}
use Rattle.line.specs.Text.{ascii}
use Rattle.lines.specs.Lines.{lines_of, paper_buffers, paper_lists}

-- "The program takes 65,536 bytes at most from standard input and otherwise prints `too long`"; otherwise the lines, judged in the
-- program's own work buffers and lists, of which only the lengths count
unfoldable pub printed_of : List ℕ → List ℕ
printed_of input = cond (ltb 65536 (length input)) (ascii "too long\n") (lines_of input paper_buffers paper_lists)
