-- The one line that the program prints, byte by byte, as a function of the input's bytes; and what `line` gives and leaves.
use Rattle.std.specs.Prelude.{ℕ, ◌<◌, ◌≡◌, cond, List, ◌++◌, ltb, length, take, drop, Option, None, Some, Result}
use Rattle.io.specs.Counts.{IsPrefixLen}
use Rattle.jobfile.specs.File.{check_of, name_length, event_count, event_part}
use Rattle.judging.specs.Answers.{judge_of}
use Rattle.judging.specs.Leaves.{Leaves}
use Rattle.jobfile.specs.declared.refusal.Refusal.{Refusal}
use Rattle.judging.specs.declared.Answer.{Answer}
use Rattle.taking.specs.Buffers.{Buffers}
use Rattle.line.specs.Text.{answer_text}

-- "judges all its events": the answer for an input and the lengths of labels, links and places
abbrev pub answer_of : List ℕ → ℕ → ℕ → ℕ → Result Answer Refusal
answer_of input labels links places = judge_of input (event_count (check_of input)) labels links places

unfoldable pub line_of : List ℕ → ℕ → ℕ → ℕ → List ℕ
line_of input labels links places =
    answer_text (answer_of input labels links places) (event_part input) (take (name_length (check_of input)) input)

-- with the buffers that are lent
abbrev pub judge_all_with : List ℕ → Buffers → Result Answer Refusal
judge_all_with input B = answer_of input (length B.labels) (length B.links) (length B.places)

abbrev pub line_with : List ℕ → Buffers → List ℕ
line_with input B = line_of input (length B.labels) (length B.links) (length B.places)

-- what comes back for a line and an output of so many bytes
unfoldable pub lined_of : List ℕ → ℕ → Option ℕ
lined_of line room = cond (ltb room (length line)) None (Some (length line))

-- what is in the output then: the line and what was there behind it, or all as it was
unfoldable pub out_of : List ℕ → List ℕ → List ℕ
out_of line out = cond (ltb (length out) (length line)) out (line ++ drop (length line) out)

-- the bounds that a caller needs, of the output afterwards: so many bytes of it are the line, and 256 bytes are always enough
abbrev pub LineFits : Option ℕ → List ℕ → Type 0
LineFits (Some n) out = IsPrefixLen n out
LineFits None out = length out < 256

-- What `line` gives and leaves for the work buffers B₀ and the output out₀, each entry of each.
pub record LineGives (input : List ℕ) (B₀ : Buffers) (out₀ : List ℕ) (r : Option ℕ) (B : Buffers) (out : List ℕ) : Type 0 where
  pub answer : r ≡ lined_of (line_with input B₀) (length out₀)
  pub output : out ≡ out_of (line_with input B₀) out₀
  pub buffers : Leaves (judge_all_with input B₀) input (event_count (check_of input)) B₀ B

-- What is judged for the line: its text, and what is left in the work buffers.
pub record TextGives (input : List ℕ) (B₀ : Buffers) (text : List ℕ) (B : Buffers) : Type 0 where
  pub line : text ≡ line_with input B₀
  pub buffers : Leaves (judge_all_with input B₀) input (event_count (check_of input)) B₀ B
