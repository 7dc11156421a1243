-- The lines that the program prints, byte by byte, as a function of the input's bytes; and what `lines` gives and leaves.
use Rattle.std.specs.Prelude.{ℕ, ◌<◌, ◌≡◌, cond, List, ◌++◌, ltb, length, take, drop, replicate, Option, None, Some, Result}
use Rattle.io.specs.Counts.{IsPrefixLen}
use Rattle.jobfile.specs.File.{check_of, name_length, event_count, record_count, event_part}
use Rattle.jobfile.specs.Trace.{event_at}
use Rattle.bytes_at.specs.Put.{Put}
use Rattle.taking.specs.Buffers.{Buffers}
use Rattle.per_record.specs.Lists.{Lists}
use Rattle.per_record.specs.Listed.{pair_in}
use Rattle.per_record.specs.Answers.{records_of}
use Rattle.per_record.specs.Leaves.{Leaves}
use Rattle.per_record.specs.declared.Answer.{Answer}
use Rattle.jobfile.specs.declared.refusal.Refusal.{Refusal}
use Rattle.line.specs.Text.{refusal_text}
use Rattle.lines.specs.Text.{pair_lines, answer_text}

-- "judges all its events": the answer for an input, the buffers and the lists, of which only the lengths count
abbrev pub answer_of : List ℕ → Buffers → Lists → Result Answer Refusal
answer_of input B L = records_of input (event_count (check_of input)) B L

-- the lines of the input's raced records
abbrev pub races_of : List ℕ → List ℕ
races_of input = pair_lines (event_part input) (pair_in (event_at (event_part input)) (event_count (check_of input))) (record_count (check_of input))

-- the whole text
unfoldable pub lines_of : List ℕ → Buffers → Lists → List ℕ
lines_of input B L = answer_text (answer_of input B L) (races_of input) (take (name_length (check_of input)) input)

-- work buffers of 01's lengths, and lists with room for as many records as a job can have
abbrev pub paper_buffers : Buffers
paper_buffers = record { labels = replicate 8192 0; links = replicate 16384 0; places = replicate 16384 0 }

abbrev pub paper_lists : Lists
paper_lists = record { records = replicate 4096 0; firsts = replicate 4096 0; seconds = replicate 4096 0 }

-- What comes back for a text and an output of so many bytes: an output has room for every text, 4,096 lines of at most 97 bytes and a last
-- one of at most 183; or it is called short.
unfoldable pub lined_of : List ℕ → ℕ → Option ℕ
lined_of text room = cond (ltb room 397495) None (Some (length text))

-- what is in the output then: the text and what was there behind it, or all as it was
unfoldable pub out_of : List ℕ → List ℕ → List ℕ
out_of text out = cond (ltb (length out) 397495) out (text ++ drop (length text) out)

-- what is left in the buffers and the lists: as judging every record leaves them; where the output is short nothing is judged
abbrev pub LeavesFor : Option ℕ → List ℕ → Buffers → Lists → Buffers → Lists → Type 0
LeavesFor (Some n) input B₀ L₀ B L = Leaves (answer_of input B₀ L₀) input (event_count (check_of input)) B₀ L₀ B L
LeavesFor None input B₀ L₀ B L = (B ≡ B₀) × (L ≡ L₀)

-- the bounds that a caller needs, of the output afterwards: so many bytes of it are the text, and 397,495 bytes are always enough
abbrev pub LinesFit : Option ℕ → List ℕ → Type 0
LinesFit (Some n) out = IsPrefixLen n out
LinesFit None out = length out < 397495

-- What `lines` gives and leaves for the buffers B₀, the lists L₀ and the output out₀, each entry of each.
pub record LinesGives (input : List ℕ) (B₀ : Buffers) (L₀ : Lists) (out₀ : List ℕ) (r : Option ℕ) (B : Buffers) (L : Lists) (out : List ℕ) : Type 0 where
  pub answer : r ≡ lined_of (lines_of input B₀ L₀) (length out₀)
  pub output : out ≡ out_of (lines_of input B₀ L₀) out₀
  pub leaves : LeavesFor r input B₀ L₀ B L

-- What is put into an output that has room: the text, whose bytes are as many as n says; and what is left in the buffers and the lists.
pub record TextGives (input : List ℕ) (B₀ : Buffers) (L₀ : Lists) (out₀ : List ℕ) (n : ℕ) (B : Buffers) (L : Lists) (out : List ℕ) : Type 0 where
  pub text : Put out₀ 0 (lines_of input B₀ L₀) n out
  pub leaves : Leaves (answer_of input B₀ L₀) input (event_count (check_of input)) B₀ L₀ B L

-- What is left where the input is refused: nothing is put, and the text is the refusal's.
pub record RefusalGives (input : List ℕ) (B₀ : Buffers) (L₀ : Lists) (out₀ : List ℕ) (r : Refusal) (B : Buffers) (L : Lists) (out : List ℕ) : Type 0 where
  pub output : out ≡ out₀
  pub text : refusal_text r ≡ lines_of input B₀ L₀
  pub leaves : Leaves (answer_of input B₀ L₀) input (event_count (check_of input)) B₀ L₀ B L
