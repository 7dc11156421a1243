-- The lines of some whole inputs, by computation over the definition that the contract of `line` cites. Assumes nothing.
use Prim.Native.Nat.{ℕ}
use mathlib.Core.Path.{◌≡◌, refl}
use mathlib.Core.List.{List, [], ◌∷◌, map}
use Rattle.jobfile.specs.Coding.{event_of}
use Rattle.jobfile.specs.Trace.{event_at, tasks_at, begun_at}
use Rattle.trailer.specs.Trailer.{word_at, printable, start_in, head_sized, head_of}
use Rattle.jobfile.specs.Tasks.{task_fault, record_fault, step_on, move_on, finish, trace_from}
use Rattle.jobfile.specs.File.{check_of}
use Rattle.jobfile.specs.Samples.{l4}
use Rattle.relation.specs.Walk.{opened, move_at, walk_for, walk}
use Rattle.orders.specs.Order.{insert_after, differ}
use Rattle.orders.specs.Model.{ceiling, limit, gap_at, has_room, middle, spread, insert_lab, insert_state, diffs, insert_count}
use Rattle.strands.specs.Cells.{cells}
use Rattle.strands.specs.States.{state_at, count_at}
use Rattle.races.specs.Search.{any, least}
use Rattle.races.specs.Places.{held_of, first_of}
use Rattle.races.specs.Records.{races, raced, raced_any, verdict_in, stop_in}
use Rattle.judging.specs.Answers.{judged_of, no_room, judgeable, judge_of}
use Rattle.line.specs.Text.{ascii, digits_within, digits_of, pair_text, kinds_text, counts_text, name_text, refusal_text}
use Rattle.line.specs.Line.{line_of}

-- a job with no name and no events, of one record
abbrev pub empty_job : List ℕ
empty_job = 0 ∷ 0 ∷ 0 ∷ 0 ∷ 0 ∷ 0 ∷ 0 ∷ 0 ∷ 1 ∷ 0 ∷ 0 ∷ 0 ∷ 0x56 ∷ 0x4A ∷ 0x54 ∷ 0x31 ∷ []

-- case 5, S R0 E R0 W0, with no name: the accesses differ in kind
abbrev pub case5 : List ℕ
case5 =
    0x01 ∷ 0x00 ∷ 0x00 ∷ 0x00
    ∷ 0x04 ∷ 0x00 ∷ 0x00 ∷ 0x00
    ∷ 0x02 ∷ 0x00 ∷ 0x00 ∷ 0x00
    ∷ 0x04 ∷ 0x00 ∷ 0x00 ∷ 0x00
    ∷ 0x05 ∷ 0x00 ∷ 0x00 ∷ 0x00
    ∷ 0x14 ∷ 0x00 ∷ 0x00 ∷ 0x00
    ∷ 0x05 ∷ 0x00 ∷ 0x00 ∷ 0x00
    ∷ 0x01 ∷ 0x00 ∷ 0x00 ∷ 0x00
    ∷ 0x56 ∷ 0x4A ∷ 0x54 ∷ 0x31
    ∷ []

-- with work buffers of the paper's lengths
abbrev pub lines : List (List ℕ) → List (List ℕ)
lines = map (λ (input : List ℕ). line_of input 8192 16384 16384)

pub small_lines : lines (l4 ∷ case5 ∷ empty_job ∷ [] ∷ [])
    ≡ (ascii "race record 1 first 3 second 6 kinds WW strands 3 english 3 hebrew 3 name L4\n"
    ∷ ascii "race record 0 first 1 second 4 kinds RW strands 3 english 3 hebrew 3 name \n"
    ∷ ascii "clean strands 1 english 1 hebrew 1 name \n"
    ∷ ascii "refused 1 event 0\n"
    ∷ [])
unfolding line_of digits_within pair_text kinds_text counts_text name_text refusal_text judge_of judgeable no_room judged_of check_of head_of head_sized start_in printable word_at trace_from finish step_on move_on task_fault record_fault event_of event_at tasks_at begun_at opened move_at walk_for walk any least races raced held_of first_of raced_any verdict_in stop_in cells state_at count_at insert_after differ ceiling limit gap_at has_room middle spread insert_lab insert_state diffs insert_count
small_lines = refl

pub small_numbers : map digits_of (0 ∷ 9 ∷ 10 ∷ 129 ∷ 4096 ∷ 18446744073709551615 ∷ [])
    ≡ (ascii "0" ∷ ascii "9" ∷ ascii "10" ∷ ascii "129" ∷ ascii "4096" ∷ ascii "18446744073709551615" ∷ [])
unfolding digits_within
small_numbers = refl
