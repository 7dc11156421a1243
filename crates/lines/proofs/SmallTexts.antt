-- The texts of some whole inputs, by computation over the definition that the contract of `lines` cites. Assumes nothing.
use Prim.Native.Nat.{ℕ}
use mathlib.Core.Path.{◌≡◌, refl}
use mathlib.Core.List.{List, [], ◌∷◌, ◌++◌, map}
use Rattle.jobfile.specs.Coding.{event_of}
use Rattle.jobfile.specs.Trace.{event_at, tasks_at, begun_at}
use Rattle.trailer.specs.Trailer.{word_at, printable, start_in, head_sized, head_of}
use Rattle.jobfile.specs.Tasks.{task_fault, record_fault, step_on, move_on, finish, trace_from}
use Rattle.jobfile.specs.File.{check_of}
use Rattle.jobfile.specs.Samples.{l4}
use Rattle.relation.specs.Walk.{opened, move_at, walk_for, walk}
use Rattle.orders.specs.Order.{insert_after, differ}
use Rattle.orders.specs.Model.{ceiling, limit, gap_at, has_room, middle, spread, insert_lab, insert_state, diffs, insert_count}
use Rattle.strands.specs.Cells.{cells}
use Rattle.strands.specs.States.{state_at, count_at}
use Rattle.races.specs.Search.{any, least}
use Rattle.races.specs.Places.{held_of, first_of}
use Rattle.races.specs.Records.{races, raced, pair_of}
use Rattle.judging.specs.Answers.{no_room, judgeable}
use Rattle.per_record.specs.Listed.{pairs_below}
use Rattle.per_record.specs.Answers.{judged_all, records_of}
use Rattle.line.specs.Text.{ascii, digits_within, pair_text, kinds_text, counts_text, name_text, refusal_text}
use Rattle.line.proofs.Lines.{empty_job}
use Rattle.lines.specs.Text.{entry_text, pair_lines, judged_text}
use Rattle.lines.specs.Lines.{lines_of, paper_buffers, paper_lists}

-- S R0 W1 W2 E R2 W0 J W1, named `two of three`: record 2 races before record 0 does, and record 1 not at all
abbrev pub two_of_three : List ℕ
two_of_three =
    0x74 ∷ 0x77 ∷ 0x6F ∷ 0x20 ∷ 0x6F ∷ 0x66 ∷ 0x20 ∷ 0x74 ∷ 0x68 ∷ 0x72 ∷ 0x65 ∷ 0x65
    ∷ 0x01 ∷ 0x00 ∷ 0x00 ∷ 0x00
    ∷ 0x04 ∷ 0x00 ∷ 0x00 ∷ 0x00
    ∷ 0x05 ∷ 0x00 ∷ 0x01 ∷ 0x00
    ∷ 0x05 ∷ 0x00 ∷ 0x02 ∷ 0x00
    ∷ 0x02 ∷ 0x00 ∷ 0x00 ∷ 0x00
    ∷ 0x04 ∷ 0x00 ∷ 0x02 ∷ 0x00
    ∷ 0x05 ∷ 0x00 ∷ 0x00 ∷ 0x00
    ∷ 0x03 ∷ 0x00 ∷ 0x00 ∷ 0x00
    ∷ 0x05 ∷ 0x00 ∷ 0x01 ∷ 0x00
    ∷ 0x24 ∷ 0x00 ∷ 0x00 ∷ 0x00
    ∷ 0x09 ∷ 0x00 ∷ 0x00 ∷ 0x00
    ∷ 0x03 ∷ 0x00 ∷ 0x00 ∷ 0x00
    ∷ 0x56 ∷ 0x4A ∷ 0x54 ∷ 0x31
    ∷ []

abbrev pub texts : List (List ℕ) → List (List ℕ)
texts = map (λ (input : List ℕ). lines_of input paper_buffers paper_lists)

pub small_texts : texts (two_of_three ∷ l4 ∷ empty_job ∷ [] ∷ [])
    ≡ ((ascii "race record 0 first 1 second 6 kinds RW\n"
    ++ ascii "race record 2 first 3 second 5 kinds WR\n"
    ++ ascii "raced 2 strands 4 english 4 hebrew 4 name two of three\n")
    ∷ (ascii "race record 1 first 3 second 6 kinds WW\n"
    ++ ascii "raced 1 strands 4 english 4 hebrew 4 name L4\n")
    ∷ ascii "clean strands 1 english 1 hebrew 1 name \n"
    ∷ ascii "refused 1 event 0\n"
    ∷ [])
unfolding lines_of entry_text pair_lines judged_text digits_within pair_text kinds_text counts_text name_text refusal_text records_of judged_all pairs_below judgeable no_room check_of head_of head_sized start_in printable word_at trace_from finish step_on move_on task_fault record_fault event_of event_at tasks_at begun_at opened move_at walk_for walk any least races raced held_of first_of pair_of cells state_at count_at insert_after differ ceiling limit gap_at has_room middle spread insert_lab insert_state diffs insert_count
small_texts = refl
