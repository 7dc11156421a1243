-- What judging every record of the first k events of a file answers, and when it refuses.
use Rattle.std.specs.Prelude.{ℕ, List, Bool, ◌||◌, cond, ltb, length, Result, Ok, Err}
use Rattle.trailer.specs.declared.fault.Fault.{Fault}
use Rattle.trailer.specs.declared.fault.Fault.TheVariants.{ShortOutput}
use Rattle.jobfile.specs.Refusals.{number_in}
use Rattle.jobfile.specs.File.{check_of, events_from}
use Rattle.jobfile.specs.Trace.{event_at, moves, begun_at}
use Rattle.jobfile.specs.declared.event.Event.{Event}
use Rattle.jobfile.specs.declared.job.Job.{Job}
use Rattle.jobfile.specs.declared.refusal.Refusal.{Refusal}
use Rattle.strands.specs.States.{english_count, hebrew_count}
use Rattle.taking.specs.Buffers.{Buffers}
use Rattle.judging.specs.Answers.{counts_of, judgeable, when_judgeable}
use Rattle.per_record.specs.Lists.{Lists}
use Rattle.per_record.specs.Listed.{raced_below}
use Rattle.per_record.specs.declared.Answer.{Answer}

abbrev pub answer_of : ℕ → ℕ → ℕ → ℕ → Answer
answer_of raced strands english hebrew = record { raced = raced; counts = counts_of strands english hebrew }

-- "It takes k, gives strands, label counts and the number raced" (02, C-11), "demand 3 up to the last event": those of all k events
unfoldable pub judged_all : (ℕ → Event) → ℕ → ℕ → Answer
judged_all ev k records = answer_of (raced_below ev k records) (begun_at (moves ev) k) (english_count (moves ev) k) (hebrew_count (moves ev) k)

-- "a list is shorter than the record count", for that count and the lengths of the three
abbrev pub is_short : ℕ → ℕ → ℕ → ℕ → Bool
is_short count records firsts seconds = ltb records count || ltb firsts count || ltb seconds count

-- 16
abbrev pub fits_lists : ℕ → ℕ → ℕ → ℕ → Result Unit Fault
fits_lists count records firsts seconds = cond (is_short count records firsts seconds) (Err ShortOutput) (Ok tt)

-- one test behind another: the refusal of the first that fails
abbrev pub and_then : Result Unit Fault → Result Unit Fault → Result Unit Fault
and_then (Ok passed) next = next
and_then (Err fault) next = Err fault

-- 15, 14 and 17 as judging gives them, "after 14" 16
abbrev pub listable : ℕ → ℕ → ℕ → ℕ → ℕ → ℕ → ℕ → ℕ → ℕ → ℕ → Result Unit Fault
listable events strands count k labels links places records firsts seconds =
    and_then (judgeable events strands k labels links places) (fits_lists count records firsts seconds)

-- of a job; the buffers and the lists that are lent: of these only the lengths count
abbrev pub listable_with : Job → ℕ → Buffers → Lists → Result Unit Fault
listable_with j k B L =
    listable j.events j.strands j.records k (length B.labels) (length B.links) (length B.places)
    (length L.records) (length L.firsts) (length L.seconds)

abbrev pub after_check : Result Job Refusal → List ℕ → ℕ → Buffers → Lists → Result Answer Refusal
after_check (Ok j) file k B L = when_judgeable (listable_with j k B L) (judged_all (event_at (events_from file j.start j.events)) k j.records)
after_check (Err r) file k B L = Err r

-- the answer for a file, k, the buffers and the lists
unfoldable pub records_of : List ℕ → ℕ → Buffers → Lists → Result Answer Refusal
records_of file k B L = after_check (check_of file) file k B L

-- The paper's values of each answer; a refusal has zeros elsewhere.
pub record Numbers : Type 0 where
  pub refusal : ℕ
  pub event : ℕ
  pub raced : ℕ
  pub strands : ℕ
  pub english : ℕ
  pub hebrew : ℕ

abbrev pub numbers_of : Result Answer Refusal → Numbers
numbers_of (Ok a) =
    record { refusal = 0; event = 0; raced = a.raced; strands = a.counts.strands; english = a.counts.english; hebrew = a.counts.hebrew }
numbers_of (Err r) = record { refusal = number_in r; event = r.event; raced = 0; strands = 0; english = 0; hebrew = 0 }
