-- What the check says of small whole files: by computation, over the definitions that the contracts cite. Assumes nothing.
use mathlib.Core.Path.{◌≡◌, refl}
use mathlib.Core.List.{map}
use lib.ListN.{take}
use Rattle.jobfile.specs.Coding.{event_of}
use Rattle.trailer.specs.Trailer.{word_at, printable, start_in, head_sized, head_of}
use Rattle.jobfile.specs.Tasks.{record_fault, task_fault, move_on, step_on, finish, trace_from}
use Rattle.jobfile.specs.File.{check_of, name_length, event_part}
use Rattle.jobfile.specs.Samples.{event_bytes, l4, l4_name, l4_events}
use Rattle.writing.specs.Written.{four, trailer, written_file}
use Rattle.small_jobs.specs.Files.{job, Answered, cases, limits, full}

-- 116 files
pub answered : Answered cases
unfolding four trailer written_file event_of word_at printable start_in head_sized head_of record_fault task_fault move_on step_on finish trace_from check_of
answered = refl

pub limits_answered : Answered limits
unfolding four trailer written_file event_of word_at printable start_in head_sized head_of record_fault task_fault move_on step_on finish trace_from check_of
limits_answered = refl

pub full_answered : map (λ c. c.0) full ≡ map (λ c. c.1) full
unfolding event_of record_fault task_fault move_on step_on finish trace_from
full_answered = refl

-- 01's whole file is that of its name and events, and the parts that the reader gives are these
pub l4_written : l4 ≡ job l4_name 2 l4_events
unfolding four trailer written_file
l4_written = refl

pub l4_parts : (take (name_length (check_of l4)) l4 ≡ l4_name) × (event_part l4 ≡ event_bytes l4_events)
unfolding event_of word_at printable start_in head_sized head_of record_fault task_fault move_on step_on finish trace_from check_of
l4_parts = (refl, refl)
