-- What the check of a file gives: its contract.
use Rattle.std.specs.Prelude.{ℕ, ◌<◌, ◌≡◌, List, length, Result}
use Rattle.trailer.specs.Table.{ExactNumbers}
use Rattle.trailer.specs.Rows.{start_of, count_of, records_of}
use Rattle.jobfile.specs.File.{check_of, CheckFits, refusal_number, refusal_event, name_length, event_count, record_count}
use Rattle.jobfile.specs.Rows.{read_table}
use Rattle.jobfile.specs.declared.job.Job.{Job}
use Rattle.jobfile.specs.declared.refusal.Refusal.{Refusal}

-- "Reading gives the name, the event part and the record count"
pub record Reads (r : Result Job Refusal) (name events records : ℕ) : Type 0 where
  pub name_length_is : name_length r ≡ name
  pub event_count_is : event_count r ≡ events
  pub record_count_is : record_count r ≡ records

pub record CheckGives (file : List ℕ) (r : Result Job Refusal) : Type 0 where
  pub answer : r ≡ check_of file
  -- the same in the paper's numbers: which refusal, if any; and what is read
  pub told : ExactNumbers (read_table file) (refusal_number r) (refusal_event r)
  pub accepted : refusal_number r ≡ 0 → Reads r (start_of file) (count_of file) (records_of file)
  -- a refusal gives "zeros elsewhere, an empty part where a part is due"
  pub refused : 0 < refusal_number r → Reads r 0 0 0
  -- the bounds that a caller needs
  pub fits : CheckFits r (length file)
