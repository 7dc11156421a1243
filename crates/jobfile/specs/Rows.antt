-- Rows 8 to 13 of the table, each by itself, and the table of reading.
use Rattle.std.specs.Prelude.{ℕ, suc, ◌+◌, ◌*◌, ◌≤◌, ◌<◌, ◌≡◌, ◌⊎◌, List, [], ◌∷◌, ◌++◌, get_or}
use Rattle.trailer.specs.Table.{Rows, row, Table}
use Rattle.trailer.specs.Rows.{count_of, records_of, start_of, head_table}
use Rattle.jobfile.specs.declared.job.Job.{Job}
use Rattle.jobfile.specs.declared.event.Event.{Event}
use Rattle.jobfile.specs.declared.event.Event.TheVariants.{Spawn, End, Sync, Read, Write}
use Rattle.jobfile.specs.Trace.{event_at, moves, depth_at, begun_at}
use Rattle.jobfile.specs.File.{events_from}

-- "An event: kind, a zero byte, record number (2 bytes)."
abbrev pub kind_at : List ℕ → ℕ → ℕ
kind_at part m = get_or part (4 * m) 0

abbrev pub second_at : List ℕ → ℕ → ℕ
second_at part m = get_or part (4 * m + 1) 0

abbrev pub number_at : List ℕ → ℕ → ℕ
number_at part m = get_or part (4 * m + 2) 0 + 256 * get_or part (4 * m + 3) 0

-- 8: "kind not 1 to 5, second byte not 0, or a record on kinds 1 to 3"
abbrev pub Malformed : ℕ → ℕ → ℕ → Type 0
Malformed kind second number = ¬ ((1 ≤ kind) × (kind ≤ 5)) ⊎ (¬ (second ≡ 0) ⊎ ((1 ≤ kind) × (kind ≤ 3) × ¬ (number ≡ 0)))

-- what the fields of each event are: "1 spawn, 2 end, 3 sync, 4 read, 5 write. Spawn, end and sync have record 0"
abbrev pub Coded : ℕ → ℕ → ℕ → Event → Type 0
Coded kind second number Spawn = (kind ≡ 1) × (second ≡ 0) × (number ≡ 0)
Coded kind second number End = (kind ≡ 2) × (second ≡ 0) × (number ≡ 0)
Coded kind second number Sync = (kind ≡ 3) × (second ≡ 0) × (number ≡ 0)
Coded kind second number (Read r) = (kind ≡ 4) × (second ≡ 0) × (number ≡ r)
Coded kind second number (Write r) = (kind ≡ 5) × (second ≡ 0) × (number ≡ r)

-- The rows of one event: its three fields, the tasks open before it, the strands begun before and after it.
pub data AtEvent (records kind second number depth before after : ℕ) : ℕ → Type 0 where
  row_8 : Malformed kind second number → AtEvent records kind second number depth before after 8
  -- 9: "record at or over the record count"
  row_9 : records ≤ number → AtEvent records kind second number depth before after 9
  -- 10: "end with only the root open"
  row_10 : kind ≡ 2 → depth ≡ 1 → AtEvent records kind second number depth before after 10
  -- 11: "spawn with 64 tasks open"
  row_11 : kind ≡ 1 → depth ≡ 64 → AtEvent records kind second number depth before after 11
  -- 12: "the event would begin a 4,097th strand"
  row_12 : before ≡ 4096 → after ≡ 4097 → AtEvent records kind second number depth before after 12

-- of event m of a part
abbrev pub row_at : ℕ → List ℕ → ℕ → ℕ → Type 0
row_at records part m =
    let mv = moves (event_at part) in
    AtEvent records (kind_at part m) (second_at part m) (number_at part m) (depth_at mv m) (begun_at mv m) (begun_at mv (suc m))

abbrev pub event_rows : ℕ → ℕ → List ℕ → Rows
event_rows records count part n m = (m < count) × row_at records part m n

-- "then event by event 8, 9, 10 or 11, 12, then 13": "a task other than the root open after the last event"
abbrev pub trace_table : ℕ → ℕ → List ℕ → Table
trace_table records count part = event_rows records count part ∷ row 13 (1 < depth_at (moves (event_at part)) count) ∷ []

-- the event part of a file by its trailer: 4 bytes an event
abbrev pub part_in : List ℕ → List ℕ
part_in file = events_from file (start_of file) (count_of file)

-- "Order when reading: 1 to 7, then event by event 8, 9, 10 or 11, 12, then 13."
abbrev pub read_table : List ℕ → Table
read_table file = head_table file ++ trace_table (records_of file) (count_of file) (part_in file)

-- what an accepted file gives: the trailer's words, and the strands begun at its end
abbrev pub job_in : List ℕ → Job
job_in file = record {
  start = start_of file;
  events = count_of file;
  records = records_of file;
  strands = begun_at (moves (event_at (part_in file))) (count_of file);
}
