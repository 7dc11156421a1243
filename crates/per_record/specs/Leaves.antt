-- What the call leaves in the work buffers and in the lists: every entry, for every answer.
use Rattle.std.specs.Prelude.{◌≡◌, List, ℕ, Result, Ok, Err}
use Rattle.jobfile.specs.File.{check_of, event_part, record_count}
use Rattle.jobfile.specs.Trace.{event_at}
use Rattle.jobfile.specs.declared.refusal.Refusal.{Refusal}
use Rattle.taking.specs.Buffers.{Buffers}
use Rattle.judging.specs.Leaves.{Shows}
use Rattle.per_record.specs.Lists.{Lists}
use Rattle.per_record.specs.Listed.{listed}
use Rattle.per_record.specs.declared.Answer.{Answer}

-- The state after k events, where the places of a record that has raced show what they held at its race (`Shown`); and the lists with the
-- raced records. A refusal "stores nothing in any buffer".
abbrev pub Leaves : Result Answer Refusal → List ℕ → ℕ → Buffers → Lists → Buffers → Lists → Type 0
Leaves (Ok a) file k B₀ L₀ B L =
    Shows (event_at (event_part file)) k (record_count (check_of file)) B₀ B
    × (L ≡ listed (event_at (event_part file)) k L₀ (record_count (check_of file)))
Leaves (Err r) file k B₀ L₀ B L = (B ≡ B₀) × (L ≡ L₀)
