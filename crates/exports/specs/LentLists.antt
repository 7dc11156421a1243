-- The three lists as the C call that is lent them has them: record, first and second of each raced record.
use Rattle.std.specs.Prelude.{List, ℕ}
use Rattle.std.specs.Borrow.{MutBor}
use Rattle.jobfile.specs.Lent.{Lent}
use Rattle.per_record.specs.Lists.{Lists}

abbrev pub lists : MutBor (List ℕ) → MutBor (List ℕ) → MutBor (List ℕ) → Lists
lists records firsts seconds = record { records = records.now; firsts = firsts.now; seconds = seconds.now }

-- when the call is made, and when it returns
abbrev pub lists_before : Lent → Lent → Lent → Lists
lists_before records firsts seconds = lists records.entry firsts.entry seconds.entry

abbrev pub lists_after : Lent → Lent → Lent → Lists
lists_after records firsts seconds = lists records.exit firsts.exit seconds.exit
