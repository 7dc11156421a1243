-- Row 16 of the table as this call gives it, and its table.
use Rattle.std.specs.Prelude.{ℕ, ◌<◌, ◌⊎◌, List, [], ◌∷◌, ◌++◌, length}
use Rattle.trailer.specs.Table.{row, Table}
use Rattle.jobfile.specs.Rows.{job_in}
use Rattle.judging.specs.Rows.{judge_table_with}
use Rattle.taking.specs.Buffers.{Buffers}
use Rattle.per_record.specs.Lists.{Lists}

-- 16: "if a list is shorter than the record count"
abbrev pub list_table : ℕ → Lists → Table
list_table count L =
    row 16 ((length L.records < count) ⊎ ((length L.firsts < count) ⊎ (length L.seconds < count)))
    ∷ []

-- "after 14", and after 17 while it stands
abbrev pub records_table : List ℕ → ℕ → Buffers → Lists → Table
records_table file k B L = judge_table_with file k B ++ list_table (job_in file).records L
