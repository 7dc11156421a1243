-- The rows of the table as writing gives them, and its table.
use Rattle.std.specs.Prelude.{ℕ, ◌/◌, ◌%◌, ◌<◌, ◌≡◌, List, [], ◌∷◌, ◌++◌, length}
use Rattle.trailer.specs.Table.{row, Table}
use Rattle.trailer.specs.Rows.{RecordCountOut, EventCountOver, NameOut}
use Rattle.jobfile.specs.Rows.{trace_table}
use Rattle.writing.specs.Written.{written_file}

-- "Writing: 7, 3, 5, 4"
abbrev pub parts_table : List ℕ → ℕ → ℕ → Table
parts_table name records bytes =
    row 7 (NameOut name)
    ∷ row 3 (RecordCountOut records)
    -- 5: "when writing, event bytes not a multiple of 4"
    ∷ row 5 (¬ (bytes % 4 ≡ 0))
    ∷ row 4 (EventCountOver (bytes / 4))
    ∷ []

-- "then 8 to 13", of the event bytes, "then 16": "output buffer shorter than the file to be written"
abbrev pub write_table : List ℕ → ℕ → List ℕ → ℕ → Table
write_table name records events room =
    parts_table name records (length events)
    ++ (trace_table records (length events / 4) events ++ (row 16 (room < length (written_file name records events)) ∷ []))
