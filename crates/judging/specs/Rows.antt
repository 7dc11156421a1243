-- Rows 15, 14 and 17 of the table as judging gives them, and its table.
use Rattle.std.specs.Prelude.{ℕ, ◌-◌, ◌^◌, ◌<◌, ◌⊎◌, List, [], ◌∷◌, ◌++◌, length}
use Rattle.trailer.specs.Table.{row, Table}
use Rattle.jobfile.specs.Rows.{job_in, read_table}
use Rattle.orders.specs.Order.{spaced}
use Rattle.taking.specs.Buffers.{Buffers}

-- "Judging goes on with 15, 14, 17", for the numbers of events and strands of a file, k, and the lengths of labels, links and places.
abbrev pub run_table : ℕ → ℕ → ℕ → ℕ → ℕ → ℕ → Table
run_table events strands k labels links places =
    -- 15: "k over the event count"
    row 15 (events < k)
    -- 14: "a work buffer shorter than above"
    ∷ row 14 ((labels < 8192) ⊎ ((links < 16384) ⊎ (places < 16384)))
    -- 17: "no label room even after respacing": the last strand's label is over 64 bits
    ∷ row 17 (2 ^ 64 - 1 < spaced (strands - 1))
    ∷ []

abbrev pub judge_table : List ℕ → ℕ → ℕ → ℕ → ℕ → Table
judge_table file k labels links places = read_table file ++ run_table (job_in file).events (job_in file).strands k labels links places

-- with the buffers that are lent
abbrev pub judge_table_with : List ℕ → ℕ → Buffers → Table
judge_table_with file k B = judge_table file k (length B.labels) (length B.links) (length B.places)
