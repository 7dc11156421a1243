-- Rows 15 and 18 of the table as the question gives them, and its table.
use Rattle.std.specs.Prelude.{ℕ, ◌≤◌, ◌≡◌, ◌⊎◌, List, [], ◌∷◌, ◌++◌}
use Rattle.trailer.specs.Table.{row, Table}
use Rattle.trailer.specs.Rows.{count_of}
use Rattle.jobfile.specs.Rows.{kind_at, part_in, read_table}

-- 18: "question about an event that is no access": "4 read, 5 write"
abbrev pub NoAccess : ℕ → Type 0
NoAccess kind = ¬ (kind ≡ 4) × ¬ (kind ≡ 5)

-- "the question with 15 for each number, then 18 for each"
abbrev pub asked_table : ℕ → List ℕ → ℕ → ℕ → Table
asked_table count part i j =
    -- 15: "in the question, an event number not below" the event count
    row 15 ((count ≤ i) ⊎ (count ≤ j))
    ∷ row 18 (NoAccess (kind_at part i) ⊎ NoAccess (kind_at part j))
    ∷ []

abbrev pub question_table : List ℕ → ℕ → ℕ → Table
question_table file i j = read_table file ++ asked_table (count_of file) (part_in file) i j
