-- Rows 1 to 7 of the table, each by itself.
use Rattle.std.specs.Prelude.{ℕ, ◌*◌, ◌-◌, ◌<◌, ◌≡◌, ◌⊎◌, List, [], ◌∷◌, length, get_or, take, drop}
use Rattle.trailer.specs.Trailer.{word_at, mark}
use Rattle.trailer.specs.Table.{row, Table}

-- "Trailer, the last 16 bytes: distance back from the trailer's first byte to the first event (4 bytes), event count (4), record count (4)"
abbrev pub distance_of : List ℕ → ℕ
distance_of file = word_at file (length file - 16)

abbrev pub count_of : List ℕ → ℕ
count_of file = word_at file (length file - 12)

abbrev pub records_of : List ℕ → ℕ
records_of file = word_at file (length file - 8)

-- where the events start: "the distance before" the trailer
abbrev pub start_of : List ℕ → ℕ
start_of file = length file - 16 - distance_of file

-- 3: "record count 0 or over 4,096"
abbrev pub RecordCountOut : ℕ → Type 0
RecordCountOut number = (number ≡ 0) ⊎ (4096 < number)

-- 4: "event count over 1,000,000"
abbrev pub EventCountOver : ℕ → Type 0
EventCountOver number = 1000000 < number

-- 7: "name over 64 bytes, or a byte outside 32 to 126"
abbrev pub ByteOut : List ℕ → Type 0
ByteOut name = (i : ℕ) × (i < length name) × ((get_or name i 0 < 32) ⊎ (126 < get_or name i 0))

abbrev pub NameOut : List ℕ → Type 0
NameOut name = (64 < length name) ⊎ ByteOut name

-- "Order when reading: 1 to 7"
abbrev pub head_table : List ℕ → Table
head_table file =
    -- 1: "file under 16 bytes"
    row 1 (length file < 16)
    -- 2: "last four bytes not `VJT1`"
    ∷ row 2 (¬ (drop (length file - 4) file ≡ mark))
    ∷ row 3 (RecordCountOut (records_of file))
    ∷ row 4 (EventCountOver (count_of file))
    -- 5: "distance not 4 × event count, as whole numbers"
    ∷ row 5 (¬ (distance_of file ≡ 4 * count_of file))
    -- 6: "distance over the bytes before the trailer"
    ∷ row 6 (length file - 16 < distance_of file)
    -- "The name is everything before" the events.
    ∷ row 7 (NameOut (take (start_of file) file))
    ∷ []
