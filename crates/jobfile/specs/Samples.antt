-- 01's small jobs and its one whole file, as events and as bytes. Theorems by computation speak of them; no contract does.
use Rattle.std.specs.Prelude.{ℕ, ◌/◌, ◌%◌, List, [], ◌∷◌, ◌++◌, get_or}
use Rattle.jobfile.specs.declared.event.Event.{Event}
use Rattle.jobfile.specs.declared.event.Event.TheVariants.{Spawn as S, End as E, Sync as J, Read as R, Write as W}

-- a list as a trace; what stands behind its end is never asked
abbrev pub listed : List Event → ℕ → Event
listed events n = get_or events n J

-- "An event: kind, a zero byte, record number (2 bytes)."; another second byte makes a damaged one
abbrev pub coded : ℕ → ℕ → ℕ → List ℕ
coded kind second number = kind ∷ second ∷ number % 256 ∷ number / 256 ∷ []

-- "1 spawn, 2 end, 3 sync, 4 read, 5 write"
abbrev pub bytes_of : Event → List ℕ
bytes_of S = coded 1 0 0
bytes_of E = coded 2 0 0
bytes_of J = coded 3 0 0
bytes_of (R r) = coded 4 0 r
bytes_of (W r) = coded 5 0 r

abbrev pub event_bytes : List Event → List ℕ
event_bytes [] = []
event_bytes (e ∷ es) = bytes_of e ++ event_bytes es

-- the starred jobs, 1 to 10
abbrev pub starred : List (List Event)
starred =
    []
    ∷ (W 0 ∷ R 0 ∷ [])
    ∷ (S ∷ W 0 ∷ E ∷ W 0 ∷ [])
    ∷ (S ∷ W 0 ∷ E ∷ J ∷ W 0 ∷ [])
    ∷ (S ∷ R 0 ∷ E ∷ R 0 ∷ W 0 ∷ [])
    ∷ (S ∷ R 0 ∷ W 0 ∷ E ∷ W 0 ∷ [])
    ∷ (S ∷ W 0 ∷ E ∷ S ∷ W 0 ∷ E ∷ [])
    ∷ (S ∷ W 0 ∷ E ∷ J ∷ S ∷ W 0 ∷ E ∷ [])
    ∷ (S ∷ S ∷ W 0 ∷ E ∷ J ∷ E ∷ W 0 ∷ [])
    ∷ (S ∷ W 0 ∷ E ∷ S ∷ J ∷ W 0 ∷ E ∷ [])
    ∷ []

-- "One whole file, name `L4`, 2 records, events W0 S R0 W1 E R0 W1 J, in hex"
abbrev pub l4 : List ℕ
l4 =
    0x4C ∷ 0x34 ∷ 0x05 ∷ 0x00 ∷ 0x00 ∷ 0x00 ∷ 0x01 ∷ 0x00 ∷ 0x00 ∷ 0x00 ∷ 0x04 ∷ 0x00 ∷ 0x00 ∷ 0x00 ∷ 0x05 ∷ 0x00 ∷ 0x01 ∷ 0x00
    ∷ 0x02 ∷ 0x00 ∷ 0x00 ∷ 0x00 ∷ 0x04 ∷ 0x00 ∷ 0x00 ∷ 0x00 ∷ 0x05 ∷ 0x00 ∷ 0x01 ∷ 0x00 ∷ 0x03 ∷ 0x00 ∷ 0x00 ∷ 0x00
    ∷ 0x20 ∷ 0x00 ∷ 0x00 ∷ 0x00 ∷ 0x08 ∷ 0x00 ∷ 0x00 ∷ 0x00 ∷ 0x02 ∷ 0x00 ∷ 0x00 ∷ 0x00 ∷ 0x56 ∷ 0x4A ∷ 0x54 ∷ 0x31
    ∷ []

-- `L4`
abbrev pub l4_name : List ℕ
l4_name = 0x4C ∷ 0x34 ∷ []

abbrev pub l4_events : List Event
l4_events = W 0 ∷ S ∷ R 0 ∷ W 1 ∷ E ∷ R 0 ∷ W 1 ∷ J ∷ []
