-- An event: kind, a zero byte, record number (2 bytes).
use Rattle.std.specs.Prelude.{◌≡◌, ℕ, ◌+◌, ◌*◌, List, cond, ◌&&◌, ◌||◌, get_or, eqb, ltb, Result, Ok, Err}
use Rattle.jobfile.specs.declared.event.Event.TheVariants.{Spawn, End, Sync, Read, Write}
use Rattle.jobfile.specs.declared.event.Event.{Event}
use Rattle.trailer.specs.declared.fault.Fault.{Fault}
use Rattle.trailer.specs.declared.fault.Fault.TheVariants.{NoEvent}

-- "1 spawn, 2 end, 3 sync, 4 read, 5 write. Spawn, end and sync have record 0"; refusal 8: "kind not 1 to 5, second byte not 0, or a
-- record on kinds 1 to 3"
unfoldable pub event_of : ℕ → ℕ → ℕ → Result Event Fault
event_of kind second number =
    cond (eqb kind 0) (Err NoEvent)
    (cond (ltb 5 kind) (Err NoEvent)
    (cond (eqb second 0)
    (cond (eqb kind 4) (Ok (Read number))
    (cond (eqb kind 5) (Ok (Write number))
    (cond (eqb number 0)
    (cond (eqb kind 1) (Ok Spawn)
    (cond (eqb kind 2) (Ok End)
    (Ok Sync)))
    (Err NoEvent))))
    (Err NoEvent)))

-- The same as the code tells it: the kind and the second byte as one number, a kind that has no record together with the record, and reads
-- and writes as one. No part of what must be believed: `told_is` (proofs/Told.antt).
unfoldable pub told_of : ℕ → ℕ → Result Event Fault
told_of kind number =
    cond (eqb kind 1 && eqb number 0) (Ok Spawn)
    (cond (eqb kind 2 && eqb number 0) (Ok End)
    (cond (eqb kind 3 && eqb number 0) (Ok Sync)
    (cond (eqb kind 4 || eqb kind 5)
    (cond (eqb kind 4) (Ok (Read number)) (Ok (Write number)))
    (Err NoEvent))))

-- the bound that a caller needs
abbrev pub DecodeFits : Result Event Fault → Type 0
DecodeFits (Ok e) = Unit {0}
DecodeFits (Err fault) = fault ≡ NoEvent

-- the four bytes from a place on, as an event
abbrev pub decode_at : List ℕ → ℕ → Result Event Fault
decode_at bytes at = event_of (get_or bytes at 0) (get_or bytes (at + 1) 0) (get_or bytes (at + 2) 0 + 256 * get_or bytes (at + 3) 0)
