-- The number that the rules give each kind of refusal.
use Rattle.std.specs.Prelude.{ℕ}
use Rattle.trailer.specs.declared.fault.Fault.{Fault}
use Rattle.trailer.specs.declared.fault.Fault.TheVariants.{Short, Unmarked, RecordCount, EventCount, Distance, Outside, Name, NoEvent, Record, RootEnded, TooDeep, TooManyStrands, LeftOpen, ShortBuffer, PastEvents, ShortOutput, NoLabels, NotAccess}

-- what a refusal for it shows: the number of the rules
abbrev pub number_of : Fault → ℕ
-- "file under 16 bytes"
number_of Short = 1
-- "last four bytes not `VJT1`"
number_of Unmarked = 2
-- "record count 0 or over 4,096"
number_of RecordCount = 3
-- "event count over 1,000,000"
number_of EventCount = 4
-- "distance not 4 × event count, as whole numbers"; "when writing, event bytes not a multiple of 4"
number_of Distance = 5
-- "distance over the bytes before the trailer"
number_of Outside = 6
-- "name over 64 bytes, or a byte outside 32 to 126"
number_of Name = 7
-- "kind not 1 to 5, second byte not 0, or a record on kinds 1 to 3"
number_of NoEvent = 8
-- "record at or over the record count"
number_of Record = 9
-- "end with only the root open"
number_of RootEnded = 10
-- "spawn with 64 tasks open"
number_of TooDeep = 11
-- "the event would begin a 4,097th strand"
number_of TooManyStrands = 12
-- "a task other than the root open after the last event"
number_of LeftOpen = 13
-- "a work buffer shorter than above"
number_of ShortBuffer = 14
-- "k over the event count"; "an event number not below" it
number_of PastEvents = 15
-- "output buffer shorter than the file to be written"
number_of ShortOutput = 16
-- "no label room even after respacing"
number_of NoLabels = 17
-- "question about an event that is no access"
number_of NotAccess = 18
