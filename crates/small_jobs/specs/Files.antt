-- Small whole files, and what the check must say of each: refusals 1 to 13, and the limits from both sides.
use Rattle.std.specs.Prelude.{ℕ, zero, suc, ◌≡◌, Bool, true, List, [], ◌∷◌, ◌++◌, map, length, drop, replicate, Result, Ok, Err}
use Rattle.trailer.specs.declared.fault.Fault.{Fault}
use Rattle.trailer.specs.declared.fault.Fault.TheVariants.{Short, Unmarked, RecordCount, EventCount, Distance, Outside, Name, NoEvent, Record, RootEnded, TooDeep, TooManyStrands, LeftOpen, NotAccess}
use Rattle.jobfile.specs.declared.job.Job.{Job}
use Rattle.jobfile.specs.declared.refusal.Refusal.{Refusal}
use Rattle.jobfile.specs.declared.event.Event.{Event}
use Rattle.jobfile.specs.declared.event.Event.TheVariants.{Spawn as S, End as E, Sync as J, Read as R, Write as W}
use Rattle.jobfile.specs.Refusals.{refusal_of}
use Rattle.trailer.specs.Trailer.{mark}
use Rattle.jobfile.specs.Tasks.{trace_from}
use Rattle.jobfile.specs.File.{check_of}
use Rattle.jobfile.specs.Samples.{coded, bytes_of, event_bytes, starred, l4}
use Rattle.writing.specs.Written.{four, trailer, written_file}

-- ---- how a file is written down here

-- the file of a name, a record count and events
abbrev pub job : List ℕ → ℕ → List Event → List ℕ
job name records es = written_file name records (event_bytes es)

-- the same with four more bytes, those of no event, between the events
abbrev pub damaged : List ℕ → ℕ → List Event → List ℕ → List Event → List ℕ
damaged name records es bytes fs = written_file name records (event_bytes es ++ (bytes ++ event_bytes fs))

-- ---- the answers

abbrev refused : Fault → ℕ → Result Job Refusal
refused fault e = Err (refusal_of fault e)

-- accepted: start, events, records, strands
abbrev taken : ℕ → ℕ → ℕ → ℕ → Result Job Refusal
taken start events records strands = Ok (record { start = start; events = events; records = records; strands = strands })

abbrev pub Case : Type 0
Case = List ℕ × Result Job Refusal

abbrev pub Answered : List Case → Type 0
Answered cs = map (λ c. check_of c.0) cs ≡ map (λ c. c.1) cs

-- ---- the trailer: refusals 1 to 6

-- a file, and what is left of it as its front bytes go, one by one
abbrev tails : List ℕ → List (List ℕ)
tails [] = [] ∷ []
tails (b ∷ bs) = (b ∷ bs) ∷ tails bs

-- 15 to 0 bytes; all but the last four files still end as `VJT1` does
abbrev short : List Case
short = map (λ file. (file, refused Short 0)) (tails (drop 1 (job [] 1 [])))

abbrev marks : List Case
marks =
    (replicate 16 0, refused Unmarked 0)
    ∷ (four 0 ++ (four 0 ++ (four 1 ++ (86 ∷ 74 ∷ 84 ∷ 50 ∷ []))), refused Unmarked 0)
    ∷ (four 0 ++ (four 0 ++ (four 1 ++ (118 ∷ 74 ∷ 84 ∷ 49 ∷ []))), refused Unmarked 0)
    ∷ (mark ++ (four 0 ++ (four 0 ++ four 1)), refused Unmarked 0)
    ∷ (job [] 1 [] ++ (0 ∷ []), refused Unmarked 0)
    ∷ []

-- 65,537 and 4,294,901,761 are 1 in 16 bits
abbrev record_counts : List Case
record_counts =
    (job [] 0 [], refused RecordCount 0)
    ∷ (job [] 1 [], taken 0 0 1 1)
    ∷ (job [] 4096 [], taken 0 0 4096 1)
    ∷ (job [] 4097 [], refused RecordCount 0)
    ∷ (job [] 65537 [], refused RecordCount 0)
    ∷ (job [] 4294901761 [], refused RecordCount 0)
    ∷ (job [] 4294967295 [], refused RecordCount 0)
    ∷ (trailer 1 1000001 0, refused RecordCount 0)
    ∷ []

-- 4 times 1,073,741,824 is 0 in 32 bits, and 4 times 4,294,967,295 is 4,294,967,292
abbrev event_counts : List Case
event_counts =
    (trailer 1 1000001 1, refused EventCount 0)
    ∷ (trailer 4000004 1000001 1, refused EventCount 0)
    ∷ (trailer 0 1073741824 1, refused EventCount 0)
    ∷ (trailer 4294967292 1073741823 1, refused EventCount 0)
    ∷ (trailer 4294967292 4294967295 1, refused EventCount 0)
    ∷ []

abbrev distances : List Case
distances =
    (trailer 0 1000000 1, refused Distance 0)
    ∷ (trailer 4294967292 1000000 1, refused Distance 0)
    ∷ (trailer 4294967292 0 1, refused Distance 0)
    ∷ (trailer 4294967295 0 1, refused Distance 0)
    ∷ (trailer 8 1 1, refused Distance 0)
    ∷ (bytes_of (W 0) ++ trailer 3 1 1, refused Distance 0)
    ∷ (bytes_of (W 0) ++ trailer 5 1 1, refused Distance 0)
    ∷ (bytes_of (W 0) ++ trailer 1 1 1, refused Distance 0)
    ∷ (bytes_of (W 0) ++ trailer 0 1 1, refused Distance 0)
    ∷ (bytes_of (W 0) ++ trailer 4 0 1, refused Distance 0)
    ∷ (bytes_of (W 0) ++ trailer 4 1 1, taken 0 1 1 1)
    ∷ (bytes_of (W 0) ++ trailer 8 2 1, refused Outside 0)
    ∷ (trailer 4 1 1, refused Outside 0)
    ∷ (trailer 4000000 1000000 1, refused Outside 0)
    ∷ (drop 1 (bytes_of (W 0)) ++ trailer 4 1 1, refused Outside 0)
    ∷ (31 ∷ trailer 4 1 1, refused Outside 0)
    ∷ []

-- ---- the name: refusal 7

abbrev ab : List ℕ
ab = 97 ∷ 98 ∷ []

-- the last two have an event area that is not whole: a byte is missing, and the first event starts in the name; a byte is over,
-- and the name ends in the first event
abbrev names : List Case
names =
    (job ab 1 [], taken 2 0 1 1)
    ∷ (job (replicate 64 32) 1 [], taken 64 0 1 1)
    ∷ (job (replicate 64 126) 1 (W 0 ∷ []), taken 64 1 1 1)
    ∷ (job (replicate 65 97) 1 [], refused Name 0)
    ∷ (job (replicate 65 97) 1 (W 0 ∷ []), refused Name 0)
    ∷ (job (31 ∷ []) 1 [], refused Name 0)
    ∷ (job (32 ∷ []) 1 [], taken 1 0 1 1)
    ∷ (job (126 ∷ []) 1 [], taken 1 0 1 1)
    ∷ (job (127 ∷ []) 1 [], refused Name 0)
    ∷ (job (0 ∷ []) 1 [], refused Name 0)
    ∷ (job (255 ∷ []) 1 [], refused Name 0)
    ∷ (job (31 ∷ ab) 1 (W 0 ∷ []), refused Name 0)
    ∷ (job (ab ++ (127 ∷ [])) 1 (W 0 ∷ []), refused Name 0)
    ∷ (job (replicate 63 97 ++ (31 ∷ [])) 1 [], refused Name 0)
    ∷ (damaged (31 ∷ []) 1 [] (coded 0 0 0) [], refused Name 0)
    ∷ (ab ++ (drop 1 (bytes_of (W 0)) ++ trailer 4 1 1), refused NoEvent 0)
    ∷ (ab ++ (bytes_of (W 0) ++ (0 ∷ trailer 4 1 1)), refused Name 0)
    ∷ []

-- ---- one event: refusals 8 and 9

abbrev codings : List Case
codings =
    (damaged ab 1 [] (coded 0 0 0) [], refused NoEvent 0)
    ∷ (damaged ab 1 [] (coded 6 0 0) [], refused NoEvent 0)
    ∷ (damaged ab 1 [] (coded 255 0 0) [], refused NoEvent 0)
    ∷ (damaged ab 1 [] (coded 1 1 0) [], refused NoEvent 0)
    ∷ (damaged ab 1 [] (coded 4 1 0) [], refused NoEvent 0)
    ∷ (damaged ab 1 [] (coded 5 255 0) [], refused NoEvent 0)
    ∷ (damaged ab 2 [] (coded 1 0 1) (E ∷ []), refused NoEvent 0)
    ∷ (damaged ab 2 (S ∷ []) (coded 2 0 1) [], refused NoEvent 1)
    ∷ (damaged ab 2 [] (coded 3 0 1) [], refused NoEvent 0)
    ∷ (damaged ab 2 [] (coded 3 0 256) [], refused NoEvent 0)
    ∷ (damaged ab 2 (W 0 ∷ R 1 ∷ []) (coded 6 0 0) [], refused NoEvent 2)
    ∷ []

-- in the order of 01: 8 of an event comes first, and what an earlier event gives comes before what a later one does
abbrev record_numbers : List Case
record_numbers =
    (job ab 1 (R 0 ∷ []), taken 2 1 1 1)
    ∷ (job ab 1 (R 1 ∷ []), refused Record 0)
    ∷ (job ab 1 (W 1 ∷ []), refused Record 0)
    ∷ (job ab 256 (W 0 ∷ R 255 ∷ W 256 ∷ []), refused Record 2)
    ∷ (job ab 257 (W 0 ∷ R 255 ∷ W 256 ∷ []), taken 2 3 257 1)
    ∷ (job ab 4096 (R 4095 ∷ W 4095 ∷ []), taken 2 2 4096 1)
    ∷ (job ab 4096 (R 4095 ∷ W 4096 ∷ []), refused Record 1)
    ∷ (job ab 4096 (R 65535 ∷ []), refused Record 0)
    ∷ (damaged ab 1 [] (coded 4 1 1) [], refused NoEvent 0)
    ∷ (damaged ab 1 (R 1 ∷ []) (coded 6 0 0) [], refused Record 0)
    ∷ (damaged ab 1 [] (coded 6 0 0) (R 1 ∷ []), refused NoEvent 0)
    ∷ (job ab 1 (S ∷ R 1 ∷ []), refused Record 1)
    ∷ []

-- ---- tasks and strands: refusals 10 to 13

-- jobs with no name and one record, and the strands of each; a job without its number is a case that no answer fits: the check asks no question
abbrev counted : List (List Event) → List ℕ → List Case
counted (es ∷ jobs) (n ∷ strands) = (job [] 1 es, taken 0 (length es) 1 n) ∷ counted jobs strands
counted [] strands = []
counted (es ∷ jobs) [] = (job [] 1 es, refused NotAccess 0) ∷ []

-- 01's small jobs 1 to 10, and its whole file
abbrev small : List Case
small = (l4, taken 2 8 2 4) ∷ counted starred (1 ∷ 1 ∷ 3 ∷ 4 ∷ 3 ∷ 3 ∷ 5 ∷ 6 ∷ 6 ∷ 5 ∷ [])

abbrev pairs : ℕ → List Event
pairs zero = []
pairs (suc n) = S ∷ E ∷ pairs n

-- a sync with nothing to join begins no strand, nor does the join inside an end; "64 tasks open at once (root counted)"
abbrev tasks : List Case
tasks =
    (job [] 1 (J ∷ []), taken 0 1 1 1)
    ∷ (job [] 1 (S ∷ E ∷ J ∷ J ∷ []), taken 0 4 1 4)
    ∷ (job [] 1 (S ∷ S ∷ E ∷ E ∷ []), taken 0 4 1 5)
    ∷ (job [] 1 (S ∷ S ∷ E ∷ E ∷ J ∷ []), taken 0 5 1 6)
    ∷ (job [] 1 (E ∷ []), refused RootEnded 0)
    ∷ (job [] 1 (W 0 ∷ E ∷ []), refused RootEnded 1)
    ∷ (job [] 1 (S ∷ E ∷ E ∷ S ∷ []), refused RootEnded 2)
    ∷ (damaged [] 1 (E ∷ []) (coded 6 0 0) [], refused RootEnded 0)
    ∷ (job [] 1 (S ∷ []), refused LeftOpen 0)
    ∷ (job [] 1 (S ∷ J ∷ []), refused LeftOpen 0)
    ∷ (job [] 1 (S ∷ S ∷ E ∷ []), refused LeftOpen 0)
    ∷ (job [] 1 (replicate 63 S ++ replicate 63 E), taken 0 126 1 127)
    ∷ (job [] 1 (replicate 64 S ++ replicate 64 E), refused TooDeep 63)
    ∷ (job [] 1 (replicate 63 S ++ (E ∷ S ∷ S ∷ [])), refused TooDeep 65)
    ∷ (job [] 1 (pairs 64), taken 0 128 1 129)
    ∷ []

-- ---- all the files

abbrev pub cases : List Case
cases = short ++ (marks ++ (record_counts ++ (event_counts ++ (distances ++ (names ++ (codings ++ (record_numbers ++ (small ++ tasks))))))))

-- 2,047 pairs and a join have 4,096 strands; of 2,048 pairs the last end is refused
abbrev pub limits : List Case
limits =
    (job [] 1 (pairs 2047 ++ (J ∷ [])), taken 0 4095 1 4096)
    ∷ (job [] 1 (pairs 2048), refused TooManyStrands 4095)
    ∷ []

-- ---- the last events of a file

-- from the open tasks and the strands begun before them
abbrev lastly : List Bool → ℕ → List Event → Result ℕ Refusal
lastly tasks strands es = trace_from 1 (event_bytes es) 0 tasks strands

abbrev stopped : Fault → ℕ → Result ℕ Refusal
stopped fault e = Err (refusal_of fault e)

-- with the strands used up: what begins none is taken still, and 10 and 11 come before 12
abbrev pub full : List (Result ℕ Refusal × Result ℕ Refusal)
full =
    (lastly (true ∷ []) 4095 (J ∷ J ∷ W 0 ∷ []), Ok 4096)
    ∷ (lastly (true ∷ []) 4095 (J ∷ S ∷ []), stopped TooManyStrands 1)
    ∷ (lastly (true ∷ []) 4095 (S ∷ E ∷ []), stopped TooManyStrands 1)
    ∷ (lastly (true ∷ []) 4095 (S ∷ []), stopped LeftOpen 0)
    ∷ (lastly (true ∷ []) 4096 (J ∷ []), stopped TooManyStrands 0)
    ∷ (lastly (true ∷ []) 4096 (E ∷ []), stopped RootEnded 0)
    ∷ (lastly (replicate 64 true) 4096 (S ∷ []), stopped TooDeep 0)
    ∷ []
