-- The lines of the raced records and the last line as bytes, and the text of each answer.
use Rattle.std.specs.Prelude.{ℕ, zero, suc, ◌+◌, ◌*◌, ◌≤◌, ◌<◌, cond, List, [], ◌++◌, eqb, get_or, Result, Ok, Err}
use Rattle.jobfile.specs.Trace.{event_at}
use Rattle.jobfile.specs.Events.{access_of}
use Rattle.races.specs.Records.{Pair, no_pair, pair}
use Rattle.per_record.specs.Lists.{Lists, LongEnough}
use Rattle.per_record.specs.declared.Answer.{Answer}
use Rattle.jobfile.specs.declared.refusal.Refusal.{Refusal}
use Rattle.line.specs.Text.{ascii, digits_of, pair_text, kinds_text, counts_text, name_text, clean_text, refusal_text}

-- `race record R first I second J kinds XY`
unfoldable pub entry_text : List ℕ → ℕ → ℕ → ℕ → List ℕ
entry_text events number first second =
    pair_text number first second ++ (kinds_text (access_of (event_at events first)) (access_of (event_at events second)) ++ ascii "\n")

-- the line of record r, if it has a pair
abbrev pub pair_line : List ℕ → ℕ → Pair → List ℕ
pair_line events r no_pair = []
pair_line events r (pair i j) = entry_text events r i j

-- "for each raced record, in record order": the lines of the records below r, for what pairs the records have
unfoldable pub pair_lines : List ℕ → (ℕ → Pair) → ℕ → List ℕ
pair_lines events pairs zero = []
pair_lines events pairs (suc r) = pair_lines events pairs r ++ pair_line events r (pairs r)

-- `raced N strands S english A hebrew B name NAME`
abbrev pub raced_text : ℕ → ℕ → ℕ → ℕ → List ℕ → List ℕ
raced_text raced strands english hebrew name = ascii "raced " ++ digits_of raced ++ (counts_text strands english hebrew ++ name_text name)

-- the lines of the records, "then" the last one; "where nothing is raced the clean line of `judge`"
unfoldable pub judged_text : List ℕ → ℕ → ℕ → ℕ → ℕ → List ℕ → List ℕ
judged_text lines raced strands english hebrew name =
    cond (eqb raced 0) (clean_text strands english hebrew name) (lines ++ raced_text raced strands english hebrew name)

-- the text of an answer, for the lines of the records and the name of the file
abbrev pub text_with : Answer → List ℕ → List ℕ → List ℕ
text_with a lines name = judged_text lines a.raced a.counts.strands a.counts.english a.counts.hebrew name

abbrev pub answer_text : Result Answer Refusal → List ℕ → List ℕ → List ℕ
answer_text (Ok a) lines name = text_with a lines name
answer_text (Err r) lines name = refusal_text r

-- the lines of the first n entries of the lists, as they are put: these are the lines of the raced records (`entries_are_pairs`)
unfoldable pub entries_text : List ℕ → Lists → ℕ → List ℕ
entries_text events L zero = []
entries_text events L (suc n) =
    entries_text events L n ++ entry_text events (get_or L.records n 0) (get_or L.firsts n 0) (get_or L.seconds n 0)

-- the text of an answer with the lines of the entries that it counts
abbrev pub listed_text : Answer → List ℕ → Lists → List ℕ → List ℕ
listed_text a events L name = text_with a (entries_text events L a.raced) name

-- the first n entries are there, and the events of each are within so many bytes of events
pub record EntriesWithin (room : ℕ) (L : Lists) (n : ℕ) : Type 0 where
  pub there : LongEnough n L
  pub first_within : (m : ℕ) → m < n → 4 * get_or L.firsts m 0 + 4 ≤ room
  pub second_within : (m : ℕ) → m < n → 4 * get_or L.seconds m 0 + 4 ≤ room

-- so are those that an answer counts, and they are as many as a job can have at most
abbrev pub AnswerWithin : Answer → ℕ → Lists → Type 0
AnswerWithin a room L = (a.raced ≤ 4096) × EntriesWithin room L a.raced
