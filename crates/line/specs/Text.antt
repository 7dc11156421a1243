-- The words, numbers and fields of a line as bytes, and the text of each answer.
use Rattle.std.specs.Prelude.{ℕ, zero, suc, ◌+◌, ◌*◌, ◌/◌, ◌%◌, ◌≤◌, cond, List, [], ◌∷◌, ◌++◌, ltb, Option, None, Some, Result, Ok, Err}
use Prim.Native.String.{String, [] as empty, ◌∷◌ as ◌then◌}
use Prim.Native.Char.{code}
use Rattle.jobfile.specs.Trace.{event_at}
use Rattle.jobfile.specs.Events.{access_of}
use Rattle.jobfile.specs.declared.event.Kind.TheVariants.{Write, Read}
use Rattle.jobfile.specs.declared.event.Kind.{Kind}
use Rattle.jobfile.specs.declared.event.Access.{Access}
use Rattle.jobfile.specs.Refusals.{number_in}
use Rattle.jobfile.specs.declared.refusal.Refusal.{Refusal}
use Rattle.judging.specs.declared.Answer.{Answer}
use Rattle.judging.specs.declared.Answer.TheVariants.{Clean, Race}

-- a word as bytes
abbrev pub ascii : String → List ℕ
ascii empty = []
ascii (c then s) = code c ∷ ascii s

-- a number in decimal, without leading zeros: one below 10 is one digit, any other has the digits of its tenth and one more.
-- `most` only bounds the recursion.
unfoldable pub digits_within : ℕ → ℕ → List ℕ
digits_within zero n = []
digits_within (suc most) n = cond (ltb n 10) ((48 + n) ∷ []) (digits_within most (n / 10) ++ ((48 + n % 10) ∷ []))

-- a number of 64 bits is below 10^20
abbrev pub digits_of : ℕ → List ℕ
digits_of n = digits_within 20 n

-- "the kinds of both accesses": R or W; an event that is no access has no letter
abbrev pub kind_letter : Kind → List ℕ
kind_letter Read = 82 ∷ []
kind_letter Write = 87 ∷ []

abbrev pub letter_of : Option Access → List ℕ
letter_of None = []
letter_of (Some a) = kind_letter a.kind

-- The parts of a line.
unfoldable pub pair_text : ℕ → ℕ → ℕ → List ℕ
pair_text number first second =
    ascii "race record " ++ digits_of number ++ (ascii " first " ++ digits_of first ++ (ascii " second " ++ digits_of second))

unfoldable pub kinds_text : Option Access → Option Access → List ℕ
kinds_text a b = ascii " kinds " ++ (letter_of a ++ letter_of b)

unfoldable pub counts_text : ℕ → ℕ → ℕ → List ℕ
counts_text strands english hebrew =
    ascii " strands " ++ digits_of strands ++ (ascii " english " ++ digits_of english ++ (ascii " hebrew " ++ digits_of hebrew))

-- "the name to the line's end (an empty name leaves the space before it)"
unfoldable pub name_text : List ℕ → List ℕ
name_text name = ascii " name " ++ (name ++ ascii "\n")

-- "A clean line is `clean strands S english A hebrew B name N`"
abbrev pub clean_text : ℕ → ℕ → ℕ → List ℕ → List ℕ
clean_text strands english hebrew name = ascii "clean" ++ (counts_text strands english hebrew ++ name_text name)

-- "Fields: record, the two event numbers, the kinds of both accesses, strands, the two label counts, the name to the line's end":
-- `race record R first I second J kinds XY strands S english A hebrew B name N`
abbrev pub race_text : ℕ → ℕ → ℕ → ℕ → ℕ → ℕ → List ℕ → List ℕ → List ℕ
race_text first second number strands english hebrew events name =
    pair_text number first second ++ (kinds_text (access_of (event_at events first)) (access_of (event_at events second)) ++ (counts_text strands english hebrew ++ name_text name))

-- "a refusal is `refused N event K`"
unfoldable pub refusal_text : Refusal → List ℕ
refusal_text r = ascii "refused " ++ digits_of (number_in r) ++ (ascii " event " ++ digits_of r.event ++ ascii "\n")

-- the line of an answer, for the event part and the name of the file
abbrev pub judged_text : Answer → List ℕ → List ℕ → List ℕ
judged_text (Clean c) events name = clean_text c.strands c.english c.hebrew name
judged_text (Race first second number c) events name = race_text first second number c.strands c.english c.hebrew events name

abbrev pub answer_text : Result Answer Refusal → List ℕ → List ℕ → List ℕ
answer_text (Ok answer) events name = judged_text answer events name
answer_text (Err r) events name = refusal_text r

-- the pair of an answer that names one is within so many bytes of events
abbrev pub PairWithin : Answer → ℕ → Type 0
PairWithin (Clean c) room = Unit {0}
PairWithin (Race first second number c) room = (4 * first + 4 ≤ room) × (4 * second + 4 ≤ room)
