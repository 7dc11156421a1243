-- The numbers of each answer as the C interface gives them, the refusal first. Each is a value that the crate of its call defines.
use Rattle.std.specs.Prelude.{ℕ, ◌*◌, List, [], ◌∷◌, Result}
use Rattle.jobfile.specs.File.{refusal_number, refusal_event, name_length, event_count, record_count}
use Rattle.jobfile.specs.declared.job.Job.{Job}
use Rattle.jobfile.specs.declared.refusal.Refusal.{Refusal}
use Rattle.writing.specs.Written.{bytes_written, refusal_number as unwritten_number, refusal_event as unwritten_event}
use Rattle.relation.specs.Question.{answer_number, answer_refusal, answer_event}
use Rattle.relation.specs.declared.Related.{Related}
use Rattle.judging.specs.Answers.{Numbers, numbers_of}
use Rattle.judging.specs.declared.Answer.{Answer as Judged}
use Rattle.per_record.specs.Answers.{numbers_of as records_numbers_of}
use Rattle.per_record.specs.declared.Answer.{Answer as Listed}

-- "Reading gives the name, the event part and the record count": refusal, event, the name's length, where the events start, their length
-- in bytes, records. The name starts the file, so its length is where the events start.
abbrev pub read_numbers : Result Job Refusal → List ℕ
read_numbers c = refusal_number c ∷ refusal_event c ∷ name_length c ∷ name_length c ∷ 4 * event_count c ∷ record_count c ∷ []

-- "Writing .. gives the number of bytes written": refusal, event, bytes written
abbrev pub write_numbers : Result ℕ Refusal → List ℕ
write_numbers w = unwritten_number w ∷ unwritten_event w ∷ bytes_written w ∷ []

-- "answers 0 same event, 1 first before second, 2 second before first, 3 parallel": refusal, event, answer
abbrev pub question_numbers : Result Related Refusal → List ℕ
question_numbers a = answer_refusal a ∷ answer_event a ∷ answer_number a ∷ []

-- "It gives clean or race, the two event numbers, the record, strands begun, and both label counts"
abbrev pub in_order : Numbers → List ℕ
in_order n =
    n.refusal ∷ n.event ∷ n.raced ∷ n.first ∷ n.second ∷ n.number ∷ n.strands ∷ n.english ∷ n.hebrew ∷ []

abbrev pub judge_numbers : Result Judged Refusal → List ℕ
judge_numbers a = in_order (numbers_of a)

-- "gives strands, label counts and the number raced": refusal, event, records raced, strands, English count, Hebrew count
abbrev pub records_numbers : Result Listed Refusal → List ℕ
records_numbers a =
    let n = records_numbers_of a in
    n.refusal ∷ n.event ∷ n.raced ∷ n.strands ∷ n.english ∷ n.hebrew ∷ []
