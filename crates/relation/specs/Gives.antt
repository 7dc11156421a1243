-- What the question gives: its contract.
use Rattle.std.specs.Prelude.{ℕ, zero, suc, ◌≡◌, ◌⊎◌, List, Result}
use Rattle.trailer.specs.Table.{ExactNumbers}
use Rattle.jobfile.specs.Rows.{part_in}
use Rattle.jobfile.specs.Trace.{event_at, moves}
use Rattle.jobfile.specs.declared.event.Move.{Move}
use Rattle.relation.specs.Parallel.{Before, Parallel}
use Rattle.relation.specs.Question.{question_of, answer_number, answer_refusal, answer_event}
use Rattle.relation.specs.Rows.{question_table}
use Rattle.jobfile.specs.declared.refusal.Refusal.{Refusal}
use Rattle.relation.specs.declared.Related.{Related}

-- "0 same event, 1 first before second, 2 second before first, 3 parallel"
abbrev pub Means : (ℕ → Move) → ℕ → ℕ → ℕ → Type 0
Means mv i j zero = i ≡ j
Means mv i j (suc zero) = Before mv i j
Means mv i j (suc (suc zero)) = Before mv j i
Means mv i j (suc (suc (suc n))) = Parallel mv i j ⊎ Parallel mv j i

pub record QuestionGives (file : List ℕ) (i j : ℕ) (r : Result Related Refusal) : Type 0 where
  pub answer : r ≡ question_of file i j
  -- the same in the paper's numbers: which refusal, if any; and what the answer means by the definition
  pub told : ExactNumbers (question_table file i j) (answer_refusal r) (answer_event r)
  pub answered : answer_refusal r ≡ 0 → Means (moves (event_at (part_in file))) i j (answer_number r)
