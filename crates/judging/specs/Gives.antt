-- What judging gives and leaves: its contract.
use Rattle.std.specs.Prelude.{ℕ, ◌≡◌, List}
use Rattle.trailer.specs.Table.{ExactNumbers}
use Rattle.taking.specs.Buffers.{Buffers}
use Rattle.std.specs.Prelude.{Result}
use Rattle.jobfile.specs.declared.refusal.Refusal.{Refusal}
use Rattle.judging.specs.declared.Answer.{Answer}
use Rattle.judging.specs.Answers.{judge_with, numbers_of}
use Rattle.judging.specs.Rows.{judge_table_with}
use Rattle.judging.specs.Leaves.{Leaves}

-- r is what it gives for a file, k and the buffers B₀, and B is what it leaves in these
pub record JudgeGives (file : List ℕ) (k : ℕ) (B₀ : Buffers) (r : Result Answer Refusal) (B : Buffers) : Type 0 where
  pub answer : r ≡ judge_with file k B₀
  pub leaves : Leaves r file k B₀ B
  -- the refusal, if any, in the paper's numbers. The others, of an answer that is none, are what demands 2 and 3 speak of.
  pub told : ExactNumbers (judge_table_with file k B₀) (numbers_of r).refusal (numbers_of r).event
