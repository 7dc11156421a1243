-- What judging every record gives and leaves: its contract.
use Rattle.std.specs.Prelude.{ℕ, ◌≡◌, List, Result}
use Rattle.trailer.specs.Table.{ExactNumbers}
use Rattle.jobfile.specs.declared.refusal.Refusal.{Refusal}
use Rattle.taking.specs.Buffers.{Buffers}
use Rattle.per_record.specs.Lists.{Lists}
use Rattle.per_record.specs.declared.Answer.{Answer}
use Rattle.per_record.specs.Answers.{records_of, numbers_of}
use Rattle.per_record.specs.Rows.{records_table}
use Rattle.per_record.specs.Leaves.{Leaves}

-- r is what it gives for a file, k, the buffers B₀ and the lists L₀, and B and L are what it leaves in these
pub record RecordsGives (file : List ℕ) (k : ℕ) (B₀ : Buffers) (L₀ : Lists) (r : Result Answer Refusal) (B : Buffers) (L : Lists) : Type 0 where
  pub answer : r ≡ records_of file k B₀ L₀
  pub leaves : Leaves r file k B₀ L₀ B L
  pub told : ExactNumbers (records_table file k B₀ L₀) (numbers_of r).refusal (numbers_of r).event
