-- What the C calls that write to a caller's buffers give and leave: their contracts. Those of reading and of the question are one equation
-- each.
use Rattle.std.specs.Prelude.{◌≡◌, List, ℕ, length}
use Rattle.writing.specs.Written.{write_of, out_after}
use Rattle.taking.specs.Buffers.{Buffers}
use Rattle.judging.specs.Answers.{judge_with}
use Rattle.judging.specs.Leaves.{Leaves}
use Rattle.per_record.specs.Lists.{Lists}
use Rattle.per_record.specs.Answers.{records_of}
use Rattle.per_record.specs.Leaves.{Leaves as LeavesLists}
use Rattle.exports.specs.Numbers.{write_numbers, judge_numbers, records_numbers}

-- `rz_write`: A is what `answer` holds afterwards; the output was lent as `out`, and is `left`
pub record WriteCallGives (name : List ℕ) (records : ℕ) (events out A left : List ℕ) : Type 0 where
  pub numbers : A ≡ write_numbers (write_of name records events (length out))
  pub contents : left ≡ out_after name records events out

-- `rz_judge`: A is what `answer` holds afterwards; the buffers were lent as B₀, and are B
pub record JudgeCallGives (file : List ℕ) (k : ℕ) (B₀ : Buffers) (A : List ℕ) (B : Buffers) : Type 0 where
  pub numbers : A ≡ judge_numbers (judge_with file k B₀)
  pub leaves : Leaves (judge_with file k B₀) file k B₀ B

-- `rz_judge_records`: the same, and the lists were lent as L₀, and are L
pub record RecordsCallGives (file : List ℕ) (k : ℕ) (B₀ : Buffers) (L₀ : Lists) (A : List ℕ) (B : Buffers) (L : Lists) : Type 0 where
  pub numbers : A ≡ records_numbers (records_of file k B₀ L₀)
  pub leaves : LeavesLists (records_of file k B₀ L₀) file k B₀ L₀ B L
