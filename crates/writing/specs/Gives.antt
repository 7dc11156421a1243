-- What a write gives and leaves: its contract.
use Rattle.std.specs.Prelude.{ℕ, ◌<◌, ◌≡◌, List, length, Result}
use Rattle.trailer.specs.Table.{ExactNumbers}
use Rattle.jobfile.specs.declared.refusal.Refusal.{Refusal}
use Rattle.writing.specs.Written.{written_file, write_of, out_after, WriteFits, refusal_number, refusal_event, bytes_written}
use Rattle.writing.specs.Rows.{write_table}

-- w is what it gives for a name, a record count, event bytes and the buffer `out`, and `left` is what it leaves in that
pub record WriteGives (name : List ℕ) (records : ℕ) (events out : List ℕ) (w : Result ℕ Refusal) (left : List ℕ) : Type 0 where
  pub answer : w ≡ write_of name records events (length out)
  pub contents : left ≡ out_after name records events out
  -- the answer in the paper's numbers: which refusal, if any; and the number of bytes written, which a refusal has 0 for
  pub told : ExactNumbers (write_table name records events (length out)) (refusal_number w) (refusal_event w)
  pub written : refusal_number w ≡ 0 → bytes_written w ≡ length (written_file name records events)
  pub refused : 0 < refusal_number w → bytes_written w ≡ 0
  -- the bounds that a caller needs
  pub fits : WriteFits w (length out)
