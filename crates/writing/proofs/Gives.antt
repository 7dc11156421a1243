-- An answer of a write, which is the definition's, in the paper's numbers; and what it leaves. Assumes nothing.
use Prim.Native.Nat.{ℕ, ◌<◌}
use mathlib.Core.Path.{◌≡◌, refl, ◌∙◌}
use mathlib.Core.List.{List}
use native.Mathlib.Omega.{arith}
use lib.ListN.{length}
use Rattle.writing.specs.Written.{written_file, write_of, left_by, WriteFits, refusal_number, bytes_written}
use Rattle.writing.specs.Gives.{WriteGives}
use Rattle.std.specs.Prelude.{Result, Ok, Err}
use Rattle.jobfile.specs.declared.refusal.Refusal.{Refusal}
use Rattle.writing.proofs.Answers.{out_by}
use Rattle.writing.proofs.Rows.{writing_exact, writing_numbers}

no_bytes : (w : Result ℕ Refusal) → 0 < refusal_number w → bytes_written w ≡ 0
no_bytes (Ok n) h = absurd (omega (arith, h))
no_bytes (Err r) h = refl

module _ (name : List ℕ) (records : ℕ) (events out : List ℕ) (w : Result ℕ Refusal) (left : List ℕ) where
  pub write_gives : w ≡ write_of name records events (length out) → left ≡ left_by w (written_file name records events) out → WriteFits w (length out)
      → WriteGives name records events out w left
  write_gives e l f = record {
    answer = e;
    contents = l ∙ out_by name records events out w e;
    told = rw e (writing_numbers name records events (length out));
    written = λ z.
        let none = (writing_numbers name records events (length out)).none.0 (rw e at z) in
        rw (e, (writing_exact name records events (length out)).none.1 none) refl;
    refused = no_bytes w;
    fits = f;
  }
