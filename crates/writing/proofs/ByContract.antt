-- What holds of whatever the contract of `write` allows: a refusal stores nothing, and the round trip. Assumes nothing.
use Prim.Native.Nat.{ℕ, ◌≤◌, ◌<◌}
use mathlib.Core.Path.{◌≡◌, refl, sym, ◌∙◌}
use mathlib.Core.List.{List, ◌++◌}
use native.Mathlib.Omega.{arith}
use lib.ListN.{length, take, drop}
use Rattle.std.specs.Prelude.{Result, Ok, Err}
use Rattle.jobfile.specs.File.{event_part, record_count, refusal_number as read_number}
use Rattle.jobfile.specs.Rows.{job_in}
use Rattle.jobfile.specs.Gives.{CheckGives}
use Rattle.jobfile.specs.declared.refusal.Refusal.{Refusal}
use Rattle.jobfile.specs.declared.job.Job.{Job}
use Rattle.jobfile.proofs.Rows.{reading_exact, reading_numbers}
use Rattle.writing.specs.Written.{written_file, left_by, refusal_number, bytes_written}
use Rattle.writing.specs.RoundTrip.{name_part, ReadBack, AreBytes}
use Rattle.writing.specs.Gives.{WriteGives}
use Rattle.writing.proofs.Answers.{out_by}
use Rattle.writing.proofs.Rows.{writing_exact, writing_numbers}
use Rattle.writing.proofs.RoundTrip.{written_reads_back}
use Rattle.writing.proofs.WrittenAgain.{read_writes_back}

module _ (name : List ℕ) (records : ℕ) (events out : List ℕ) (w : Result ℕ Refusal) (left : List ℕ) (G : WriteGives name records events out w left) where
  -- a refusal stores nothing
  pub write_stores : 0 < refusal_number w → left ≡ out
  write_stores h = G.contents ∙ sym (out_by name records events out w G.answer) ∙ by w h
    where
      by : (v : Result ℕ Refusal) → 0 < refusal_number v → left_by v (written_file name records events) out ≡ out
      by (Ok n) z = absurd (omega (arith, z))
      by (Err r) z = refl

  -- "A job written and read back is the same job"
  pub write_reads_back : refusal_number w ≡ 0 → ReadBack (take (bytes_written w) left) name records events
  write_reads_back z =
      let none = (writing_numbers name records events (length out)).none.0 (rw G.answer at z) in
      let e = (writing_exact name records events (length out)).none.1 none in
      rw (G.answer, e, G.contents) (written_reads_back name records events out (length (written_file name records events)) e)

-- "an accepted file written again is the same bytes"
pub read_writes_again : (file : List ℕ) (r : Result Job Refusal) → AreBytes file → CheckGives file r → read_number r ≡ 0
    → (out : List ℕ) → length file ≤ length out → (w : Result ℕ Refusal) (left : List ℕ) → WriteGives (name_part file) (record_count r) (event_part file) out w left
    → (bytes_written w ≡ length file) × (left ≡ file ++ drop (length file) out)
read_writes_again file r bytes C z out room w left G =
    let taken = (reading_exact file).none.1 ((reading_numbers file).none.0 (rw C.answer at z)) in
    let S = read_writes_back file out (job_in file) bytes taken room in
    let e : w ≡ Ok (length file) = G.answer ∙ rw C.answer S.written in
    let l : left ≡ file ++ drop (length file) out = G.contents ∙ rw C.answer S.left in
    (rw e refl, l)
