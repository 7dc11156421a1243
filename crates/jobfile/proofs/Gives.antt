-- An answer of the check, which is the definition's, in the paper's numbers. Assumes nothing.
use Prim.Native.Nat.{ℕ, ◌<◌}
use mathlib.Core.Path.{◌≡◌, refl}
use mathlib.Core.List.{List}
use native.Mathlib.Omega.{arith}
use lib.ListN.{length}
use Rattle.jobfile.specs.File.{check_of, CheckFits, refusal_number}
use Rattle.jobfile.specs.Rows.{job_in}
use Rattle.jobfile.specs.Gives.{Reads, CheckGives}
use Rattle.std.specs.Prelude.{Result, Ok, Err}
use Rattle.jobfile.specs.declared.job.Job.{Job}
use Rattle.jobfile.specs.declared.refusal.Refusal.{Refusal}
use Rattle.jobfile.proofs.Rows.{reading_exact, reading_numbers}

zeros : (r : Result Job Refusal) → 0 < refusal_number r → Reads r 0 0 0
zeros (Ok j) h = absurd (omega (arith, h))
zeros (Err r) h = record { name_length_is = refl; event_count_is = refl; record_count_is = refl }

pub check_gives : (file : List ℕ) (r : Result Job Refusal) → r ≡ check_of file → CheckFits r (length file) → CheckGives file r
check_gives file r e f = record {
  answer = e;
  told = rw e (reading_numbers file);
  accepted = λ z.
      let taken : check_of file ≡ Ok (job_in file) = (reading_exact file).none.1 ((reading_numbers file).none.0 (rw e at z)) in
      rw (e, taken) (record { name_length_is = refl; event_count_is = refl; record_count_is = refl });
  refused = zeros r;
  fits = f;
}
