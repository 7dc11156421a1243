-- The promise of `check` as it stands in the source: the code keeps it, it asks nothing of a caller, and it is, word for word, what the
-- theorems are about. Assumes nothing.
use mathlib.Core.Path.{◌≡◌, refl}
use contract.Lifetimes.{Lfts}
use denote.Triple.Clauses.{AtExit}
use borrow.Fn.Kinds.{Dens, ended_of}
use Rattle.std.specs.Prelude.{Result}
use Rattle.jobfile.specs.declared.job.Job.{Job}
use Rattle.jobfile.specs.declared.refusal.Refusal.{Refusal}
use Rattle.jobfile.specs.Gives.{CheckGives}
use Rattle.jobfile.proofs.check.Kinds as kinds
use Rattle.jobfile.proofs.check.Reads as check
use Rattle.jobfile.proofs.check.Statement.{statement}
use Rattle.jobfile.proofs.check.Met.{met}

-- The code meets its contract: each call ends, and what it gives and leaves is as promised.
pub check_kept : {M : Type 1} → statement M
check_kept = met

module _ (κs : Lfts 1) (a : Dens κs kinds.ps) where
  -- "callers check nothing first"
  pub check_asks : check.Pre κs a ≡ Unit {0}
  check_asks = refl

  -- a: the arguments, s: what is left in what was lent
  pub check_promises : (r : Result Job Refusal) (s : AtExit (ended_of 1 kinds.ps kinds.r) κs) → check.Post κs a r s ≡ CheckGives a.0.now r
  check_promises r s = refl
