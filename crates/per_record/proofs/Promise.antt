-- The promise of `judge` as it stands in the source: the code keeps it, it asks nothing of a caller, and it is, word for word, what the
-- theorems are about. Assumes nothing.
use mathlib.Core.Path.{◌≡◌, refl}
use contract.Lifetimes.{Lfts}
use denote.Triple.Clauses.{AtExit}
use borrow.Fn.Kinds.{Dens, ended_of}
use Rattle.taking.specs.WorkBuffers.{lists_in, SameReferences}
use Rattle.std.specs.Prelude.{Result}
use Rattle.jobfile.specs.declared.refusal.Refusal.{Refusal}
use Rattle.per_record.specs.declared.Answer.{Answer}
use Rattle.per_record.specs.RaceLists.{entries_in, SameLists}
use Rattle.per_record.specs.Gives.{RecordsGives}
use Rattle.per_record.proofs.judge.Kinds as kinds
use Rattle.per_record.proofs.judge.Reads as judge
use Rattle.per_record.proofs.judge.Statement.{statement}
use Rattle.per_record.proofs.judge.Met.{met}

-- The code meets its contract: each call ends, and what it gives and leaves is as promised.
pub records_kept : {M : Type 1} → statement M
records_kept = met

module _ (κs : Lfts 5) (a : Dens κs kinds.ps) where
  -- "callers check nothing first"
  pub records_asks : judge.Pre κs a ≡ Unit {0}
  records_asks = refl

  -- a: the arguments, s: what is left in what was lent
  pub records_promises : (r : Result Answer Refusal) (s : AtExit (ended_of 5 kinds.ps kinds.r) κs)
      → judge.Post κs a r s
      ≡ (RecordsGives a.0.now a.1.0 (lists_in a.1.1.0.now) (entries_in a.1.1.1.0.now) r (lists_in s.1.1.0.now) (entries_in s.1.1.1.0.now)
      × (SameReferences a.1.1.0.now s.1.1.0.now × SameLists a.1.1.1.0.now s.1.1.1.0.now))
  records_promises r s = refl
