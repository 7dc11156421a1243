-- The promise of `judge` as it stands in the source: the code keeps it, it asks nothing of a caller, and it is, word for word, what the
-- demands are about. Assumes nothing.
use mathlib.Core.Path.{◌≡◌, refl}
use contract.Lifetimes.{Lfts}
use denote.Triple.Clauses.{AtExit}
use borrow.Fn.Kinds.{Dens, ended_of}
use Rattle.taking.specs.WorkBuffers.{lists_in, SameReferences}
use Rattle.std.specs.Prelude.{Result}
use Rattle.jobfile.specs.declared.refusal.Refusal.{Refusal}
use Rattle.judging.specs.declared.Answer.{Answer}
use Rattle.judging.specs.Gives.{JudgeGives}
use Rattle.judging.proofs.judge.Kinds as kinds
use Rattle.judging.proofs.judge.Reads as judge
use Rattle.judging.proofs.judge.Statement.{statement}
use Rattle.judging.proofs.judge.Met.{met}

-- The code meets its contract: each call ends, and what it gives and leaves is as promised.
pub judge_kept : {M : Type 1} → statement M
judge_kept = met

module _ (κs : Lfts 3) (a : Dens κs kinds.ps) where
  -- "callers check nothing first"
  pub judge_asks : judge.Pre κs a ≡ Unit {0}
  judge_asks = refl

  -- a: the arguments, s: what is left in what was lent
  pub judge_promises : (r : Result Answer Refusal) (s : AtExit (ended_of 3 kinds.ps kinds.r) κs)
      → judge.Post κs a r s
      ≡ (JudgeGives a.0.now a.1.0 (lists_in a.1.1.0.now) r (lists_in s.1.1.0.now)
      × SameReferences a.1.1.0.now s.1.1.0.now)
  judge_promises r s = refl
