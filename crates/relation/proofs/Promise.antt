-- The promise of `question` as it stands in the source: the code keeps it, it asks nothing of a caller, and it is, word for word, what the
-- theorems are about. Assumes nothing.
use mathlib.Core.Path.{◌≡◌, refl}
use contract.Lifetimes.{Lfts}
use denote.Triple.Clauses.{AtExit}
use borrow.Fn.Kinds.{Dens, ended_of}
use Rattle.std.specs.Prelude.{Result}
use Rattle.jobfile.specs.declared.refusal.Refusal.{Refusal}
use Rattle.relation.specs.declared.Related.{Related}
use Rattle.relation.specs.Gives.{QuestionGives}
use Rattle.relation.proofs.question.Kinds as kinds
use Rattle.relation.proofs.question.Reads as question
use Rattle.relation.proofs.question.Statement.{statement}
use Rattle.relation.proofs.question.Met.{met}

-- The code meets its contract: each call ends, and what it gives and leaves is as promised.
pub question_kept : {M : Type 1} → statement M
question_kept = met

module _ (κs : Lfts 1) (a : Dens κs kinds.ps) where
  -- "callers check nothing first"
  pub question_asks : question.Pre κs a ≡ Unit {0}
  question_asks = refl

  -- a: the arguments, s: what is left in what was lent
  pub question_promises : (r : Result Related Refusal) (s : AtExit (ended_of 1 kinds.ps kinds.r) κs) → question.Post κs a r s ≡ QuestionGives a.0.now a.1.0 a.1.1.0 r
  question_promises r s = refl
