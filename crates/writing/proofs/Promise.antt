-- The promise of `write` as it stands in the source: the code keeps it, it asks nothing of a caller, and it is, word for word, what the
-- theorems are about. Assumes nothing.
use mathlib.Core.Path.{◌≡◌, refl}
use contract.Lifetimes.{Lfts}
use denote.Triple.Clauses.{AtExit}
use borrow.Fn.Kinds.{Dens, ended_of}
use Rattle.std.specs.Prelude.{ℕ, Result}
use Rattle.jobfile.specs.declared.refusal.Refusal.{Refusal}
use Rattle.writing.specs.Gives.{WriteGives}
use Rattle.writing.proofs.write.Kinds as kinds
use Rattle.writing.proofs.write.Reads as write
use Rattle.writing.proofs.write.Statement.{statement}
use Rattle.writing.proofs.write.Met.{met}

-- The code meets its contract: each call ends, and what it gives and leaves is as promised.
pub write_kept : {M : Type 1} → statement M
write_kept = met

module _ (κs : Lfts 3) (a : Dens κs kinds.ps) where
  -- "callers check nothing first"
  pub write_asks : write.Pre κs a ≡ Unit {0}
  write_asks = refl

  -- a: the arguments, s: what is left in what was lent
  pub write_promises : (w : Result ℕ Refusal) (s : AtExit (ended_of 3 kinds.ps kinds.r) κs) → write.Post κs a w s ≡ WriteGives a.0.now a.1.0 a.1.1.0.now a.1.1.1.0.now w s.1.1.1.0.now
  write_promises w s = refl
