-- `jobfile::tasks::access` meets its contract: the test is that of refusal 9. Assumes nothing.
use native.Mathlib.Omega.{arith}
use Rattle.jobfile.proofs.Moves.{access_on, access_over}
use Rattle.jobfile.proofs.tasks.access.Goals as goal

pub returns-then-r-records : goal.returns-then-r-records
returns-then-r-records c =
    access_on _ _ _ _ _ c.if-r-records.true c.args.tasks.within.3

pub returns : goal.returns
returns c =
    (access_over _ _ _ _ _ c.if-r-records.false, omega arith, omega arith)
