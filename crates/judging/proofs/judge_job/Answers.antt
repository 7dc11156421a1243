-- `judging::judge_job` meets its contract: a test that fails stores nothing; otherwise the answer and the buffers are those of the run over
-- the events. Assumes nothing.
use mathlib.Core.Path.{refl}
use native.Mathlib.Omega.{arith}
use Rattle.std.proofs.lemmas.Result.{err_from_is_err_and}
use Rattle.jobfile.proofs.Checking.{accepted_fits}
use Rattle.judging.proofs.Files.{judge_refused, file_run, judge_run, leaves_run}
use Rattle.judging.proofs.Gives.{judge_gives}
use Rattle.judging.proofs.judge_job.Goals as goal

pub returns-in_err-judgeable-clause-judged : goal.returns-in_err-judgeable-clause-judged
returns-in_err-judgeable-clause-judged c =
    let p = err_from_is_err_and c.from_residual.result c.from_residual.ensures.1 in
    rw (p.1, p.2) (judge_gives _ _ _ _ _ (judge_refused _ _ _ _ _ _ c.requires _ c.in_err-judgeable.ensures.value) refl)

-- An accepted file has the events that its job tells,
-- and no more than 1,000,000 of them.
pub part-requires : goal.part-requires
part-requires c =
    omega (arith, accepted_fits _ _ c.requires)

pub run-requires-clause-run : goal.run-requires-clause-run
run-requires-clause-run c =
    rw c.part.ensures.bytes (file_run _ _ _ c.requires c.in_ok-judgeable.ensures.judgeable_bound.0)

pub returns-clause-judged : goal.returns-clause-judged
returns-clause-judged c =
    judge_gives _ _ _ _ _
    (judge_run _ _ _ _ _ _ c.requires _ c.in_ok-judgeable.ensures.value (rw c.part.ensures.bytes at c.run.ensures.value))
    (leaves_run _ _ _ _ _ c.requires _ (rw c.part.ensures.bytes at c.run.ensures.value) (rw c.part.ensures.bytes at c.run.ensures.shows))
