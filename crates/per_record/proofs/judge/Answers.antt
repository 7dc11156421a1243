-- `judge` meets its contract: a file that is refused stores nothing, and an accepted one is judged with what the check gave. Assumes nothing.
use mathlib.Core.Path.{refl, sym}
use Rattle.std.proofs.lemmas.Result.{err_from_is_err_and}
use Rattle.per_record.proofs.Files.{records_unread}
use Rattle.per_record.proofs.Gives.{records_gives}
use Rattle.per_record.proofs.judge.Goals as goal

pub returns-in_err-job-clause-gives : goal.returns-in_err-job-clause-gives
returns-in_err-job-clause-gives c =
    let p = err_from_is_err_and c.from_residual.result c.from_residual.ensures.1 in
    rw (p.1, p.2) (records_gives _ _ _ _ _ _ _ (records_unread _ _ _ _ _ (sym c.in_err-job.ensures.answer)) (refl, refl))
