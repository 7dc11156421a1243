-- `relation::question` meets its contract: the check's answer picks the case, and an accepted file's events can be walked.
-- Assumes nothing.
use mathlib.Core.Path.{sym, ◌∙◌}
use Rattle.std.proofs.lemmas.Result.{err_from_is_err_and}
use Rattle.relation.proofs.Files.{question_unread, question_asked, stretch_file}
use Rattle.relation.proofs.Gives.{question_gives}
use Rattle.relation.proofs.question.Goals as goal

pub returns-in_err-job : goal.returns-in_err-job
returns-in_err-job c =
    let p = err_from_is_err_and c.from_residual.result c.from_residual.ensures.1 in
    rw (p.1, p.2) (question_gives _ _ _ _ (sym (question_unread _ _ _ _ (sym c.in_err-job.ensures.answer))))

pub asked-requires : goal.asked-requires
asked-requires c =
    rw c.part.ensures.bytes (stretch_file c.args.file.now c.in_ok-job.job (sym c.in_ok-job.ensures.answer))

pub returns : goal.returns
returns c =
    question_gives _ _ _ _
    ((rw c.part.ensures.bytes at c.asked.ensures) ∙ sym (question_asked _ c.in_ok-job.job (sym c.in_ok-job.ensures.answer) _ _))
