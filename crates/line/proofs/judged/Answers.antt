-- `line::judged` meets its contract: the event part and the name are where the job says, the answer is judging's for all events, and the
-- text of these is the line. A refusal's text is the line as well. Assumes nothing.
use mathlib.Core.Path.{sym, ◌∙◌}
use Rattle.std.proofs.lemmas.Result.{err_from_is_err_and}
use Rattle.line.proofs.Parts.{refused_line, leaves_none, refused_is, pair_there, line_is, leaves_all, start_short}
use Rattle.line.proofs.judged.Goals as goal

pub returns-in_err-job-clause-text_gives : goal.returns-in_err-job-clause-text_gives
returns-in_err-job-clause-text_gives c =
    let p = err_from_is_err_and c.from_residual.result c.from_residual.ensures.1 in
    let refused = sym c.in_err-job.ensures.answer in
    rw (p.1, p.2) (record { line = (refused_line _ _ _ _ _ refused).1; buffers = leaves_none _ _ _ _ _ refused _ })

pub returns-in_err-answer-clause-text_gives : goal.returns-in_err-answer-clause-text_gives
returns-in_err-answer-clause-text_gives c =
    let p = err_from_is_err_and c.from_residual-in_err-answer.result c.from_residual-in_err-answer.ensures.1 in
    let taken = sym c.in_ok-job.ensures.answer in
    let given = c.in_err-answer.ensures.judged in
    rw (p.1, p.2) (record {
      line = refused_is _ _ _ _ _ taken _ given.answer;
      buffers = leaves_all _ _ _ _ _ taken _ given.answer _ _ given.leaves;
    })

pub answer-requires-clause-name_len_bound : goal.answer-requires-clause-name_len_bound
answer-requires-clause-name_len_bound c =
    rw c.name.ensures.bytes (start_short _ _ (sym c.in_ok-job.ensures.answer))

pub answer-requires-clause-pair_within : goal.answer-requires-clause-pair_within
answer-requires-clause-pair_within c =
    rw c.part.ensures.bytes (pair_there _ _ _ _ _ (sym c.in_ok-job.ensures.answer) _ c.in_ok-answer.ensures.judged.answer)

pub returns-clause-text_gives : goal.returns-clause-text_gives
returns-clause-text_gives c =
    let taken = sym c.in_ok-job.ensures.answer in
    let given = c.in_ok-answer.ensures.judged in
    record {
      line = (rw (c.part.ensures.bytes, c.name.ensures.bytes) at c.answer.ensures) ∙ line_is _ _ _ _ _ taken _ given.answer;
      buffers = leaves_all _ _ _ _ _ taken _ given.answer _ _ given.leaves;
    }
