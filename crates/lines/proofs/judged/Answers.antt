-- `lines::judged` meets its contract: the event part and the name are where the job says, the answer is that about every record for all
-- events, and the text of these is the input's. Assumes nothing.
use mathlib.Core.Path.{refl, sym}
use Rattle.std.proofs.lemmas.Result.{err_from_is_err_and}
use Rattle.line.proofs.Parts.{start_short}
use Rattle.lines.proofs.AllEvents.{refused_text, leaves_none, refused_is, answer_there, text_is, leaves_all}
use Rattle.lines.proofs.judged.Goals as goal

pub returns-in_err-job-clause-judged_gives : goal.returns-in_err-job-clause-judged_gives
returns-in_err-job-clause-judged_gives c =
    let p = err_from_is_err_and c.from_residual.result c.from_residual.ensures.1 in
    let refused = sym c.in_err-job.ensures.answer in
    rw (p.1, p.2) (record { output = refl; text = refused_text _ _ _ _ refused; leaves = leaves_none _ _ _ _ refused })

pub returns-in_err-answer-clause-judged_gives : goal.returns-in_err-answer-clause-judged_gives
returns-in_err-answer-clause-judged_gives c =
    let p = err_from_is_err_and c.from_residual-in_err-answer.result c.from_residual-in_err-answer.ensures.1 in
    let taken = sym c.in_ok-job.ensures.answer in
    let given = c.in_err-answer.ensures.gives in
    rw (p.1, p.2) (record {
      output = refl;
      text = refused_is _ _ taken _ _ _ given.answer;
      leaves = leaves_all _ _ taken _ _ _ given.answer _ _ given.leaves;
    })

pub answer-requires-clause-name_len_bound : goal.answer-requires-clause-name_len_bound
answer-requires-clause-name_len_bound c =
    rw c.name.ensures.bytes (start_short _ _ (sym c.in_ok-job.ensures.answer))

pub answer-requires-clause-answer_within : goal.answer-requires-clause-answer_within
answer-requires-clause-answer_within c =
    let given = c.in_ok-answer.ensures.gives in
    rw c.part.ensures.bytes (answer_there _ _ (sym c.in_ok-job.ensures.answer) _ _ _ given.answer _ _ given.leaves)

pub returns-clause-judged_gives : goal.returns-clause-judged_gives
returns-clause-judged_gives c =
    let taken = sym c.in_ok-job.ensures.answer in
    let given = c.in_ok-answer.ensures.gives in
    record {
      text = rw (c.part.ensures.bytes, c.name.ensures.bytes, text_is _ _ taken _ _ _ given.answer _ _ given.leaves) at c.answer.ensures;
      leaves = leaves_all _ _ taken _ _ _ given.answer _ _ given.leaves;
    }
