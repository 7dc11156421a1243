-- `answer` meets its contract: the test says whether anything is raced, and so which text is put. Assumes nothing.
use mathlib.Core.Path.{◌∙◌}
use Rattle.bytes_at.proofs.Puts.{put_put}
use Rattle.lines.proofs.Told.{clean_told, raced_told}
use Rattle.lines.proofs.answers.answer.Goals as goal

pub returns-then-answer-eq0 : goal.returns-then-answer-eq0
returns-then-answer-eq0 c =
    let line = rw (c.deref.ensures.0 ∙ c.clean-line.ensures.value) at c.put.ensures in
    rw (← clean_told _ _ _ _ _ _ c.if-answer-eq0.true) line

pub returns : goal.returns
returns c =
    let line = rw (c.deref-2.ensures.0 ∙ c.last.ensures.value) at c.put-2.ensures in
    rw (← raced_told _ _ _ _ _ _ c.if-answer-eq0.false) (put_put c.entries-at.ensures.put line)
