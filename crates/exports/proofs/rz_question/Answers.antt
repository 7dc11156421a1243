-- `exports::rz_question` meets its contract: the numbers are those of the question's answer, and that is the definition's.
-- Assumes nothing.
use mathlib.Core.Path.{ap, ◌∙◌}
use Rattle.exports.specs.Numbers.{question_numbers}
use Rattle.exports.proofs.rz_question.Goals as goal

pub returns : goal.returns
returns c =
    c.question_numbers.ensures ∙ ap question_numbers c.question.ensures.answer
