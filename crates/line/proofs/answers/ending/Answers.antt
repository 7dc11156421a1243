-- `ending` meets its contract: the word, the name and the line feed, one behind another. Assumes nothing.
use mathlib.Core.List.{append_assoc}
use mathlib.Core.Path.{refl}
use Rattle.line.specs.Text.{name_text}
use Rattle.line.proofs.answers.ending.Goals as goal

pub returns-clause-put : goal.returns-clause-put
unfolding name_text
returns-clause-put g c =
    rw (c.put-3.ensures.put, c.put-2.ensures.put, c.put.ensures.put) (simp append_assoc refl)
