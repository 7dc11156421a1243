-- `kinds` meets its contract: the letters of both events behind the word. Assumes nothing.
use mathlib.Core.List.{append_assoc}
use mathlib.Core.Path.{refl}
use Rattle.line.specs.Text.{kinds_text}
use Rattle.line.proofs.answers.kinds.Goals as goal

pub returns-clause-put : goal.returns-clause-put
unfolding kinds_text
returns-clause-put g c =
    rw (c.put-3.ensures.put, c.put-2.ensures.put, c.put.ensures.put, c.letter.ensures.value, c.letter-2.ensures.value) (rw (c.access_of-a.ensures, c.access_of-b.ensures, c.event_at.ensures, c.event_at-2.ensures) (simp append_assoc refl))
