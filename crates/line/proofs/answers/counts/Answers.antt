-- `counts` meets its contract: three fields, one behind another. Assumes nothing.
use mathlib.Core.List.{append_assoc}
use mathlib.Core.Path.{refl}
use Rattle.line.specs.Text.{counts_text}
use Rattle.line.proofs.answers.counts.Goals as goal

pub returns-clause-put : goal.returns-clause-put
unfolding counts_text
returns-clause-put g c =
    rw (c.field-3.ensures.put, c.field-2.ensures.put, c.field.ensures.put) (simp append_assoc refl)
