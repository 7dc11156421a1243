-- `strands::begin` meets its contract: both orders have strand 0 alone, and the beginning of the second leaves the first as it was.
-- Assumes nothing.
use mathlib.Core.Path.{◌∙◌}
use Rattle.strands.proofs.Started.{both_begun}
use Rattle.strands.proofs.begin.Goals as goal

pub returns : goal.returns
returns c =
    both_begun _ _ _ _ _ _ _ c.requires.0 c.requires.1 c.begin.ensures.begun (c.begin-mark.ensures.begun, c.begin-mark.ensures.settled) (c.begin-mark.auto.labels ∙ c.begin.auto.labels)
    (c.begin-mark.auto.links ∙ c.begin.auto.links)
