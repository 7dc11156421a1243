-- `race` meets its contract: the pair, the kinds, the counts and the name, one behind another. Assumes nothing.
use mathlib.Core.List.{append_assoc}
use mathlib.Core.Path.{refl}
use Rattle.line.proofs.answers.race.Goals as goal

pub returns : goal.returns
returns g c =
    rw (c.ending.ensures.put, c.counts.ensures.put, c.kinds.ensures.put, c.pair.ensures.put, c.new-text.ensures) (simp append_assoc refl)
