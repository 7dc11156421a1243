-- `entry` meets its contract: the pair, the kinds and the line feed, one behind another. Assumes nothing.
use mathlib.Core.List.{append_assoc}
use mathlib.Core.Path.{refl}
use Rattle.lines.specs.Text.{entry_text}
use Rattle.lines.proofs.answers.entry.Goals as goal

pub returns-clause-value : goal.returns-clause-value
unfolding entry_text
returns-clause-value c =
    rw (c.put.ensures.put, c.kinds.ensures.put, c.pair.ensures.put, c.new-text.ensures) (simp append_assoc refl)
