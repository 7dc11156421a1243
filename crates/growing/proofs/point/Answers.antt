-- `growing::point` meets its contract: it is the rule's term. Assumes nothing.
use mathlib.Core.Path.{refl}
use Rattle.growing.specs.Rule.{rule}
use Rattle.growing.proofs.point.Goals as goal

pub returns : goal.returns
unfolding rule
returns c =
    rw c.from.ensures refl
