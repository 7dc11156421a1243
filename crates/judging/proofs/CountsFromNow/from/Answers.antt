-- The counts made of a state meet their contract: each is the state's own. Assumes nothing.
use mathlib.Core.Path.{refl}
use Rattle.judging.proofs.CountsFromNow.from.Goals as goal

pub returns : goal.returns
returns c =
    refl
