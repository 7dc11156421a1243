-- `held` meets its contract: the entry is that of the kind's place. Assumes nothing.
use mathlib.Core.Path.{refl}
use Rattle.races.proofs.held.Goals as goal

pub returns : goal.returns
returns c =
    rw c.place_of.ensures.value refl
