-- `above` meets its contract: the two labels are compared as in the definition. Assumes nothing.
use mathlib.Core.Path.{refl}
use Rattle.taking.proofs.above.Goals as goal

pub returns : goal.returns
returns c =
    refl
