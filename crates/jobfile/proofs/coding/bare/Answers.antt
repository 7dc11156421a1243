-- `jobfile::coding::bare` meets its contract: it is the two tests. Assumes nothing.
use mathlib.Core.Path.{refl}
use Rattle.jobfile.proofs.coding.bare.Goals as goal

pub returns : goal.returns
returns c =
    refl
