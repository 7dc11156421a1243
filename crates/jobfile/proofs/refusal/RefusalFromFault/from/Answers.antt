-- A refusal made of a fault alone meets its contract: it shows event 0. Assumes nothing.
use mathlib.Core.Path.{refl}
use Rattle.jobfile.proofs.refusal.RefusalFromFault.from.Goals as goal

pub returns : goal.returns
returns c =
    refl
