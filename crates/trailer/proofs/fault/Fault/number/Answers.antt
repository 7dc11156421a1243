-- `trailer::fault::Fault::number` meets its contract, for what lies outside the file. Assumes nothing.
use mathlib.Core.Path.{refl}
use Rattle.trailer.proofs.fault.Fault.number.Goals as goal

pub returns-in-Outside : goal.returns-in-Outside
returns-in-Outside c =
    rw c.in-Outside.is refl
