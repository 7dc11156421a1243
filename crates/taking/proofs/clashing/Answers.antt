-- `clashing` meets its contract: the kind says which of the two strands it is. Assumes nothing.
use mathlib.Core.Path.{refl}
use Rattle.taking.proofs.clashing.Goals as goal

pub returns-in-Write-clause-value : goal.returns-in-Write-clause-value
returns-in-Write-clause-value c =
    rw c.in-Write.is refl

pub returns-in-Read-clause-value : goal.returns-in-Read-clause-value
returns-in-Read-clause-value c =
    rw c.in-Read.is refl
