-- `place_of` meets its contract: the kind says which of the two it is. Assumes nothing.
use mathlib.Core.Path.{refl}
use Rattle.races.proofs.place_of.Goals as goal

pub returns-in-Write-clause-value : goal.returns-in-Write-clause-value
returns-in-Write-clause-value c =
    rw c.in-Write.is refl

pub returns-in-Read-clause-value : goal.returns-in-Read-clause-value
returns-in-Read-clause-value c =
    rw c.in-Read.is refl
