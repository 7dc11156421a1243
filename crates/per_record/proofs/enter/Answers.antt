-- `enter` meets its contract: a record without a mark is left out; one with a mark goes to entry n. Assumes nothing.
use mathlib.Core.Path.{refl}
use Rattle.per_record.proofs.enter.Goals as goal

pub returns-in-None-clause-entered : goal.returns-in-None-clause-entered
returns-in-None-clause-entered c =
    rw c.in-None.is refl

pub returns-in-Some-clause-entered : goal.returns-in-Some-clause-entered
returns-in-Some-clause-entered c =
    rw (c.in-Some.is, c.held.ensures, c.from_le_bytes.ensures) refl
