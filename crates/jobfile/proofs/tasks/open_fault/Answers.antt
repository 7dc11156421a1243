-- `jobfile::tasks::open_fault` meets its contract: the flag picks the kind. Assumes nothing.
use mathlib.Core.Path.{refl}
use Rattle.jobfile.proofs.tasks.open_fault.Goals as goal

pub returns-then-spawns : goal.returns-then-spawns
returns-then-spawns c =
    rw c.if-spawns.true refl

pub returns : goal.returns
returns c =
    rw c.if-spawns.false refl
