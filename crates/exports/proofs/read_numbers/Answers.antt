-- `exports::read_numbers` meets its contract: a checked file has the numbers of its case. Assumes nothing.
use mathlib.Core.Path.{sym, ap}
use Rattle.exports.specs.Numbers.{read_numbers}
use Rattle.exports.proofs.read_numbers.Goals as goal

pub returns-in-Ok : goal.returns-in-Ok
returns-in-Ok c =
    sym (ap read_numbers c.in-Ok.is)
