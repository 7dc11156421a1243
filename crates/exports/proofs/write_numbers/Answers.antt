-- `exports::write_numbers` meets its contract: what is written has the numbers of its case. Assumes nothing.
use mathlib.Core.Path.{sym, ap}
use Rattle.exports.specs.Numbers.{write_numbers}
use Rattle.exports.proofs.write_numbers.Goals as goal

pub returns-in-Ok : goal.returns-in-Ok
returns-in-Ok c =
    sym (ap write_numbers c.in-Ok.is)
