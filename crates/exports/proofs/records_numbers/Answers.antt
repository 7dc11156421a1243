-- `exports::records_numbers` meets its contract: a judgement has the numbers of its case. Assumes nothing.
use mathlib.Core.Path.{sym, ap}
use Rattle.exports.specs.Numbers.{records_numbers}
use Rattle.exports.proofs.records_numbers.Goals as goal

pub returns-in-Ok : goal.returns-in-Ok
returns-in-Ok c =
    sym (ap records_numbers c.in-Ok.is)
