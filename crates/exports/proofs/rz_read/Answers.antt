-- `exports::rz_read` meets its contract: the numbers are those of the check's answer, and that is the definition's. Assumes nothing.
use mathlib.Core.Path.{ap, ◌∙◌}
use Rattle.exports.specs.Numbers.{read_numbers}
use Rattle.exports.proofs.EventCounts.{few_events}
use Rattle.exports.proofs.rz_read.Goals as goal

pub read_numbers-requires : goal.read_numbers-requires
read_numbers-requires c =
    few_events c.check.result _ c.check.ensures.fits

pub returns : goal.returns
returns c =
    c.read_numbers.ensures ∙ ap read_numbers c.check.ensures.answer
