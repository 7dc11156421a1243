-- `exports::rz_judge_records` meets its contract: the numbers are those of the call's answer, and that is the definition's; the buffers and
-- the lists hold what the call leaves in them for it. Assumes nothing.
use Rattle.std.proofs.Common.{rules}
use Rattle.exports.proofs.rz_judge_records.Goals as goal

pub returns : goal.returns
returns c =
    let j = c.judge.ensures.gives in
    record { numbers = rw j.answer at c.records_numbers.ensures; leaves = search rules }
