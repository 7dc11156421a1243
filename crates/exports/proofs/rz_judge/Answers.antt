-- `exports::rz_judge` meets its contract: the numbers are those of judging's answer, and that is the definition's; the buffers hold what
-- judging leaves in them for it. Assumes nothing.
use Rattle.std.proofs.Common.{rules}
use Rattle.exports.proofs.rz_judge.Goals as goal

pub returns : goal.returns
returns c =
    let j = c.judge.ensures.judge_gives in
    record { numbers = rw j.answer at c.judge_numbers.ensures; leaves = search rules }
