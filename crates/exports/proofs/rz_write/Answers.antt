-- `exports::rz_write` meets its contract: the numbers are those of the writer's answer, and that is the definition's, as is what the
-- buffer holds. Assumes nothing.
use Rattle.exports.proofs.rz_write.Goals as goal

pub returns : goal.returns
returns c =
    let w = c.write in
    record { numbers = rw w.ensures.answer at c.write_numbers.ensures; contents = w.ensures.contents }
