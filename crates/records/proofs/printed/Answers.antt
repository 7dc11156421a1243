-- `printed` meets its contract: the test says whether the input is too long, and an output that has room for every text is never too short. Assumes nothing.
use native.Mathlib.Omega.{arith}
use Rattle.lines.specs.Lines.{lines_of, paper_buffers, paper_lists}
use Rattle.lines.proofs.Delivered.{always_put}
use Rattle.records.proofs.Lengths.{long_printed, lines_printed}
use Rattle.records.proofs.printed.Goals as goal

pub returns-then-input-gt-MOST-clause-put : goal.returns-then-input-gt-MOST-clause-put
returns-then-input-gt-MOST-clause-put c = rw (long_printed c.args.input.now (omega arith)) c.put.ensures

pub returns-clause-put : goal.returns-clause-put
returns-clause-put c =
    let input = c.args.input.now in
    let gives = c.lines.ensures.lines_gives in
    rw (lines_printed input (omega arith), c.unwrap_or.ensures)
    (always_put (lines_of input paper_buffers paper_lists) c.args.out.now _ c.lines.result (omega arith) c.lines.ensures.lines_fit gives.answer gives.output)
