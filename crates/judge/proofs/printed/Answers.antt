-- `printed` meets its contract: the test says whether the input is too long, and an output of 256 bytes is never too short for a line. Assumes nothing.
use native.Mathlib.Omega.{arith}
use Rattle.line.specs.Line.{line_of}
use Rattle.line.proofs.Delivered.{always_put}
use Rattle.judge.proofs.Lengths.{long_printed, line_printed}
use Rattle.judge.proofs.printed.Goals as goal

pub returns-then-input-gt-MOST-clause-put : goal.returns-then-input-gt-MOST-clause-put
returns-then-input-gt-MOST-clause-put c = rw (long_printed c.args.input.now (omega arith)) c.put.ensures

pub returns-clause-put : goal.returns-clause-put
returns-clause-put c =
    let input = c.args.input.now in
    let gives = c.line.ensures.line_gives in
    rw (line_printed input (omega arith), c.unwrap_or.ensures)
    (always_put (line_of input 8192 16384 16384) c.args.out.now _ c.line.result (omega arith) c.line.ensures.line_fits gives.answer gives.output)
