-- `lines` meets its contract: the test says whether the output has room, and the text is put at its start. Assumes nothing.
use native.Mathlib.Omega.{arith}
use mathlib.Core.Path.{refl}
use Rattle.lines.proofs.Delivered.{too_short, delivered}
use Rattle.lines.proofs.lines.Goals as goal

pub returns-then-out-lt-ROOM-clause-lines_gives : goal.returns-then-out-lt-ROOM-clause-lines_gives
returns-then-out-lt-ROOM-clause-lines_gives c =
    let short = too_short _ c.args.out.now (omega arith) in record { answer = short.0; output = short.1; leaves = (refl, refl) }

pub returns-clause-lines_gives : goal.returns-clause-lines_gives
returns-clause-lines_gives c =
    let all = delivered _ c.args.out.now _ _ (omega arith) c.text_of.ensures.text_gives.text in record { answer = all.0; output = all.1.0; leaves = c.text_of.ensures.text_gives.leaves }

pub returns-clause-lines_fit : goal.returns-clause-lines_fit
returns-clause-lines_fit c =
    let all = delivered _ c.args.out.now _ _ (omega arith) c.text_of.ensures.text_gives.text in all.1.1
