-- `deliver` meets its contract: the test says whether the line fits, and a law says what each answer is. Assumes nothing.
use native.Mathlib.Omega.{arith}
use Rattle.line.proofs.Delivered.{too_short, delivered}
use Rattle.line.proofs.deliver.Goals as goal

pub returns-then-out-text : goal.returns-then-out-text
returns-then-out-text c =
    let it = too_short c.args.text.now c.args.out.now (omega arith) (omega arith) in record { value = it.0; out_value = it.1.0; line_fits = it.1.1 }

pub returns : goal.returns
returns c =
    let it = delivered c.args.text.now c.args.out.now c.put.new.out c.put.result (omega arith) (omega arith) c.put.ensures in record { value = it.0; out_value = it.1.0; line_fits = it.1.1 }
