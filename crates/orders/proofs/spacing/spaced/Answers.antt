-- `orders::spacing::spaced` meets its contract: the label is the number of its position. Assumes nothing.
use native.Mathlib.Omega.{arith}
use Rattle.orders.proofs.spacing.spaced.Goals as goal

pub returns : goal.returns
returns c =
    omega arith
