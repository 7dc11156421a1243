-- `orders::spacing::put` meets its contract: the count is 1 where the entry was another number. Assumes nothing.
use Rattle.std.proofs.Common.{rules}
use Rattle.orders.specs.Order.{differ}
use Rattle.orders.proofs.spacing.put.Goals as goal

pub returns-clause-value : goal.returns-clause-value
unfolding differ
returns-clause-value c =
    search rules
