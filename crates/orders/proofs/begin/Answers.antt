-- `begin` meets its contract: the three stores are those of `Begun`, whose other parts `begun` proves. Assumes nothing.
use Rattle.orders.proofs.Held.{begun}
use Rattle.orders.proofs.Marked.{settled_first}
use Rattle.orders.proofs.begin.Goals as goal

pub returns-clause-begun : goal.returns-clause-begun
returns-clause-begun c =
    begun _ _ _ _ c.requires

pub returns-clause-settled : goal.returns-clause-settled
returns-clause-settled c =
    settled_first
