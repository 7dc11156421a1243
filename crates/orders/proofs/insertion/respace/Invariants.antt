-- `orders::insertion::respace` meets its contract: at the loop's head what is done and what is left to do, the strands that the links give,
-- make the whole (`Respacing`). Assumes nothing.
use Prim.Native.Nat.{◌-◌}
use Rattle.orders.specs.Order.{order_of}
use Rattle.orders.proofs.Respaced.{Respacing}
use Rattle.orders.proofs.insertion.respace.Given as goal

abbrev pub invariant-loop-k : goal.invariant-loop-k
invariant-loop-k l = Respacing l.initial.labels l.base.labels l.fn.mark.at (order_of l.links l.base.links (l.n - l.fn.mark.at) l.fn.mark.from) l.labels l.k l.changed (order_of l.links l.base.links (l.n - l.k) l.s)
