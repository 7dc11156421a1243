-- `orders::in_turn::respace` meets its contract: at the loop's head what is done and what is left to do, the strands as they began from k
-- on, make the whole (`Respacing`). Assumes nothing.
use Prim.Native.Nat.{◌-◌}
use Rattle.orders.specs.InTurn.{strands_from}
use Rattle.orders.proofs.Respaced.{Respacing}
use Rattle.orders.proofs.in_turn.respace.Given as goal

abbrev pub invariant-loop-k : goal.invariant-loop-k
invariant-loop-k l = Respacing l.initial.labels l.base.labels l.at (strands_from l.at (l.n - l.at)) l.labels l.k l.changed (strands_from l.k (l.n - l.k))
