-- `orders::insertion::respace` meets its contract: at the loop's head what is done and what is left to do, the strands that the links give,
-- make the whole (`Respacing`). Assumes nothing.
use Rattle.orders.proofs.Respaced.{turn_start, turn_more, turn_done, order_cons, order_none}
use Rattle.orders.proofs.insertion.respace.Goals as goal
use Rattle.orders.proofs.insertion.respace.Goals.{In-loop-k}

pub loop-k-init : goal.loop-k-init
loop-k-init c =
    turn_start _ _ _ _ c.requires.below

pub loop-k-preserved : goal.loop-k-preserved
loop-k-preserved c =
    rw (c.from-s.ensures, c.put-changed.ensures.labels_after, c.put-changed.ensures.value, c.spaced.ensures)
    (turn_more _ _ _ _ _ _ _ _ _ (rw (order_cons _ _ _ _ _ c.loop-k-test.true) at c.loop-k.invariant))

pub returns : goal.returns
returns c =
    let it = turn_done _ _ _ _ _ _ _ (rw (order_none _ _ _ _ _ c.loop-k-test.false) at c.loop-k.invariant) in record { labels_after = it.0; value = it.1 }
