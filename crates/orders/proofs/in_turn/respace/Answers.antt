-- `orders::in_turn::respace` meets its contract: at the loop's head what is done and what is left to do, the strands as they began from k
-- on, make the whole (`Respacing`). Assumes nothing.
use native.Mathlib.Omega.{arith}
use Rattle.orders.proofs.Respaced.{turn_start, turn_more, turn_done, strands_cons, strands_none, strands_below}
use Rattle.orders.proofs.in_turn.respace.Goals as goal

pub loop-k-init : goal.loop-k-init
loop-k-init c =
    turn_start _ _ _ _ (strands_below 4096 _ _ (omega arith))

pub loop-k-preserved : goal.loop-k-preserved
loop-k-preserved c =
    rw (c.put-changed.ensures.labels_after, c.put-changed.ensures.value, c.spaced.ensures)
    (turn_more _ _ _ _ _ _ _ _ _ (rw (strands_cons _ _ c.loop-k-test.true) at c.loop-k.invariant))

pub returns : goal.returns
returns c =
    let it = turn_done _ _ _ _ _ _ _ (rw (strands_none _ _ c.loop-k-test.false) at c.loop-k.invariant) in record { labels_after = it.0; value = it.1 }
