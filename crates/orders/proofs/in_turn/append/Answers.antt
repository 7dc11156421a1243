-- `orders::in_turn::append` meets its contract: no strand comes after the last, and either branch leaves the labels and the count of `placed`
-- and `placings`. Assumes nothing.
use mathlib.Core.Path.{sym}
use Rattle.orders.proofs.InTurn.{last_held, last_below, appended_between, appended_respaced}
use Rattle.orders.proofs.in_turn.append.Goals as goal

pub link-requires-clause-next_value : goal.link-requires-clause-next_value
link-requires-clause-next_value c =
    sym (last_held _ _ _ _ _ _ c.requires)

pub overflow_sub-gap : goal.overflow_sub-gap
overflow_sub-gap c =
    last_below _ _ _ _ _ _ c.requires

pub returns-then-gap-ge2 : goal.returns-then-gap-ge2
returns-then-gap-ge2 c =
    let it = appended_between _ _ _ _ _ _ c.requires c.if-gap-ge2.true in
    record { inserted = rw c.link.ensures it.0; appends = it.1 }

pub returns : goal.returns
returns c =
    let it = appended_respaced _ _ _ _ _ _ c.requires c.if-gap-ge2.false in
    record { inserted = rw (c.link.ensures, c.respace-changed.ensures.labels_after, c.respace-changed.ensures.value) it.0; appends = it.1 }
