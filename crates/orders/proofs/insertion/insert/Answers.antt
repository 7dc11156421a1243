-- `orders::insertion::insert` meets its contract: `link` leaves the links, and either branch leaves the labels and the count of `placed` and
-- `placings`; `inserted` says the rest of both. The labels rise, so the gap does not wrap. Assumes nothing.
use mathlib.Core.Path.{◌≡◌}
use Rattle.orders.specs.Order.{next_in, linked, above}
use Rattle.orders.proofs.Held.{gap, walkable, inserted_between, inserted_respaced}
use Rattle.orders.proofs.insertion.insert.Goals as goal
use Rattle.orders.proofs.insertion.insert.Goals.{After-above}

-- the links since `link`
linked_now : (c : After-above) → c.link.new.links ≡ linked c.args.links.now c.args.base.links c.args.after c.args.new
linked_now c = c.link.ensures

-- `above` returned what the spec says of the strand after `after`
high : (c : After-above) → c.above.result ≡ above c.args.labels.now c.args.base.labels (next_in c.args.links.now c.args.base.links c.args.after)
high c = rw (← c.from.ensures) c.above.ensures

pub overflow_sub-gap : goal.overflow_sub-gap
overflow_sub-gap c =
    rw (high (goal.at.overflow_sub-gap c).After-above) (gap _ _ _ _ _ _ c.requires.place)

pub returns-then-gap-ge2 : goal.returns-then-gap-ge2
returns-then-gap-ge2 c =
    let h = high (goal.at.returns-then-gap-ge2 c).After-above in
    let it = inserted_between _ _ _ _ _ _ _ c.requires (rw h at c.if-gap-ge2.true) in
    record { inserted = rw (c.link.ensures, h) it.0; settles = rw c.lowered-low.ensures it.1 }

pub respace-changed-requires : goal.respace-changed-requires
respace-changed-requires c =
    rw (linked_now (goal.at.respace-changed-requires c).After-above, c.lowered-low.ensures) (walkable _ _ _ _ _ _ _ c.requires)

pub returns : goal.returns
returns c =
    let a = (goal.at.returns c).After-above in
    let it = inserted_respaced _ _ _ _ _ _ _ c.requires (rw (high a) at c.if-gap-ge2.false) in
    record {
      inserted = rw (c.respace-changed.ensures.labels_after, c.respace-changed.ensures.value, linked_now a, c.lowered-low.ensures) it.0;
      settles = it.1;
    }
