-- `strands::end` meets its contract: the event may come, so the task has a parent, and the store is that of `end_applies`. Assumes nothing.
use Rattle.strands.proofs.Events.{end_applies}
use Rattle.strands.proofs.end.Goals as goal

pub returns : goal.returns
returns c =
    end_applies _ _ _ _ (rw c.or.ensures at c.or-join.ensures) c.requires
