-- `strands::spawn` meets its contract: the event may come, so there is a place for the child, and the store is that of `spawn_applies`. Assumes nothing.
use Rattle.strands.proofs.Events.{spawn_applies}
use Rattle.strands.proofs.spawn.Goals as goal

pub returns : goal.returns
returns c =
    spawn_applies _ _ _ c.requires
