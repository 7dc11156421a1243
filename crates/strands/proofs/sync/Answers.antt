-- `strands::sync` meets its contract: with nothing to join nothing changes, and otherwise the store is that of `sync_applies`. Assumes nothing.
use Rattle.strands.proofs.Events.{sync_applies}
use Rattle.strands.proofs.sync.Goals as goal

pub returns : goal.returns
returns c =
    sync_applies _ _ _ _ c.in_ok-point.was c.requires
