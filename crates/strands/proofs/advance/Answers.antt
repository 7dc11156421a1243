-- `strands::advance` meets its contract: an event that begins a strand leaves what `grow` asks, and one that begins none changes nothing.
-- Assumes nothing.
use Rattle.strands.proofs.Events.{ready_applicable, ready_growable, begins_advances, nothing_advances}
use Rattle.strands.proofs.advance.Goals as goal

pub apply-requires : goal.apply-requires
apply-requires c =
    ready_applicable _ _ _ _ c.requires

pub grow-requires : goal.grow-requires
grow-requires c =
    ready_growable _ _ _ _ _ c.requires (rw c.in-Some.is at c.apply.ensures).0

pub returns-in-None : goal.returns-in-None
returns-in-None c =
    nothing_advances _ _ _ _ _ (rw c.in-None.is at c.apply.ensures)

pub returns-in-Some : goal.returns-in-Some
returns-in-Some c =
    begins_advances _ _ _ _ _ _ _ _ (rw c.in-Some.is at c.apply.ensures) c.grow.ensures.grown c.grow.ensures.top_value
