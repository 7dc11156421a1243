-- `jobfile::tasks::trace` meets its contract. The invariant: the answer is that of the events from this one on, from the open tasks that are
-- kept and the strands begun. Assumes nothing.
use Prim.Native.Nat.{◌/◌}
use lib.ListN.{length}
use Rattle.jobfile.proofs.Turns.{CheckFrom}
use Rattle.jobfile.proofs.tasks.trace.Given as goal

abbrev pub invariant-loop-event : goal.invariant-loop-event
invariant-loop-event l = CheckFrom l.records l.part (length l.part / 4) l.tasks.0 l.tasks.1.0 l.tasks.1.1.0 l.event
