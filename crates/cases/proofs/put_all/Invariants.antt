-- `put_all` meets its contract. The invariant of both loops: the place is within the events. Assumes nothing.
use Prim.Native.Nat.{◌≤◌}
use lib.ListN.{length}
use Rattle.cases.proofs.put_all.Given as goal

abbrev pub invariant-loop : goal.invariant-loop
invariant-loop l = l.at ≤ length l.events

abbrev pub invariant-loop-times : goal.invariant-loop-times
invariant-loop-times l = l.at ≤ length l.events
