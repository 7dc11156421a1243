-- `run` meets its contract. The invariant: where the state at the loop's start is that before any event, the state is now that before the event
-- that is next. Assumes nothing.
use Prim.Native.Nat.{◌-◌, ◌≤◌}
use Rattle.taking.specs.Buffers.{Buffers}
use Rattle.taking.specs.WorkBuffers.{lists_in, SameReferences}
use Rattle.per_record.specs.Goes.{Going}
use Rattle.per_record.proofs.run.Given as goal

abbrev pub invariant-loop-next : goal.invariant-loop-next
invariant-loop-next l = (l.next.at ≤ l.k)
    × ((B₀ : Buffers)
    → Going l.part l.records l.k B₀ (lists_in l.initial.buffers) l.initial.tasks l.initial.marks l.initial.next.state l.initial.next.at
    → Going l.part l.records l.k B₀ (lists_in l.buffers) l.tasks l.marks l.next.state l.next.at)
    × SameReferences l.initial.buffers l.buffers

abbrev pub decreases-loop-next : goal.decreases-loop-next
decreases-loop-next l = l.k - l.next.at
