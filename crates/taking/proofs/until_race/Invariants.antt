-- `until_race` meets its contract. The invariant: where the state at the loop's start is that before event `from`, the state is now that
-- before this event, no record has raced on the way, and the open tasks are what the moves made of them. Assumes nothing.
use mathlib.Core.Path.{◌≡◌}
use Prim.Native.Nat.{◌-◌, ◌≤◌}
use Rattle.jobfile.specs.Trace.{event_at, moves}
use Rattle.taking.specs.Turns.{tasks_over}
use Rattle.taking.specs.WorkBuffers.{lists_in, SameReferences}
use Rattle.taking.proofs.Reaching.{Stands}
use Rattle.taking.proofs.until_race.Given as goal

abbrev pub invariant-loop-at : goal.invariant-loop-at
invariant-loop-at l = (l.from ≤ l.at)
    × (l.at ≤ l.to)
    × Stands l.part l.from l.to (lists_in l.initial.buffers) l.initial.own l.initial.state (lists_in l.buffers) l.own l.state l.at
    × (l.own ≡ tasks_over (moves (event_at l.part)) l.from (l.at - l.from) l.initial.own)
    × SameReferences l.initial.buffers l.buffers
