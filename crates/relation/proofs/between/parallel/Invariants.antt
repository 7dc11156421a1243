-- `relation::between::parallel` meets its contract. The loop's invariant: the walker is that of the definition, and no higher than the events
-- passed. Assumes nothing.
use Prim.Native.Nat.{◌≤◌}
use mathlib.Core.Path.{◌≡◌}
use Rattle.jobfile.specs.Trace.{event_at, moves}
use Rattle.relation.specs.Between.{walker_of}
use Rattle.relation.specs.Walk.{walk}
use Rattle.relation.proofs.between.parallel.Given as goal

abbrev pub invariant-loop-n : goal.invariant-loop-n
invariant-loop-n l = record { low : l.w.height ≤ l.n; here : walker_of l.w ≡ walk (moves (event_at l.part)) l.p l.n }
