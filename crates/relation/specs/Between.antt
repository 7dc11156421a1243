-- The walk in code: its state, and what it is given.
use Rattle.std.specs.Prelude.{ℕ, ◌*◌, ◌≤◌, List, length}
use Rattle.jobfile.specs.Trace.{event_at, moves}
use Rattle.relation.specs.Parallel.{Rooted}
use Rattle.relation.specs.Walk.{Walker}
use Rattle.relation.specs.declared.between.Walker.{Walker as State}

abbrev pub walker_of : State → Walker
walker_of w = record { height = w.height; par = w.par }

-- the events of a part can be walked from p to q
pub record Stretch (part : List ℕ) (p q : ℕ) : Type 0 where
  pub order : p ≤ q
  pub room : 4 * q ≤ length part
  pub few : q ≤ 1000000
  pub rooted : Rooted (moves (event_at part)) q
