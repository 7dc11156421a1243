-- What an event does: to the structure of tasks, and to a record. A further kind of event is a clause in each.
use Rattle.std.specs.Prelude.{ℕ, Option, None, Some}
use Rattle.jobfile.specs.declared.event.Event.{Event}
use Rattle.jobfile.specs.declared.event.Event.TheVariants.{Spawn, End, Sync, Read, Write}
use Rattle.jobfile.specs.declared.event.Move.{Move}
use Rattle.jobfile.specs.declared.event.Move.TheVariants.{Opens, Closes, Joins, Stays}
use Rattle.jobfile.specs.declared.event.Kind.TheVariants.{Write as Writes, Read as Reads}
use Rattle.jobfile.specs.declared.event.Kind.{Kind}
use Rattle.jobfile.specs.declared.event.Access.{Access}

-- "Spawn opens a task under the current one and makes it current. End closes it and goes back to its parent. Sync joins the tasks that the
-- current task has spawned and not yet joined."
abbrev pub move_of : Event → Move
move_of Spawn = Opens
move_of End = Closes
move_of Sync = Joins
move_of (Read r) = Stays
move_of (Write r) = Stays

-- an access of a kind to a record
abbrev pub access_to : Kind → ℕ → Option Access
access_to kind r = Some (record { kind = kind; «record» = r })

-- "two carry a record"
abbrev pub access_of : Event → Option Access
access_of Spawn = None
access_of End = None
access_of Sync = None
access_of (Read r) = access_to Reads r
access_of (Write r) = access_to Writes r
