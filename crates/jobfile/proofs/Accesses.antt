-- An event that accesses a record does nothing to the structure of tasks. Assumes nothing.
use mathlib.Core.Path.{◌≡◌, refl, ap}
use mathlib.Core.Bool.{false≢true}
use Prim.Native.Nat.{ℕ}
use Rattle.jobfile.specs.declared.event.Event.{Event}
use Rattle.jobfile.specs.declared.event.Event.TheVariants.{Spawn, End, Sync, Read, Write}
use Rattle.jobfile.specs.declared.event.Move.TheVariants.{Stays}
use Rattle.jobfile.specs.declared.event.Kind.{Kind}
use Rattle.std.specs.Prelude.{Option, None, Some}
use Rattle.std.specs.Option.{is_some}
use Rattle.jobfile.specs.declared.event.Access.{Access}
use Rattle.jobfile.specs.Events.{access_to, move_of, access_of}

pub access_stays : (e : Event) (kind : Kind) (r : ℕ) → access_of e ≡ access_to kind r → move_of e ≡ Stays
access_stays Spawn kind r x = absurd (false≢true (ap is_some x))
access_stays End kind r x = absurd (false≢true (ap is_some x))
access_stays Sync kind r x = absurd (false≢true (ap is_some x))
access_stays (Read q) kind r x = refl
access_stays (Write q) kind r x = refl

kind_or : Kind → Option Access → Kind
kind_or kind None = kind
kind_or kind (Some a) = a.kind

record_or : ℕ → Option Access → ℕ
record_or r None = r
record_or r (Some a) = a.«record»

-- accesses that are the same are of one kind and to one record
pub same_access : (k l : Kind) (q r : ℕ) → access_to k q ≡ access_to l r → (k ≡ l) × (q ≡ r)
unfolding kind_or record_or
same_access k l q r e = (ap (kind_or k) e, ap (record_or q) e)
