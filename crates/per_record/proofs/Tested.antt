-- What the test of a record's mark tells. Assumes nothing.
use mathlib.Core.Path.{◌≡◌, refl, sym}
use mathlib.Core.Bool.{true, false, false≢true}
use Prim.Native.Nat.{ℕ}
use Rattle.std.specs.Prelude.{Option, None, Some}
use Rattle.std.specs.Option.{is_some}
use Rattle.jobfile.specs.declared.event.Kind.{Kind}
use Rattle.jobfile.specs.declared.event.Access.{Access}
use Rattle.jobfile.specs.Events.{access_to}
use Rattle.per_record.specs.declared.Mark.{Mark}
use Rattle.per_record.specs.Marks.{Marks, mark_in, of_marked}

-- a record is marked, or not
pub is_marked : (o : Option Mark) → is_some o ≡ true → (m : Mark) × (o ≡ Some m)
is_marked None t = absurd (false≢true t)
is_marked (Some m) t = (m, refl)

pub unmarked_access : (o : Option Mark) → is_some o ≡ false → o ≡ None
unmarked_access None f = refl
unmarked_access (Some m) f = absurd (false≢true (sym f))

-- an access of a record that is marked
pub marked_access : (M : Marks) (a : Option Access) → of_marked M a ≡ true
    → (kind : Kind) × (r : ℕ) × (m : Mark) × (a ≡ access_to kind r) × (mark_in M r ≡ Some m)
marked_access M None t = absurd (false≢true t)
marked_access M (Some a) t = let w = is_marked (mark_in M a.«record») t in (a.kind, a.«record», w.0, refl, w.1)
