-- Each kind of refusal has a number of its own, from 1 on. Assumes nothing.
use Prim.Native.Nat.{ℕ, ◌≤◌}
use mathlib.Core.Path.{◌≡◌, refl, sym, ap, ◌∙◌}
use mathlib.Core.Bool.{cond}
use lib.Dec.{eqb}
use native.Mathlib.Omega.{arith}
use Rattle.trailer.specs.declared.fault.Fault.{Fault}
use Rattle.trailer.specs.declared.fault.Fault.TheVariants.{Short, Unmarked, RecordCount, EventCount, Distance, Outside, Name, NoEvent, Record, RootEnded, TooDeep, TooManyStrands, LeftOpen, ShortBuffer, PastEvents, ShortOutput, NoLabels, NotAccess}
use Rattle.trailer.specs.Numbers.{number_of}

-- the kind of a number
kind_of : ℕ → Fault
kind_of n =
    cond (eqb n 1) Short
    (cond (eqb n 2) Unmarked
    (cond (eqb n 3) RecordCount
    (cond (eqb n 4) EventCount
    (cond (eqb n 5) Distance
    (cond (eqb n 6) Outside
    (cond (eqb n 7) Name
    (cond (eqb n 8) NoEvent
    (cond (eqb n 9) Record
    (cond (eqb n 10) RootEnded
    (cond (eqb n 11) TooDeep
    (cond (eqb n 12) TooManyStrands
    (cond (eqb n 13) LeftOpen
    (cond (eqb n 14) ShortBuffer
    (cond (eqb n 15) PastEvents
    (cond (eqb n 16) ShortOutput
    (cond (eqb n 17) NoLabels
    NotAccess))))))))))))))))

kind_is : (f : Fault) → kind_of (number_of f) ≡ f
unfolding kind_of
kind_is Short = refl
kind_is Unmarked = refl
kind_is RecordCount = refl
kind_is EventCount = refl
kind_is Distance = refl
kind_is Outside = refl
kind_is Name = refl
kind_is NoEvent = refl
kind_is Record = refl
kind_is RootEnded = refl
kind_is TooDeep = refl
kind_is TooManyStrands = refl
kind_is LeftOpen = refl
kind_is ShortBuffer = refl
kind_is PastEvents = refl
kind_is ShortOutput = refl
kind_is NoLabels = refl
kind_is NotAccess = refl

pub one_kind : (f g : Fault) → number_of f ≡ number_of g → f ≡ g
one_kind f g e = sym (kind_is f) ∙ ap kind_of e ∙ kind_is g

pub from_one : (f : Fault) → 1 ≤ number_of f
from_one Short = omega arith
from_one Unmarked = omega arith
from_one RecordCount = omega arith
from_one EventCount = omega arith
from_one Distance = omega arith
from_one Outside = omega arith
from_one Name = omega arith
from_one NoEvent = omega arith
from_one Record = omega arith
from_one RootEnded = omega arith
from_one TooDeep = omega arith
from_one TooManyStrands = omega arith
from_one LeftOpen = omega arith
from_one ShortBuffer = omega arith
from_one PastEvents = omega arith
from_one ShortOutput = omega arith
from_one NoLabels = omega arith
from_one NotAccess = omega arith
