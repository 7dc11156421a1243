-- Answers on small jobs, by computation: the shapes of 01's cases 3, 4, 7, 8, 9 and 10, and each refusal. Assumes nothing.
use mathlib.Core.Path.{◌≡◌, refl}
use mathlib.Core.List.{List, [], ◌∷◌, map}
use Prim.Native.Nat.{ℕ}
use lib.ListN.{length}
use Rattle.jobfile.specs.Refusals.{refusal_of}
use Rattle.jobfile.specs.declared.event.Event.{Event}
use Rattle.jobfile.specs.declared.event.Event.TheVariants.{Spawn as S, End as E, Sync as J, Read as R, Write as W}
use Rattle.jobfile.specs.Samples.{listed}
use Rattle.relation.specs.Question.{compare_of, asked_of}
use Rattle.relation.specs.Walk.{opened, move_at, walk_for, walk}
use Rattle.std.specs.Prelude.{Result, Ok, Err}
use Rattle.trailer.specs.declared.fault.Fault.TheVariants.{PastEvents, NotAccess}
use Rattle.jobfile.specs.declared.refusal.Refusal.{Refusal}
use Rattle.relation.specs.declared.Related.{Related}
use Rattle.relation.specs.declared.Related.TheVariants.{Same, Before, After, Parallel}

-- a job's events, two of their numbers, and what must come out
record Case : Type 0 where
  events : List Event
  i : ℕ
  j : ℕ
  answer : Result Related Refusal

abbrev case : List Event → ℕ → ℕ → Result Related Refusal → Case
case events i j answer = record { events = events; i = i; j = j; answer = answer }

abbrev cases : List Case
cases =
    case (S ∷ W 0 ∷ E ∷ W 0 ∷ []) 1 3 (Ok Parallel)
    ∷ case (S ∷ W 0 ∷ E ∷ W 0 ∷ []) 3 1 (Ok Parallel)
    ∷ case (S ∷ W 0 ∷ E ∷ W 0 ∷ []) 1 1 (Ok Same)
    ∷ case (S ∷ W 0 ∷ E ∷ J ∷ W 0 ∷ []) 1 4 (Ok Before)
    ∷ case (S ∷ W 0 ∷ E ∷ J ∷ W 0 ∷ []) 4 1 (Ok After)
    ∷ case (S ∷ W 0 ∷ E ∷ S ∷ W 0 ∷ E ∷ []) 1 4 (Ok Parallel)
    ∷ case (S ∷ W 0 ∷ E ∷ J ∷ S ∷ W 0 ∷ E ∷ []) 1 5 (Ok Before)
    ∷ case (S ∷ S ∷ W 0 ∷ E ∷ J ∷ E ∷ W 0 ∷ []) 2 6 (Ok Parallel)
    ∷ case (S ∷ S ∷ W 0 ∷ E ∷ E ∷ J ∷ W 0 ∷ []) 2 6 (Ok Before)
    ∷ case (S ∷ W 0 ∷ E ∷ S ∷ J ∷ W 0 ∷ E ∷ []) 1 5 (Ok Parallel)
    ∷ case (W 0 ∷ S ∷ R 0 ∷ E ∷ J ∷ R 0 ∷ []) 0 2 (Ok Before)
    ∷ case (W 0 ∷ S ∷ R 0 ∷ E ∷ J ∷ R 0 ∷ []) 5 2 (Ok After)
    ∷ case (S ∷ W 0 ∷ E ∷ []) 0 0 (Err (refusal_of NotAccess 0))
    ∷ case (S ∷ W 0 ∷ E ∷ []) 1 2 (Err (refusal_of NotAccess 0))
    ∷ case (S ∷ W 0 ∷ E ∷ []) 0 3 (Err (refusal_of PastEvents 0))
    ∷ case (S ∷ W 0 ∷ E ∷ []) 3 1 (Err (refusal_of PastEvents 0))
    ∷ []

abbrev answered : Case → Result Related Refusal
answered c = asked_of (listed c.events) (length c.events) c.i c.j

pub cases_hold : map answered cases ≡ map (λ c. c.answer) cases
unfolding compare_of asked_of opened move_at walk_for walk
cases_hold = refl
