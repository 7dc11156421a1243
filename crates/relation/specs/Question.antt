-- The question about two accesses of a file.
use Rattle.std.specs.Prelude.{◌≡◌, ◌⊎◌, Bool, true, cond, ◌&&◌, List, ℕ, ◌<◌, eqb, ltb, Result, Ok, Err}
use Rattle.std.specs.Option.{is_some}
use Rattle.jobfile.specs.File.{check_of, events_from}
use Rattle.jobfile.specs.Refusals.{refusal_of, number_in}
use Rattle.jobfile.specs.Trace.{event_at, moves}
use Rattle.jobfile.specs.declared.refusal.Refusal.{Refusal}
use Rattle.trailer.specs.declared.fault.Fault.TheVariants.{PastEvents, NotAccess}
use Rattle.jobfile.specs.declared.job.Job.{Job}
use Rattle.jobfile.specs.declared.event.Event.{Event}
use Rattle.jobfile.specs.declared.event.Move.{Move}
use Rattle.jobfile.specs.Events.{access_of}
use Rattle.relation.specs.Parallel.{Before as IsBefore, Parallel as IsParallel}
use Rattle.relation.specs.Walk.{par}
use Rattle.relation.specs.declared.Related.{Related}
use Rattle.relation.specs.declared.Related.TheVariants.{Same, Before, After, Parallel}

-- "answers 0 same event, 1 first before second, 2 second before first, 3 parallel"; a refusal gives "zeros elsewhere"
abbrev pub answer_number : Result Related Refusal → ℕ
answer_number (Ok Same) = 0
answer_number (Ok Before) = 1
answer_number (Ok After) = 2
answer_number (Ok Parallel) = 3
answer_number (Err r) = 0

-- the refusal's number, 0 where there is none
abbrev pub answer_refusal : Result Related Refusal → ℕ
answer_refusal (Ok Same) = 0
answer_refusal (Ok Before) = 0
answer_refusal (Ok After) = 0
answer_refusal (Ok Parallel) = 0
answer_refusal (Err r) = number_in r

-- the refusal's event
abbrev pub answer_event : Result Related Refusal → ℕ
answer_event (Ok Same) = 0
answer_event (Ok Before) = 0
answer_event (Ok After) = 0
answer_event (Ok Parallel) = 0
answer_event (Err r) = r.event

module _ (mv : ℕ → Move) where
  -- what an answer says of two accesses i and j, by the definition; a theorem ties the walk of `compare_of` to it
  abbrev pub Says : ℕ → ℕ → Result Related Refusal → Type 0
  Says i j (Ok Same) = i ≡ j
  Says i j (Ok Before) = IsBefore mv i j
  Says i j (Ok After) = IsBefore mv j i
  Says i j (Ok Parallel) = IsParallel mv i j ⊎ IsParallel mv j i
  Says i j (Err r) = ⊥

  -- the answer, by the walk that decides parallel
  unfoldable pub compare_of : ℕ → ℕ → Related
  compare_of i j =
      cond (eqb i j) Same
      (cond (ltb i j) (cond (par mv i j) Parallel Before)
      (cond (par mv j i) Parallel After))

-- the events of a trace, and whether event n is an access
module _ (ev : ℕ → Event) where
  abbrev pub access_at : ℕ → Bool
  access_at n = is_some (access_of (ev n))

  -- "the question with 15 for each number, then 18 for each"; 15: "an event number not below" the event count; 18: "question about an
  -- event that is no access"
  unfoldable pub asked_of : ℕ → ℕ → ℕ → Result Related Refusal
  asked_of count i j =
      cond (ltb i count && ltb j count)
      (cond (access_at i && access_at j) (Ok (compare_of (moves ev) i j))
      (Err (refusal_of NotAccess 0)))
      (Err (refusal_of PastEvents 0))

-- the events of an accepted file
abbrev pub events_of : List ℕ → Job → ℕ → Event
events_of file job = event_at (events_from file job.start job.events)

-- with the file checked
abbrev pub after_check : Result Job Refusal → List ℕ → ℕ → ℕ → Result Related Refusal
after_check (Ok job) file i j = asked_of (events_of file job) job.events i j
after_check (Err r) file i j = Err r

-- events i and j of an accepted file are accesses
pub record Accesses (file : List ℕ) (job : Job) (i j : ℕ) : Type 0 where
  pub accepted : check_of file ≡ Ok job
  pub first_below : i < job.events
  pub second_below : j < job.events
  pub first_access : access_at (events_of file job) i ≡ true
  pub second_access : access_at (events_of file job) j ≡ true

-- "The question takes a file and two event numbers"
unfoldable pub question_of : List ℕ → ℕ → ℕ → Result Related Refusal
question_of file i j = after_check (check_of file) file i j
