-- One computed answer past each limit that only a definition has: refusals 10, 12 and 13. Whole files stand in crate small_jobs.
-- Assumes nothing.
use mathlib.Core.Path.{◌≡◌, refl}
use mathlib.Core.Bool.{true}
use mathlib.Core.List.{[], ◌∷◌}
use Rattle.jobfile.specs.declared.event.Event.TheVariants.{Spawn as S, End as E, Sync as J}
use Rattle.std.specs.Prelude.{Err}
use Rattle.trailer.specs.declared.fault.Fault.TheVariants.{RootEnded, TooManyStrands, LeftOpen}
use Rattle.jobfile.specs.Refusals.{refusal_of}
use Rattle.jobfile.specs.Coding.{event_of}
use Rattle.jobfile.specs.Tasks.{record_fault, task_fault, move_on, step_on, finish, trace_from, trace_of}
use Rattle.jobfile.specs.Samples.{event_bytes}

pub root_ended : trace_of 1 (event_bytes (E ∷ [])) ≡ Err (refusal_of RootEnded 0)
unfolding event_of record_fault task_fault move_on step_on finish trace_from
root_ended = refl

-- 4,096 strands have begun, and the sync has something to join
pub strand_over : trace_from 1 (event_bytes (J ∷ [])) 0 (true ∷ []) 4096 ≡ Err (refusal_of TooManyStrands 0)
unfolding event_of record_fault task_fault move_on step_on finish trace_from
strand_over = refl

pub task_open : trace_of 1 (event_bytes (S ∷ [])) ≡ Err (refusal_of LeftOpen 0)
unfolding event_of record_fault task_fault move_on step_on finish trace_from
task_open = refl
