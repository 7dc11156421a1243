-- `jobfile::coding::event_at` meets its contract: what `decode` answers is the decoded event of the definition, case by case.
-- Assumes nothing.
use mathlib.Core.Path.{◌≡◌, refl, ap, ◌∙◌}
use Rattle.std.specs.Prelude.{Result, Ok, Err}
use Rattle.std.specs.Result.{result_unwrap_or}
use Rattle.trailer.specs.declared.fault.Fault.{Fault}
use Rattle.jobfile.specs.declared.event.Event.{Event}
use Rattle.jobfile.specs.declared.event.Event.TheVariants.{Sync}
use Rattle.jobfile.specs.Trace.{event_at, event_in}
use Rattle.jobfile.proofs.coding.event_at.Goals as goal

pub returns : goal.returns
unfolding event_at
returns c =
    c.unwrap_or.ensures ∙ told c.decode.result ∙ ap event_in c.decode.ensures.value
  where
    told : (d : Result Event Fault) → result_unwrap_or d Sync ≡ event_in d
    told (Ok e) = refl
    told (Err fault) = refl
