-- `frozen` meets its contract: an access of a marked record, as the event that was read says. Assumes nothing.
use mathlib.Core.Path.{ap, ◌∙◌}
use Rattle.std.proofs.Common.{rules}
use Rattle.jobfile.specs.Events.{access_of}
use Rattle.per_record.specs.Marks.{of_marked}
use Rattle.per_record.proofs.Marking.{frozen_to}
use Rattle.per_record.proofs.frozen.Goals as goal

pub returns : goal.returns
returns c =
    let marks = c.args.marks.now in
    frozen_to marks _ _ _ c.is_some_and.ensures (λ to says. search rules) ∙ ap (of_marked marks) (c.access_of-access.ensures ∙ ap access_of c.event_at.ensures)
