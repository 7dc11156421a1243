-- `jobfile::job::Job::name` meets its contract: the part is the front of the file, up to where the events start. Assumes nothing.
use mathlib.Core.Path.{refl}
use Rattle.std.proofs.Common.{rules}
use Rattle.jobfile.proofs.job.Job.name.Goals as goal

pub returns : goal.returns
returns c =
    record { bytes = refl; place = search rules }
