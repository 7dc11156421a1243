-- `jobfile::job::Job::part` meets its contract: the part starts where the events do and has four bytes of each. Assumes nothing.
use mathlib.Core.Path.{◌≡◌, refl, ap}
use Prim.Native.Nat.{ℕ, ◌+◌, ◌*◌, ◌-◌}
use native.Mathlib.Omega.{arith}
use lib.ListN.{take, drop}
use Rattle.jobfile.proofs.job.Job.part.Goals as goal

pub returns : goal.returns
returns c =
    let start = c.args.self.now.start in
    let size : start + 4 * c.args.self.now.events - start ≡ 4 * c.args.self.now.events = omega arith in
    record { bytes = ap (λ (n : ℕ). take n (drop start c.args.file.now)) size; place = refl }
