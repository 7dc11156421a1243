-- A checked file has few events, whatever the answer. Assumes nothing.
use Prim.Native.Nat.{ℕ, ◌≤◌}
use native.Mathlib.Omega.{arith}
use Rattle.jobfile.specs.File.{CheckFits, event_count}
use Rattle.std.specs.Prelude.{Result, Ok, Err}
use Rattle.jobfile.specs.declared.job.Job.{Job}
use Rattle.jobfile.specs.declared.refusal.Refusal.{Refusal}

pub few_events : (c : Result Job Refusal) (n : ℕ) → CheckFits c n → event_count c ≤ 1000000
few_events (Ok j) n fits = omega arith
few_events (Err r) n fits = omega arith
