-- The question of a whole file, by what its check says. Assumes nothing.
use mathlib.Core.Path.{◌≡◌}
use mathlib.Core.List.{List}
use Prim.Native.Nat.{ℕ}
use native.Mathlib.Omega.{arith}
use lib.ListN.{length-take, length-drop}
use Rattle.jobfile.proofs.Checking.{accepted, accepted_fits}
use Rattle.jobfile.specs.File.{check_of, events_from}
use Rattle.std.specs.Prelude.{Ok, Err}
use Rattle.jobfile.specs.declared.job.Job.{Job}
use Rattle.jobfile.specs.declared.refusal.Refusal.{Refusal}
use Rattle.relation.specs.Between.{Stretch}
use Rattle.relation.specs.Question.{events_of, asked_of, question_of}

pub question_unread : (file : List ℕ) (i j : ℕ) (r : Refusal) → check_of file ≡ Err r → question_of file i j ≡ Err r
unfolding question_of
question_unread file i j r e = rw e

module _ (file : List ℕ) (job : Job) (e : check_of file ≡ Ok job) where
  pub question_asked : (i j : ℕ) → question_of file i j ≡ asked_of (events_of file job) job.events i j
  unfolding question_of
  question_asked i j = rw e

  -- all events of an accepted file can be walked
  pub stretch_file : Stretch (events_from file job.start job.events) 0 job.events
  stretch_file = record {
    order = omega arith;
    room = simp (length-take, length-drop) (omega (arith, accepted_fits file job e));
    few = omega (arith, accepted_fits file job e);
    rooted = λ m l. (accepted file job e).rooted m l;
  }
