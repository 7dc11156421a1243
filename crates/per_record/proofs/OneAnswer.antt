-- No second answer, no second contents of the buffers and none of the lists fit the contract of `judge`. Assumes nothing.
use mathlib.Core.Path.{◌≡◌, refl, sym, ◌∙◌, subst}
use mathlib.Core.List.{List}
use Prim.Native.Nat.{ℕ, ◌≤◌}
use native.Mathlib.Omega.{arith}
use lib.ListN.{length}
use Rattle.std.specs.Prelude.{Result, Ok, Err}
use Rattle.trailer.specs.declared.fault.Fault.{Fault}
use Rattle.jobfile.specs.Trace.{event_at, moves}
use Rattle.jobfile.specs.File.{check_of, event_part, events_from}
use Rattle.jobfile.proofs.Checking.{accepted_part}
use Rattle.jobfile.specs.declared.job.Job.{Job}
use Rattle.jobfile.specs.declared.refusal.Refusal.{Refusal}
use Rattle.relation.specs.Parallel.{Rooted}
use Rattle.taking.specs.Buffers.{Buffers}
use Rattle.judging.specs.Answers.{judgeable, when_judgeable}
use Rattle.judging.proofs.OneAnswer.{shown_once, fault_within}
use Rattle.per_record.specs.Lists.{Lists}
use Rattle.per_record.specs.declared.Answer.{Answer}
use Rattle.per_record.specs.Answers.{judged_all, fits_lists, and_then, after_check, records_of}
use Rattle.per_record.specs.Leaves.{Leaves}
use Rattle.per_record.specs.Gives.{RecordsGives}

-- an answer that is no refusal
abbrev Given : Result Answer Refusal → Type 0
Given (Ok a) = Unit {0}
Given (Err r) = ⊥

module _ (file : List ℕ) (k : ℕ) (B : Buffers) (L : Lists) where
  -- an answer that is no refusal is of an accepted file, and k is within it
  abbrev Taken : Type 0
  Taken = (j : Job) × (check_of file ≡ Ok j) × (k ≤ j.events)

  given_taken : (c : Result Job Refusal) → check_of file ≡ c → Given (after_check c file k B L) → Taken
  given_taken (Err r) e g = absurd g
  given_taken (Ok j) e g = by (judgeable j.events j.strands k (length B.labels) (length B.links) (length B.places)) refl g
    where
      lists : Result Unit Fault
      lists = fits_lists j.records (length L.records) (length L.firsts) (length L.seconds)

      by : (f : Result Unit Fault) → judgeable j.events j.strands k (length B.labels) (length B.links) (length B.places) ≡ f
          → Given (when_judgeable (and_then f lists) (judged_all (event_at (events_from file j.start j.events)) k j.records)) → Taken
      by (Ok x) z g = (j, e, fault_within j.events j.strands k (length B.labels) (length B.links) (length B.places) z)
      by (Err fault) z g = absurd g

  -- and the events are rooted as far as the buffers show them
  given_rooted : Given (records_of file k B L) → Rooted (moves (event_at (event_part file))) k
  unfolding records_of
  given_rooted g =
      let w = given_taken (check_of file) refl g in
      λ m l. (accepted_part file w.0 w.1).rooted m (omega (arith, w.2))

-- the contract of `judge` fits one answer, one contents of the buffers and one of the lists
pub records_once : (file : List ℕ) (k : ℕ) (B₀ : Buffers) (L₀ : Lists) (r r' : Result Answer Refusal) (B B' : Buffers) (L L' : Lists)
    → RecordsGives file k B₀ L₀ r B L → RecordsGives file k B₀ L₀ r' B' L' → (r ≡ r') × (B ≡ B') × (L ≡ L')
records_once file k B₀ L₀ r r' B B' L L' F F' =
    let same : r ≡ r' = F.answer ∙ sym F'.answer in
    let w = by r F.answer F.leaves (rw (← same) at F'.leaves) in
    (same, w.0, w.1)
  where
    by : (a : Result Answer Refusal) → a ≡ records_of file k B₀ L₀ → Leaves a file k B₀ L₀ B L → Leaves a file k B₀ L₀ B' L' → (B ≡ B') × (L ≡ L')
    by (Ok a) z (S, l) (S', l') = (shown_once (given_rooted file k B₀ L₀ (subst Given z tt)) S S', l ∙ sym l')
    by (Err q) z (S, l) (S', l') = (S ∙ sym S', l ∙ sym l')
