-- The parts of an input that its line speaks of: the events are as many as are judged, a pair is among them, and the name is short.
-- Assumes nothing.
use Prim.Native.Nat.{ℕ, ◌*◌, ◌≤◌}
use native.Mathlib.Omega.{arith}
use mathlib.Core.Path.{◌≡◌, refl}
use mathlib.Core.List.{List}
use lib.ListN.{length, take, drop, length-drop, length-take}
use lib.Seq.{length-take-le}
use Rattle.jobfile.specs.Trace.{event_at}
use Rattle.jobfile.specs.File.{check_of, name_length, event_count, events_from, event_part}
use Rattle.jobfile.specs.declared.job.Job.{Job}
use Rattle.jobfile.specs.declared.refusal.Refusal.{Refusal}
use Rattle.std.specs.Prelude.{Result, Ok, Err}
use Rattle.trailer.specs.declared.fault.Fault.{Fault}
use Rattle.jobfile.proofs.Checking.{accepted_fits, accepted}
use Rattle.races.specs.Records.{Verdict, clean, race}
use Rattle.races.specs.Verdict.{verdict}
use Rattle.races.proofs.Named.{verdict_race}
use Rattle.judging.specs.Answers.{answer_with, judged_of, judgeable, when_judgeable, after_check, judge_of}
use Rattle.judging.specs.Leaves.{Leaves}
use Rattle.judging.specs.declared.Answer.{Answer}
use Rattle.taking.specs.Buffers.{Buffers}
use Rattle.line.specs.Text.{refusal_text, judged_text, PairWithin}
use Rattle.line.specs.Line.{answer_of, line_of}

module _ (file : List ℕ) where
  -- four bytes for each event
  pub events_size : length (event_part file) ≡ 4 * event_count (check_of file)
  events_size = go (check_of file) refl
    where
      go : (c : Result Job Refusal) → check_of file ≡ c → length (events_from file (name_length c) (event_count c)) ≡ 4 * event_count c
      go (Ok j) e =
          let f = accepted_fits file j e in
          length-take-le (4 * j.events) (drop j.start file) (omega (arith, length-drop j.start file))
      go (Err r) e = refl

  -- of an answer that is no refusal
  abbrev AnswerWithin : Result Answer Refusal → ℕ → Type 0
  AnswerWithin (Ok a) room = PairWithin a room
  AnswerWithin (Err r) room = Unit {0}

  pub pair_within : (labels links places : ℕ) → AnswerWithin (answer_of file labels links places) (4 * event_count (check_of file))
  unfolding judge_of judged_of
  pair_within labels links places = go (check_of file) refl
    where
      go : (c : Result Job Refusal) → check_of file ≡ c → AnswerWithin (after_check c file (event_count c) labels links places) (4 * event_count c)
      go (Err r) e = tt
      go (Ok j) e = by (judgeable j.events j.strands j.events labels links places)
        where
          named : (v : Verdict) (s a b : ℕ) → verdict (event_at (events_from file j.start j.events)) j.events ≡ v → PairWithin (answer_with v s a b) (4 * j.events)
          named clean s a b v = tt
          named (race i k r) s a b v =
              let N = (verdict_race (event_at (events_from file j.start j.events)) j.events i k r (λ m l. (accepted file j e).rooted m l)).0 v in
              (omega (arith, N.within, N.is_race.earlier), omega (arith, N.within))

          by : (f : Result Unit Fault)
              → AnswerWithin (when_judgeable f (judged_of (event_at (events_from file j.start j.events)) j.events)) (4 * j.events)
          by (Ok x) = named (verdict (event_at (events_from file j.start j.events)) j.events) _ _ _ refl
          by (Err fault) = tt

-- an input that the check refuses: its line is the refusal's
pub refused_line : (input : List ℕ) (labels links places : ℕ) (r : Refusal) → check_of input ≡ Err r
    → (answer_of input labels links places ≡ Err r) × (refusal_text r ≡ line_of input labels links places)
unfolding line_of judge_of
refused_line input labels links places r e = rw e (refl, refl)

-- and nothing is stored
pub leaves_none : (input : List ℕ) (labels links places : ℕ) (r : Refusal) → check_of input ≡ Err r → (B : Buffers)
    → Leaves (answer_of input labels links places) input (event_count (check_of input)) B B
leaves_none input labels links places r e B = rw (refused_line input labels links places r e).0 refl

-- the name is at most 64 bytes
pub start_short : (input : List ℕ) (job : Job) → check_of input ≡ Ok job → length (take job.start input) ≤ 64
start_short input job ok = rw length-take (omega (arith, (accepted_fits input job ok).0))

-- an input that it accepts: what is known of the answer for all its events
module _ (input : List ℕ) (labels links places : ℕ) (job : Job) (ok : check_of input ≡ Ok job) where
  pub all_judged : judge_of input job.events labels links places ≡ answer_of input labels links places
  all_judged = rw ok

  part_all : events_from input job.start job.events ≡ event_part input
  part_all = rw ok

  pub leaves_all : (a : Result Answer Refusal) → a ≡ judge_of input job.events labels links places → (B₀ B : Buffers) → Leaves a input job.events B₀ B
      → Leaves (answer_of input labels links places) input (event_count (check_of input)) B₀ B
  leaves_all a e B₀ B S =
      let count : job.events ≡ event_count (check_of input) = rw ok in
      rw (← all_judged, ← e, ← count) S

  -- a refusal of judging
  pub refused_is : (r : Refusal) → Err r ≡ judge_of input job.events labels links places → refusal_text r ≡ line_of input labels links places
  unfolding line_of
  refused_is r e = rw (← all_judged, ← e)

  -- an answer that is none
  module _ (a : Answer) (judged : Ok a ≡ judge_of input job.events labels links places) where
    pub pair_there : PairWithin a (length (events_from input job.start job.events))
    pair_there = rw (part_all, events_size input) (rw (← all_judged, ← judged) at (pair_within input labels links places))

    pub line_is : judged_text a (events_from input job.start job.events) (take job.start input) ≡ line_of input labels links places
    unfolding line_of
    line_is =
        let name : take job.start input ≡ take (name_length (check_of input)) input = rw ok in
        rw (← all_judged, ← judged, part_all, name)
