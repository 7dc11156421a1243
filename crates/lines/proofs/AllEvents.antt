-- What is known of the answer about all events of an input: the entries that it counts are there and their events too, its text is the
-- input's, and so is what is left. Assumes nothing.
use Prim.Native.Nat.{ℕ, ◌+◌, ◌*◌, ◌≤◌}
use native.Mathlib.Omega.{arith}
use mathlib.Core.Path.{◌≡◌, refl, sym, subst, ◌∙◌}
use mathlib.Core.Bool.{Bool, true, false, cond, ◌||◌}
use mathlib.Core.List.{List}
use lib.Dec.{ltb}
use lib.ListN.{length, take}
use borrow.Author.Tests.{ltb-false}
use Rattle.jobfile.specs.Trace.{event_at}
use Rattle.jobfile.specs.File.{check_of, event_count, events_from}
use Rattle.jobfile.specs.declared.job.Job.{Job}
use Rattle.jobfile.specs.declared.refusal.Refusal.{Refusal}
use Rattle.std.specs.Prelude.{Result, Ok, Err}
use Rattle.jobfile.proofs.Checking.{accepted_fits, accepted}
use Rattle.races.specs.Records.{Pair, pair}
use Rattle.races.proofs.NamedOn.{pair_named}
use Rattle.taking.specs.Buffers.{Buffers}
use Rattle.judging.specs.Answers.{judgeable, when_judgeable}
use Rattle.trailer.specs.declared.fault.Fault.{Fault}
use Rattle.trailer.specs.declared.fault.Fault.TheVariants.{ShortOutput}
use Rattle.per_record.specs.Lists.{Lists, LongEnough}
use Rattle.per_record.specs.Listed.{pair_in, pairs_below, entered_below}
use Rattle.per_record.specs.Answers.{and_then, fits_lists, judged_all, records_of}
use Rattle.per_record.specs.Leaves.{Leaves}
use Rattle.per_record.specs.declared.Answer.{Answer}
use Rattle.per_record.proofs.Listing.{below_at_most}
use Rattle.line.specs.Text.{refusal_text}
use Rattle.line.proofs.Parts.{events_size}
use Rattle.lines.specs.Text.{pair_lines, text_with, listed_text, AnswerWithin}
use Rattle.lines.specs.Lines.{answer_of, lines_of}
use Rattle.lines.proofs.Entries.{entries_are_pairs, entries_within}

abbrev passed : Result Unit Fault
passed = Ok tt

-- where the lists are taken, none is shorter than the record count
all_long : (count : ℕ) (L : Lists) → fits_lists count (length L.records) (length L.firsts) (length L.seconds) ≡ passed → LongEnough count L
all_long count L = by (ltb (length L.records) count) refl (ltb (length L.firsts) count) refl (ltb (length L.seconds) count) refl
  where
    by : (a : Bool) → ltb (length L.records) count ≡ a → (b : Bool) → ltb (length L.firsts) count ≡ b → (c : Bool) → ltb (length L.seconds) count ≡ c
        → cond (a || b || c) (Err ShortOutput) passed ≡ passed → LongEnough count L
    by true p b q c r e = cc
    by false p true q c r e = cc
    by false p false q true r e = cc
    by false p false q false r e = record {
      records = ltb-false (length L.records) count p;
      firsts = ltb-false (length L.firsts) count q;
      seconds = ltb-false (length L.seconds) count r;
    }

-- an input that the check refuses: its text is the refusal's, and nothing is stored
module _ (input : List ℕ) (B : Buffers) (L : Lists) (r : Refusal) (unread : check_of input ≡ Err r) where
  pub refused_text : refusal_text r ≡ lines_of input B L
  unfolding lines_of records_of
  refused_text = rw unread

  pub leaves_none : Leaves (answer_of input B L) input (event_count (check_of input)) B L B L
  unfolding records_of
  leaves_none = rw unread (refl, refl)

-- the pairs of the records of a job
abbrev pairs_in : List ℕ → Job → ℕ → Pair
pairs_in input job = pair_in (event_at (events_from input job.start job.events)) job.events

module _ (input : List ℕ) (job : Job) (ok : check_of input ≡ Ok job) where
  -- both events of a pair are among the events
  pair_within : (r i j : ℕ) → pairs_in input job r ≡ pair i j → (4 * i + 4 ≤ 4 * job.events) × (4 * j + 4 ≤ 4 * job.events)
  pair_within r i j e =
      let ev = event_at (events_from input job.start job.events) in
      let P = (pair_named ev job.events (λ m l. (accepted input job ok).rooted m l) i j r).0 e in
      (omega (arith, P.within, P.is_race.earlier), omega (arith, P.within))

  module _ (B₀ : Buffers) (L₀ : Lists) where
    -- an answer that counts raced records counts those of the job, and the lists have room for every record
    abbrev Counted : Result Answer Refusal → Type 0
    Counted (Ok a) = (a.raced ≡ pairs_below (pairs_in input job) job.records) × LongEnough job.records L₀
    Counted (Err r) = Unit {0}

    counted : Counted (records_of input job.events B₀ L₀)
    unfolding records_of judged_all
    counted =
        rw ok (by (judgeable job.events job.strands job.events (length B₀.labels) (length B₀.links) (length B₀.places))
        (fits_lists job.records (length L₀.records) (length L₀.firsts) (length L₀.seconds)) refl)
      where
        by : (f l : Result Unit Fault) → fits_lists job.records (length L₀.records) (length L₀.firsts) (length L₀.seconds) ≡ l
            → Counted (when_judgeable (and_then f l) (judged_all (event_at (events_from input job.start job.events)) job.events job.records))
        by (Err fault) l e = tt
        by (Ok x) (Err fault) e = tt
        by (Ok x) (Ok y) e = (refl, all_long job.records L₀ e)

    -- the entries of the answer are there, and the lines of them are those of the raced records
    entries_told : (a : Answer) → Counted (Ok a) → (B : Buffers) (L : Lists) → Leaves (Ok a) input job.events B₀ L₀ B L
        → AnswerWithin a (4 * job.events) L
        × (listed_text a (events_from input job.start job.events) L (take job.start input)
        ≡ text_with a (pair_lines (events_from input job.start job.events) (pairs_in input job) job.records) (take job.start input))
    entries_told a c B L left =
        let pairs = pairs_in input job in
        let L-is : L ≡ entered_below pairs L₀ job.records = rw ok at left.1 in
        let few = below_at_most pairs job.records in
        let fits = accepted_fits input job ok in
        let lines = entries_are_pairs pairs L₀ job.records c.1 (events_from input job.start job.events) job.records (omega arith) in (
          (omega arith, rw (L-is, c.0) (entries_within pairs L₀ job.records c.1 (4 * job.events) pair_within)),
          rw (L-is, c.0, lines),
        )

    -- an answer, and what it leaves
    module _ (r : Result Answer Refusal) (judged : r ≡ records_of input job.events B₀ L₀) (B : Buffers) (L : Lists)
        (left : Leaves r input job.events B₀ L₀ B L) where
      all_judged : r ≡ answer_of input B₀ L₀
      all_judged = judged ∙ rw ok

      pub leaves_all : Leaves (answer_of input B₀ L₀) input (event_count (check_of input)) B₀ L₀ B L
      leaves_all =
          let count : job.events ≡ event_count (check_of input) = rw ok in
          rw (← all_judged, ← count) left

    -- a refusal of judging
    pub refused_is : (r : Refusal) → Err r ≡ records_of input job.events B₀ L₀ → refusal_text r ≡ lines_of input B₀ L₀
    unfolding lines_of
    refused_is r judged =
        let all : Err r ≡ answer_of input B₀ L₀ = judged ∙ rw ok in
        rw (← all)

    -- an answer that is none
    module _ (a : Answer) (judged : Ok a ≡ records_of input job.events B₀ L₀) (B : Buffers) (L : Lists)
        (left : Leaves (Ok a) input job.events B₀ L₀ B L) where
      pub answer_there : AnswerWithin a (length (events_from input job.start job.events)) L
      answer_there =
          let size : length (events_from input job.start job.events) ≡ 4 * job.events = rw ok at (events_size input) in
          rw size (entries_told a (subst Counted (sym judged) counted) B L left).0

      pub text_is : listed_text a (events_from input job.start job.events) L (take job.start input) ≡ lines_of input B₀ L₀
      unfolding lines_of
      text_is =
          let all : Ok a ≡ answer_of input B₀ L₀ = judged ∙ rw ok in
          (entries_told a (subst Counted (sym judged) counted) B L left).1 ∙ rw (← all, ok)
