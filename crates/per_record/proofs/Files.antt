-- A whole file: the answer, the buffers and the lists from the check, the tests of k and the lengths, the run over the events and the list of
-- the records. Assumes nothing.
use mathlib.Core.Path.{◌≡◌, ◌∙◌}
use mathlib.Core.List.{List}
use mathlib.Core.Bool.{true, false}
use Prim.Native.Nat.{ℕ, ◌≤◌}
use lib.ListN.{length}
use Rattle.std.specs.Prelude.{Ok, Err}
use Rattle.trailer.specs.declared.fault.Fault.{Fault}
use Rattle.trailer.specs.declared.fault.Fault.TheVariants.{ShortOutput}
use Rattle.jobfile.specs.Refusals.{refusal_of}
use Rattle.jobfile.specs.Trace.{event_at}
use Rattle.jobfile.specs.File.{check_of, event_part, events_from, record_count}
use Rattle.jobfile.specs.declared.job.Job.{Job}
use Rattle.jobfile.specs.declared.event.Event.{Event}
use Rattle.jobfile.specs.declared.refusal.Refusal.{Refusal}
use Rattle.strands.specs.declared.Now.{Now}
use Rattle.taking.specs.Buffers.{Buffers}
use Rattle.judging.specs.Answers.{counts_in, judgeable}
use Rattle.judging.specs.Leaves.{Shows}
use Rattle.per_record.specs.Lists.{Lists}
use Rattle.per_record.specs.Listed.{pairs_below, entered_below, raced_below, listed}
use Rattle.per_record.specs.Marks.{Marks, pair_held}
use Rattle.per_record.specs.Goes.{Ran}
use Rattle.per_record.specs.declared.Answer.{Answer}
use Rattle.per_record.specs.Answers.{judged_all, is_short, records_of}
use Rattle.per_record.proofs.Entering.{same_counted, same_listed}
use Rattle.per_record.proofs.Pairs.{pair_held_lem}

-- what was listed by the marks and the places is each record's own pair
module _ {ev : ℕ → Event} {k records : ℕ} {B₀ B : Buffers} {M : Marks} {now : Now} (R : Ran ev k records B₀ B M now) (few : k ≤ 1000000) (fit : records ≤ 4096) where
  ran_counted : (n : ℕ) → n ≡ pairs_below (pair_held M B.places) records → n ≡ raced_below ev k records
  ran_counted n e = e ∙ same_counted _ _ records (λ r l. pair_held_lem ev r k R.marked R.shows.places few l fit)

  pub ran_listed : (L₀ L : Lists) → L ≡ entered_below (pair_held M B.places) L₀ records → L ≡ listed ev k L₀ records
  ran_listed L₀ L e = e ∙ same_listed _ _ L₀ records (λ r l. pair_held_lem ev r k R.marked R.shows.places few l fit)

  pub ran_judged : (a : Answer) → a.raced ≡ pairs_below (pair_held M B.places) records → a.counts ≡ counts_in now → a ≡ judged_all ev k records
  unfolding judged_all
  ran_judged a e c = rw (ran_counted a.raced e, c, R.strands, R.english, R.hebrew)

module _ (file : List ℕ) (k : ℕ) (B : Buffers) (L : Lists) where
  pub records_unread : (r : Refusal) → check_of file ≡ Err r → Err r ≡ records_of file k B L
  unfolding records_of
  records_unread r e = rw e

  -- of an accepted file: each test, once those ahead of it have passed
  module _ (j : Job) (ok : check_of file ≡ Ok j) where
    pub records_refused : (f : Fault) → Err f ≡ judgeable j.events j.strands k (length B.labels) (length B.links) (length B.places)
        → Err (refusal_of f 0) ≡ records_of file k B L
    unfolding records_of
    records_refused f e = rw (ok, ← e)

    module _ (e : Ok tt ≡ judgeable j.events j.strands k (length B.labels) (length B.links) (length B.places)) where
      pub records_short : true ≡ is_short j.records (length L.records) (length L.firsts) (length L.seconds)
          → Err (refusal_of ShortOutput 0) ≡ records_of file k B L
      unfolding records_of
      records_short s = rw (ok, ← e, ← s)

      pub records_run : false ≡ is_short j.records (length L.records) (length L.firsts) (length L.seconds)
          → (a : Answer) → a ≡ judged_all (event_at (events_from file j.start j.events)) k j.records → Ok a ≡ records_of file k B L
      unfolding records_of
      records_run s a h = rw (ok, ← e, ← s, h)

-- what is left in the buffers and the lists, of an accepted file
pub leaves_run : (file : List ℕ) (k : ℕ) (B₀ B : Buffers) (L₀ L : Lists) (j : Job) → check_of file ≡ Ok j
    → Shows (event_at (events_from file j.start j.events)) k j.records B₀ B
    → L ≡ listed (event_at (events_from file j.start j.events)) k L₀ j.records
    → Shows (event_at (event_part file)) k (record_count (check_of file)) B₀ B × (L ≡ listed (event_at (event_part file)) k L₀ (record_count (check_of file)))
leaves_run file k B₀ B L₀ L j ok S l = rw ok (S, l)
