-- Going on from event i: past an access of a frozen record, past a stretch and past a race what stands is that before the event that is
-- next. Assumes nothing.
use mathlib.Core.Path.{◌≡◌, sym, ap, ◌∙◌}
use mathlib.Core.Logic.{◌≢◌}
use mathlib.Core.List.{List}
use mathlib.Core.Bool.{true, false}
use mathlib.Core.Option.{some}
use Prim.Native.Nat.{ℕ, suc, ◌+◌, ◌-◌, ◌≤◌, ◌<◌}
use native.Mathlib.Omega.{arith}
use native.Mathlib.Decide.{dec_le}
use native.Mathlib.Numerals.{add-one}
use lib.ListN.{set}
use Rattle.std.specs.Prelude.{Some}
use Rattle.jobfile.specs.Accepted.{RecordBelow}
use Rattle.jobfile.specs.Events.{access_of}
use Rattle.jobfile.specs.Trace.{event_at, moves}
use Rattle.jobfile.specs.declared.event.Kind.{Kind}
use Rattle.jobfile.specs.Events.{access_to}
use Rattle.jobfile.proofs.Accesses.{access_stays}
use Rattle.strands.specs.Memory.{OpenTasks}
use Rattle.strands.specs.declared.Now.{Now}
use Rattle.races.specs.Records.{second_of}
use Rattle.races.specs.Mark.{rules, event_trace}
use Rattle.taking.specs.Buffers.{Buffers}
use Rattle.taking.specs.Turns.{Run, Fresh, Races, Runs, Runnable, Went, tasks_over, Reaches, Findable, FirstFound}
use Rattle.taking.specs.declared.Reach.{Reach}
use Rattle.taking.specs.declared.Found.{Found}
use Rattle.taking.proofs.Reaching.{tasks_none}
use Rattle.taking.proofs.Turned.{frozen_midway, raced_midway, frozen_still}
use Rattle.per_record.specs.Marks.{Marks, mark_in, low_bytes, of_marked, frozen_at, HasMark, stretch_end, FirstFrom}
use Rattle.per_record.specs.declared.Mark.{Mark}
use Rattle.per_record.specs.Goes.{Going, MayGo, past_frozen, past_all, past_race, Goes}
use Rattle.per_record.proofs.Stretches.{stretch_bounds}
use Rattle.per_record.proofs.Tested.{marked_access, unmarked_access}
use Rattle.per_record.proofs.MarksKept.{unmarked_unraced, marked_raced, still_marked, its_number, raced_marked}

less : (m n : ℕ) → m ≤ n → m ≢ n → m < n
less m n h d = go (dec_le (suc m) n)
  where
    go : Dec (m < n) → m < n
    go (yes l) = l
    go (no l) = absurd (d (omega arith))

-- an access leaves the open tasks
module _ (part : List ℕ) (from : ℕ) (T T' : OpenTasks) where
  tasks_past : (at : ℕ) → from ≤ at → (kind : Kind) (r : ℕ) → access_of (event_at part at) ≡ access_to kind r
      → T' ≡ tasks_over (moves (event_at part)) from (at - from) T → T' ≡ tasks_over (moves (event_at part)) from (suc at - from) T
  unfolding tasks_over
  tasks_past at h kind r e f =
      let there : from + (at - from) ≡ at = omega arith in
      let on : suc at - from ≡ suc (at - from) = omega arith in
      f ∙ rw (on, there, access_stays (event_at part at) kind r e)

-- the record of every event of a run has its mark
pub has_mark : {part : List ℕ} {records k : ℕ} → Run part records k → (m : ℕ) → m < k → HasMark part m
has_mark {records = records} R m l kind r e =
    let b : RecordBelow records (access_to kind r) = rw e at (R.accepted.record_below m (omega (arith, R.within))) in
    omega (arith, b, R.records_within)

-- before event i of a run
module _ {part : List ℕ} {records k : ℕ} {B₀ B : Buffers} {T : OpenTasks} {M : Marks} {now : Now} {i : ℕ} (G : Going part records k B₀ B T M now i) where
  -- event i is an access of a frozen record
  frozen_raced : i < k → frozen_at part M i ≡ true
      → (kind : Kind) × (r j : ℕ) × (access_of (event_at part i) ≡ access_to kind r) × (second_of rules (event_trace (event_at part)) r i ≡ some j)
  frozen_raced l t =
      let w = marked_access M (access_of (event_at part i)) t in
      let s = marked_raced G.marked w.1 (has_mark G.run i l w.0 w.1 w.3) w.2 w.4 in
      (w.0, w.1, s.0, w.3, s.1)

  -- event m is none
  fresh_event : i ≤ k → (m : ℕ) → m < k → frozen_at part M m ≡ false → Fresh part i m
  fresh_event h m l f kind r e =
      unmarked_unraced G.marked r (has_mark G.run m l kind r e) (unmarked_access (mark_in M r) (sym (ap (of_marked M) e) ∙ f))

  -- the events up to the end of the stretch may be run
  stretch_runs : {to : ℕ} → i < k → FirstFrom (frozen_at part M) i (stretch_end i k) to → Runs part i to records k B₀ B T now
  stretch_runs {to = to} l S =
      let b = stretch_bounds i k l in
      record {
        run = G.run;
        onward = S.onward;
        within = omega (arith, S.within, b.1);
        midway = G.midway;
        fresh = λ m h g. fresh_event (omega arith) m (omega (arith, S.within, b.1)) (S.passed m h g);
      }

  -- past an access of a frozen record
  past_frozen_going : i < k → frozen_at part M i ≡ true → Going part records k B₀ B T M now (suc i)
  past_frozen_going l t =
      let w = frozen_raced l t in
      record {
        run = G.run;
        midway = frozen_midway G.run l G.midway w.0 w.1 w.2 w.3 w.4;
        marked = still_marked part i (suc i) M (frozen_still part i w.0 w.1 w.2 w.3 w.4) G.marked;
      }

module _ {part : List ℕ} {M : Marks} {i k : ℕ} {B : Buffers} {T : OpenTasks} {now : Now} (A : MayGo part i k B T M now) (to : ℕ)
    (S : FirstFrom (frozen_at part M) i (stretch_end i k) to) where
  pub goes_past_frozen : to ≡ i → Goes part i k B T M now B T M (record { at = i + 1; state = now })
  goes_past_frozen z =
      let t : frozen_at part M i ≡ true = rw z at (S.stops (omega (arith, stretch_bounds i k A.next))) in
      let w = frozen_raced A.going A.next t in
      rw (add-one i) (record {
        went = λ records B₀ G. past_frozen_going G A.next t;
        stop = past_frozen t;
        onward = omega arith;
        within = A.next;
        tasks_are = tasks_past part i T T i (omega arith) w.0 w.1 w.3 (tasks_none part i T);
      })

  pub may_run : Runnable part i to B T now
  may_run = record { records = A.records; k = k; B₀ = A.B₀; runs = stretch_runs A.going A.next S }

  -- with how far the run over them went
  module _ (B' : Buffers) (T' : OpenTasks) (reach : Reach) (R : Reaches part i to B T now B' T' reach) (some : to ≢ i) where
    went_on : (records : ℕ) (B₀ : Buffers) → Going part records k B₀ B T M now i → Went part i to records B₀ B' T' reach
    went_on records B₀ G = R.went records k B₀ (stretch_runs G A.next S)

    went : Went part i to A.records A.B₀ B' T' reach
    went = went_on A.records A.B₀ A.going

    further : i < to
    further = less i to S.onward (λ e. some (sym e))

    pub goes_past_all : reach.at ≡ to → Goes part i k B T M now B' T' M reach
    goes_past_all z = record {
      went = λ records B₀ G.
          let w = went_on records B₀ G in
          record { run = G.run; midway = w.midway; marked = still_marked part i reach.at M w.still G.marked };
      stop = rw z (past_all S further (rw z at went.still));
      onward = omega (arith, further);
      within = omega (arith, S.within, stretch_bounds i k A.next);
      tasks_are = R.tasks_are;
    }

    -- it stopped at a race
    module _ (race : reach.at ≢ to) where
      before_end : reach.at < to
      before_end = less reach.at to went.within race

      pub within_run : reach.at < k
      within_run = omega (arith, before_end, S.within, stretch_bounds i k A.next)

      raced : Races part reach.at
      raced = went.races before_end

      pub may_find : Findable part reach.at B'.labels B'.places reach.state
      may_find = record {
        records = A.records;
        k = k;
        B₀ = A.B₀;
        links = B'.links;
        T = T';
        run = A.going.run;
        next = within_run;
        midway = went.midway;
        races = raced;
      }

      module _ (found : Found) (F : FirstFound part reach.at found) where
        pub mark_there : found.«record» < 4096
        mark_there = rw (its_number raced found F) (has_mark A.going.run reach.at within_run raced.kind raced.number raced.is_an_access)

        pub race_bounds : (reach.at < 1000000) × (found.«record» < 4096)
        race_bounds = (omega (arith, within_run, A.going.run.within, A.going.run.small), mark_there)

        pub goes_past_race : (m : Mark) → m ≡ record { kind = found.kind; second = low_bytes reach.at }
            → Goes part i k B T M now B' T' (set M found.«record» (Some m)) (record { at = reach.at + 1; state = reach.state })
        goes_past_race m e = rw (add-one reach.at) (record {
          went = λ records B₀ G.
              let w = went_on records B₀ G in
              record {
                run = G.run;
                midway = raced_midway G.run within_run w.midway raced;
                marked = raced_marked raced found F mark_there m e M (still_marked part i reach.at M w.still G.marked);
              };
          stop = past_race S went.onward before_end went.still raced;
          onward = omega (arith, went.onward);
          within = omega (arith, within_run);
          tasks_are = tasks_past part i T T' reach.at went.onward raced.kind raced.number raced.is_an_access R.tasks_are;
        })
