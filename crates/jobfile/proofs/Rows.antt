-- Rows 8 to 13 of a whole trace, and that reading is exact: a file is refused by the row that is given, and accepted where none holds.
-- Assumes nothing.
use Prim.Native.Nat.{ℕ, zero, suc, ◌+◌, ◌*◌, ◌≤◌, ◌<◌}
use mathlib.Core.Path.{◌≡◌, refl}
use mathlib.Core.Logic.{inl, inr}
use mathlib.Core.List.{List}
use mathlib.Core.Bool.{Bool, true, false, cond}
use lib.ListN.{length, drop, length-drop}
use lib.Seq.{length-take-le}
use lib.Dec.{ltb}
use native.Mathlib.Decide.{dec_le}
use native.Mathlib.Omega.{arith}
use native.Mathlib.Numerals.{add-one}
use borrow.Author.Tests.{ltb-true, ltb-false}
use Rattle.trailer.specs.Table.{Nowhere, Table, Given, NoRow, Exact, ExactNumbers}
use Rattle.trailer.specs.Rows.{count_of, records_of, start_of, head_table}
use Rattle.trailer.specs.Trailer.{head_of}
use Rattle.trailer.specs.declared.Head.{Head}
use Rattle.trailer.proofs.Table.{first_row, not_row, given_front, given_back, none_both, none_behind, Ends, exact, exact_numbers}
use Rattle.trailer.proofs.Rows.{HeadEnds, head_ends, words}
use Rattle.jobfile.specs.declared.event.Move.{Move}
use Rattle.std.specs.Prelude.{Result, Ok, Err}
use Rattle.jobfile.specs.declared.job.Job.{Job}
use Rattle.jobfile.specs.declared.refusal.Refusal.{Refusal}
use Rattle.trailer.specs.declared.fault.Fault.{Fault}
use Rattle.trailer.specs.declared.fault.Fault.TheVariants.{LeftOpen}
use Rattle.trailer.specs.Numbers.{number_of}
use Rattle.jobfile.specs.Refusals.{refusal_of}
use Rattle.jobfile.specs.Coding.{decode_at}
use Rattle.jobfile.specs.Trace.{event_at, moves, tasks_at, depth_at, begun_at}
use Rattle.jobfile.specs.Tasks.{Next, go, stop, step_of, resume, finish, trace_from, trace_of}
use Rattle.jobfile.specs.File.{after_trace, after_head, check_of, refusal_number, refusal_event}
use Rattle.jobfile.specs.Rows.{Malformed, row_8, kind_at, second_at, number_at, row_at, event_rows, trace_table}
use Rattle.jobfile.specs.Rows.{part_in, job_in, read_table}
use Rattle.jobfile.proofs.Turns.{trace_at, trace_end}
use Rattle.jobfile.proofs.EventRows.{seen, in_range, LeadsOn, leads_on}

module _ (records : ℕ) (part : List ℕ) where
  abbrev mv : ℕ → Move
  mv = moves (event_at part)

  -- what event i leads to, from the state just before it
  abbrev LeadsAt : ℕ → Next → Type 0
  LeadsAt i = LeadsOn records (kind_at part i) (second_at part i) (number_at part i) (tasks_at mv i) (begun_at mv i) (mv i)

  -- no row holds of an event below i
  pub record Clear (i : ℕ) : Type 0 where
    pub root : 1 ≤ depth_at mv i
    pub shallow : depth_at mv i ≤ 64
    pub few : begun_at mv i ≤ 4096
    pub passed : (m : ℕ) → m < i → (n : ℕ) → ¬ row_at records part m n

  clear_start : Clear 0
  unfolding tasks_at begun_at
  clear_start = record { root = omega arith; shallow = omega arith; few = omega arith; passed = λ m h. absurd (omega arith) }

  clear_next : (i : ℕ) (us : List Bool) (n : ℕ) → Clear i → LeadsAt i (go us n) → Clear (suc i)
  unfolding tasks_at begun_at
  clear_next i us n C (a, b, r, l, f, none) = record { root = rw a at r; shallow = rw a at l; few = rw b at f; passed = λ m. passed m (dec_le i m) }
    where
      passed : (m : ℕ) → Dec (i ≤ m) → m < suc i → (k : ℕ) → ¬ row_at records part m k
      passed m (yes g) l k = let e : i ≡ m = omega arith in rw (← e) (none k)
      passed m (no g) l k = C.passed m (omega arith) k

  module _ (count : ℕ) where
    abbrev pub TraceEnds : Result ℕ Refusal → Type 0
    TraceEnds = Ends (trace_table records count part) (Ok (begun_at mv count)) (λ f m. Err (refusal_of f m))

    -- the answer of the events from i on
    abbrev rest : ℕ → List Bool → ℕ → Result ℕ Refusal
    rest i tasks n = trace_from records (drop (4 * i) part) i tasks n

    finished : Clear count → TraceEnds (finish (tasks_at mv count) (begun_at mv count))
    unfolding finish
    finished C = by (ltb 1 (depth_at mv count)) refl
      where
        nowhere : Nowhere (event_rows records count part)
        nowhere n m (l, r) = C.passed m l n r

        by : (b : Bool) → ltb 1 (depth_at mv count) ≡ b → TraceEnds (cond b (Err (refusal_of LeftOpen 0)) (Ok (begun_at mv count)))
        by true q = inr (LeftOpen, 0, refl, inr (nowhere, inl (first_row 13 (ltb-true 1 (depth_at mv count) q))))
        by false q = inl (refl, (nowhere, (not_row (λ l. omega (arith, ltb-false 1 (depth_at mv count) q)), tt)))

    -- event i, and what is behind it
    turned : (i : ℕ) → i < count → Clear i → (x : Next) → LeadsAt i x
        → (Clear (suc i) → TraceEnds (rest (i + 1) (tasks_at mv (suc i)) (begun_at mv (suc i)))) → TraceEnds (resume x i (λ us n. rest (i + 1) us n))
    unfolding tasks_at begun_at
    turned i h C (go us n) l next = rw (l.0, l.1) (next (clear_next i us n C l))
    turned i h C (stop f) (r, least) next =
        inr (f, i, refl, inl (record { holds = (h, r); earliest = λ n m x. earliest n m (dec_le i m) x.1; least = λ n x. least n x.1 }))
      where
        earliest : (n m : ℕ) → Dec (i ≤ m) → row_at records part m n → i ≤ m
        earliest n m (yes g) x = g
        earliest n m (no g) x = absurd (C.passed m (omega arith) n x)

    module _ (some : 0 < records) where
      led : (i : ℕ) → Clear i → LeadsAt i (step_of records (tasks_at mv i) (begun_at mv i) (decode_at part (4 * i)))
      unfolding event_at
      led i C =
          leads_on records (kind_at part i) (second_at part i) (number_at part i) (tasks_at mv i) (begun_at mv i) C.root C.shallow C.few some
          (decode_at part (4 * i)) (seen (kind_at part i) (second_at part i) (number_at part i))

      -- where no row holds, the bounds hold before every event
      pub clear : NoRow (trace_table records count part) → (i : ℕ) → i ≤ count → Clear i
      unfolding begun_at
      clear none zero h = clear_start
      clear none (suc i) h =
          let C = clear none i (omega arith) in by (step_of records (tasks_at mv i) (begun_at mv i) (decode_at part (4 * i))) C (led i C)
        where
          by : (x : Next) → Clear i → LeadsAt i x → Clear (suc i)
          by (go us n) C l = clear_next i us n C l
          by (stop f) C l = absurd (none.0 (number_of f) i (h, l.0))

      module _ (size : length part ≡ 4 * count) where
        from : (left i : ℕ) → i + left ≡ count → Clear i → TraceEnds (rest i (tasks_at mv i) (begun_at mv i))
        from zero i e C =
            let z : i ≡ count = omega arith in
            rw (trace_end records i (tasks_at mv i) (begun_at mv i) part (omega arith), z) (finished (rw (← z) C))
        from (suc left) i e C =
            rw (trace_at records i (tasks_at mv i) (begun_at mv i) part (omega arith))
            (turned i (omega arith) C (step_of records (tasks_at mv i) (begun_at mv i) (decode_at part (4 * i))) (led i C)
            (λ D. rw (add-one i) (from left (suc i) (omega arith) D)))

        -- the check of the events
        pub trace_ends : TraceEnds (trace_of records part)
        unfolding tasks_at begun_at
        trace_ends = from count 0 (omega arith) clear_start

-- the rows of a trace have the numbers 8 to 13
pub trace_range : (records count : ℕ) (part : List ℕ) (n m : ℕ) → Given (trace_table records count part) n m → (8 ≤ n) × (n ≤ 13)
trace_range records count part n m (inl F) = let r = in_range F.holds.1 in (omega arith, omega arith)
trace_range records count part n m (inr (z, inl F)) = let e = F.holds.0 in (omega arith, omega arith)
trace_range records count part n m (inr (z, inr (y, g))) = absurd g

abbrev refuse : Fault → ℕ → Result Job Refusal
refuse f m = Err (refusal_of f m)

module _ (file : List ℕ) where
  abbrev traced : Table
  traced = trace_table (records_of file) (count_of file) (part_in file)

  abbrev pub ReadEnds : Result Job Refusal → Type 0
  ReadEnds = Ends (read_table file) (Ok (job_in file)) refuse

  pub read_ends : ReadEnds (check_of file)
  unfolding check_of
  read_ends = by_head (head_of file) (head_ends file)
    where
      by_trace : NoRow (head_table file) → (t : Result ℕ Refusal) → TraceEnds (records_of file) (part_in file) (count_of file) t
          → ReadEnds (after_trace t (start_of file) (count_of file) (records_of file))
      by_trace none t (inl (e, rest)) = rw e (inl (refl, none_both (head_table file) traced none rest))
      by_trace none t (inr (f, m, e, g)) = rw e (inr (f, m, refl, given_back (head_table file) traced (number_of f) m none g))

      by_head : (h : Result Head Fault) → HeadEnds file (head_table file) h → ReadEnds (after_head h file)
      by_head h (inl (e, none)) =
          let w = words file none in
          let size = length-take-le (4 * count_of file) (drop (start_of file) file) (omega (arith, length-drop (start_of file) file)) in
          rw e (by_trace none (trace_of (records_of file) (part_in file)) (trace_ends (records_of file) (part_in file) (count_of file) w.some size))
      by_head h (inr (f, e, g)) = rw e (inr (f, 0, refl, given_front (head_table file) traced (number_of f) 0 g))

  -- where no row holds, every event is well formed
  pub events_read : NoRow (read_table file)
      → (m : ℕ) → m < count_of file → ¬ Malformed (kind_at (part_in file) m) (second_at (part_in file) m) (number_at (part_in file) m)
  events_read none m h c = (none_behind (head_table file) traced none).0 8 m (h, row_8 c)

  -- Reading is exact, for every byte string.
  pub reading_exact : Exact (read_table file) (Ok (job_in file)) (λ f m. Err (refusal_of f m)) (check_of file)
  reading_exact =
      exact (read_table file) (Ok (job_in file)) refuse (check_of file) refusal_number refusal_event (λ n m. (refl, refl))
      (λ f m e. cc) read_ends

  pub reading_numbers : ExactNumbers (read_table file) (refusal_number (check_of file)) (refusal_event (check_of file))
  reading_numbers =
      exact_numbers (read_table file) (Ok (job_in file)) refuse (check_of file) refusal_number refusal_event (λ n m. (refl, refl)) refl read_ends
