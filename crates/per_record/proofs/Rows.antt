-- Row 16, and that the call is exact by its table. Assumes nothing.
use Prim.Native.Nat.{ℕ, ◌<◌}
use mathlib.Core.Path.{◌≡◌, refl}
use mathlib.Core.Logic.{◌⊎◌, inl, inr}
use mathlib.Core.List.{List, ◌++◌}
use mathlib.Core.Bool.{Bool, true, false, ◌||◌, cond}
use lib.Dec.{ltb}
use lib.ListN.{length}
use native.Mathlib.Omega.{arith}
use borrow.Author.Tests.{ltb-true, ltb-false}
use Rattle.std.specs.Prelude.{Result, Ok, Err}
use Rattle.trailer.specs.declared.fault.Fault.{Fault}
use Rattle.trailer.specs.declared.fault.Fault.TheVariants.{ShortOutput}
use Rattle.trailer.specs.Numbers.{number_of}
use Rattle.trailer.specs.Table.{Table, Exact, ExactNumbers}
use Rattle.trailer.proofs.Table.{first_row, not_row, given_front, Ends, ends_behind, exact, exact_numbers}
use Rattle.jobfile.specs.Refusals.{refusal_of}
use Rattle.jobfile.specs.File.{check_of}
use Rattle.jobfile.specs.Trace.{event_at}
use Rattle.jobfile.specs.Rows.{part_in, job_in, read_table}
use Rattle.jobfile.specs.declared.job.Job.{Job}
use Rattle.jobfile.specs.declared.refusal.Refusal.{Refusal}
use Rattle.jobfile.proofs.Rows.{ReadEnds, read_ends}
use Rattle.judging.specs.Answers.{when_judgeable}
use Rattle.judging.specs.Rows.{run_table, judge_table_with}
use Rattle.judging.proofs.Rows.{unless, run_ends}
use Rattle.taking.specs.Buffers.{Buffers}
use Rattle.per_record.specs.Lists.{Lists}
use Rattle.per_record.specs.declared.Answer.{Answer}
use Rattle.per_record.specs.Answers.{judged_all, fits_lists, and_then, after_check, records_of, numbers_of}
use Rattle.per_record.specs.Rows.{list_table, records_table}

-- one table behind another, where the answer of the first goes on to the second
ends_then : {A : Type 0} (front back : Table) (next taken : A) (refused : Fault → ℕ → A) (answer : A) → Ends front next refused answer
    → Ends back taken refused next → Ends (front ++ back) taken refused answer
ends_then front back next taken refused answer (inl (e, none)) E = rw e (ends_behind front back taken refused next none E)
ends_then front back next taken refused answer (inr (f, m, e, g)) E = inr (f, m, e, given_front front back (number_of f) m g)

abbrev refuse : Fault → ℕ → Result Answer Refusal
refuse f m = Err (refusal_of f m)

-- 16
module _ (count : ℕ) (L : Lists) (taken : Answer) where
  list_ends : Ends (list_table count L) (Ok taken) refuse (when_judgeable (fits_lists count (length L.records) (length L.firsts) (length L.seconds)) taken)
  list_ends = by (ltb (length L.records) count) refl (ltb (length L.firsts) count) refl (ltb (length L.seconds) count) refl
    where
      long : ltb (length L.records) count ≡ false → ltb (length L.firsts) count ≡ false → ltb (length L.seconds) count ≡ false
          → ¬ ((length L.records < count) ⊎ ((length L.firsts < count) ⊎ (length L.seconds < count)))
      long p q r (inl l) = omega (arith, ltb-false (length L.records) count p)
      long p q r (inr (inl l)) = omega (arith, ltb-false (length L.firsts) count q)
      long p q r (inr (inr l)) = omega (arith, ltb-false (length L.seconds) count r)

      by : (a : Bool) → ltb (length L.records) count ≡ a → (b : Bool) → ltb (length L.firsts) count ≡ b
          → (c : Bool) → ltb (length L.seconds) count ≡ c
          → Ends (list_table count L) (Ok taken) refuse (when_judgeable (cond (a || b || c) (Err ShortOutput) (Ok tt)) taken)
      by true p b q c r = inr (ShortOutput, 0, refl, inl (first_row 16 (inl (ltb-true (length L.records) count p))))
      by false p true q c r = inr (ShortOutput, 0, refl, inl (first_row 16 (inr (inl (ltb-true (length L.firsts) count q)))))
      by false p false q true r = inr (ShortOutput, 0, refl, inl (first_row 16 (inr (inr (ltb-true (length L.seconds) count r)))))
      by false p false q false r = inl (refl, (not_row (long p q r), tt))

-- "after 14"
fault_then : (events strands k labels links places : ℕ) (taken : Answer) (run lists : Result Unit Fault)
    → when_judgeable (and_then run lists) taken ≡ unless events strands k labels links places (when_judgeable lists taken) refuse run
fault_then events strands k labels links places taken (Ok x) lists = refl
fault_then events strands k labels links places taken (Err fault) lists = refl

abbrev refusal_in : Result Answer Refusal → ℕ
refusal_in a = (numbers_of a).refusal

abbrev event_in : Result Answer Refusal → ℕ
event_in a = (numbers_of a).event

module _ (file : List ℕ) (k : ℕ) (B : Buffers) (L : Lists) where
  abbrev ran : Answer
  ran = judged_all (event_at (part_in file)) k (job_in file).records

  abbrev running : Table
  running = run_table (job_in file).events (job_in file).strands k (length B.labels) (length B.links) (length B.places)

  -- 16, behind 15, 14 and 17 of the file's own job
  abbrev lists_then : Result Answer Refusal
  lists_then = when_judgeable (fits_lists (job_in file).records (length L.records) (length L.firsts) (length L.seconds)) ran

  abbrev RecordsEnds : Result Answer Refusal → Type 0
  RecordsEnds = Ends (records_table file k B L) (Ok ran) refuse

  records_ends : RecordsEnds (records_of file k B L)
  unfolding records_of
  records_ends = by (check_of file) (read_ends file)
    where
      by : (c : Result Job Refusal) → ReadEnds file c → RecordsEnds (after_check c file k B L)
      by c (inl (e, none)) =
          let tested =
          run_ends (job_in file).events (job_in file).strands k (length B.labels) (length B.links) (length B.places) lists_then refuse in
          let read = ends_behind (read_table file) running lists_then refuse _ none tested in
          rw (e, fault_then (job_in file).events (job_in file).strands k (length B.labels) (length B.links) (length B.places) ran)
          (ends_then (judge_table_with file k B) (list_table (job_in file).records L) lists_then (Ok ran) refuse _ read
          (list_ends (job_in file).records L ran))
      by c (inr (f, m, e, g)) =
          let read = given_front (read_table file) running (number_of f) m g in
          rw e (inr (f, m, refl, given_front (judge_table_with file k B) (list_table (job_in file).records L) (number_of f) m read))

  -- The call is exact, for every byte string, every k, and buffers and lists of any length.
  pub records_exact : Exact (records_table file k B L) (Ok (judged_all (event_at (part_in file)) k (job_in file).records)) (λ f m. Err (refusal_of f m))
      (records_of file k B L)
  records_exact =
      exact (records_table file k B L) (Ok ran) refuse (records_of file k B L) refusal_in event_in (λ f m. (refl, refl)) (λ f m e. cc) records_ends

  pub records_numbers_lem : ExactNumbers (records_table file k B L) (numbers_of (records_of file k B L)).refusal (numbers_of (records_of file k B L)).event
  records_numbers_lem =
      exact_numbers (records_table file k B L) (Ok ran) refuse (records_of file k B L) refusal_in event_in (λ f m. (refl, refl)) refl records_ends
