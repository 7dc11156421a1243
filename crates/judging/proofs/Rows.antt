-- Rows 15, 14 and 17, and that judging is exact. Assumes nothing.
use Prim.Native.Nat.{ℕ, ◌-◌, ◌^◌, ◌<◌}
use mathlib.Core.Path.{◌≡◌, refl, subst}
use mathlib.Core.Logic.{◌⊎◌, inl, inr}
use mathlib.Core.List.{List}
use mathlib.Core.Bool.{Bool, true, false, cond}
use lib.Dec.{ltb}
use native.Mathlib.Omega.{arith}
use borrow.Author.Tests.{ltb-true, ltb-false}
use Rattle.trailer.specs.Table.{row, Nowhere, Table, Exact, ExactNumbers}
use Rattle.trailer.proofs.Table.{first_row, not_row, given_front, Ends, ends_behind, exact, exact_numbers}
use Rattle.jobfile.specs.Refusals.{refusal_of}
use Rattle.jobfile.specs.File.{check_of}
use Rattle.jobfile.specs.Trace.{event_at}
use Rattle.jobfile.specs.Rows.{part_in, job_in, read_table}
use Rattle.jobfile.proofs.Rows.{ReadEnds, read_ends}
use Rattle.orders.specs.Order.{spaced}
use Rattle.std.specs.Prelude.{Result, Ok, Err}
use Rattle.jobfile.specs.declared.refusal.Refusal.{Refusal}
use Rattle.judging.specs.declared.Answer.{Answer}
use Rattle.judging.specs.declared.Answer.TheVariants.{Clean, Race}
use Rattle.trailer.specs.declared.fault.Fault.{Fault}
use Rattle.trailer.specs.declared.fault.Fault.TheVariants.{ShortBuffer, PastEvents, NoLabels}
use Rattle.trailer.specs.Numbers.{number_of}
use Rattle.jobfile.specs.declared.job.Job.{Job}
use Rattle.judging.specs.Answers.{judged_of, no_room, judgeable, when_judgeable, after_check, judge_of, numbers_of}
use Rattle.judging.specs.Rows.{run_table, judge_table}

-- what the run answers, unless one of the three is given; for answers of any kind
module _ {A : Type 0} (events strands k labels links places : ℕ) (run : A) (refuse : Fault → ℕ → A) where
  abbrev pub unless : Result Unit Fault → A
  unless (Ok x) = run
  unless (Err fault) = refuse fault 0

  pub run_ends : Ends (run_table events strands k labels links places) run refuse (unless (judgeable events strands k labels links places))
  unfolding judgeable no_room
  run_ends =
      by (ltb events k) refl (ltb labels 8192) refl (ltb links 16384) refl (ltb places 16384) refl (ltb (2 ^ 64 - 1) (spaced (strands - 1))) refl
    where
      within : ltb events k ≡ false → Nowhere (row 15 (events < k))
      within p = not_row (λ l. omega (arith, ltb-false events k p))

      fit : ltb labels 8192 ≡ false → ltb links 16384 ≡ false → ltb places 16384 ≡ false → ¬ ((labels < 8192) ⊎ ((links < 16384) ⊎ (places < 16384)))
      fit q r s (inl l) = omega (arith, ltb-false labels 8192 q)
      fit q r s (inr (inl l)) = omega (arith, ltb-false links 16384 r)
      fit q r s (inr (inr l)) = omega (arith, ltb-false places 16384 s)

      by : (a : Bool) → ltb events k ≡ a → (b : Bool) → ltb labels 8192 ≡ b → (c : Bool) → ltb links 16384 ≡ c → (d : Bool) → ltb places 16384 ≡ d
          → (e : Bool) → ltb (2 ^ 64 - 1) (spaced (strands - 1)) ≡ e
          → Ends (run_table events strands k labels links places) run refuse (unless (cond a (Err PastEvents) (cond b (Err ShortBuffer) (cond c (Err ShortBuffer) (cond d (Err ShortBuffer) (cond e (Err NoLabels) (Ok tt)))))))
      by true p b q c r d s e t = inr (PastEvents, 0, refl, inl (first_row 15 (ltb-true events k p)))
      by false p true q c r d s e t = inr (ShortBuffer, 0, refl, inr (within p, inl (first_row 14 (inl (ltb-true labels 8192 q)))))
      by false p false q true r d s e t = inr (ShortBuffer, 0, refl, inr (within p, inl (first_row 14 (inr (inl (ltb-true links 16384 r))))))
      by false p false q false r true s e t = inr (ShortBuffer, 0, refl, inr (within p, inl (first_row 14 (inr (inr (ltb-true places 16384 s))))))
      by false p false q false r false s true t =
          let l = ltb-true (2 ^ 64 - 1) (spaced (strands - 1)) t in
          inr (NoLabels, 0, refl, inr (within p, inr (not_row (fit q r s), inl (first_row 17 l))))
      by false p false q false r false s false t =
          inl (refl, (within p, (not_row (fit q r s), (not_row (λ l. omega (arith, ltb-false (2 ^ 64 - 1) (spaced (strands - 1)) t)), tt))))

-- the number of a fault, and 0 where there is none
abbrev pub fault_number : Result Unit Fault → ℕ
fault_number (Ok x) = 0
fault_number (Err fault) = number_of fault

fault_alone : (r : Result Unit Fault) → ◌≡◌ {A = ℕ × ℕ} (unless 0 0 0 0 0 0 (0, 0) (λ f m. (number_of f, m)) r) (fault_number r, 0)
fault_alone (Ok x) = refl
fault_alone (Err fault) = refl

-- The fault of the run is exact by its table.
pub fault_exact : (events strands k labels links places : ℕ)
    → ExactNumbers (run_table events strands k labels links places) (fault_number (judgeable events strands k labels links places)) 0
fault_exact events strands k labels links places =
    subst (λ (a : ℕ × ℕ). ExactNumbers (run_table events strands k labels links places) a.0 a.1) (fault_alone (judgeable events strands k labels links places))
    (exact_numbers {A = ℕ × ℕ} (run_table events strands k labels links places) (0, 0) (λ f m. (number_of f, m)) _ (λ a. a.0) (λ a. a.1) (λ f m. (refl, refl)) refl
    (run_ends {A = ℕ × ℕ} events strands k labels links places (0, 0) (λ f m. (number_of f, m))))

abbrev refusal_in : Result Answer Refusal → ℕ
refusal_in a = (numbers_of a).refusal

abbrev event_in : Result Answer Refusal → ℕ
event_in a = (numbers_of a).event

-- an answer is no refusal
answered : (a : Answer) → refusal_in (Ok a) ≡ 0
answered (Clean c) = refl
answered (Race i j r c) = refl

abbrev refuse : Fault → ℕ → Result Answer Refusal
refuse f m = Err (refusal_of f m)

-- the definition's words for the same
when_is : (events strands k labels links places : ℕ) (a : Answer) (r : Result Unit Fault)
    → when_judgeable r a ≡ unless events strands k labels links places (Ok a) refuse r
when_is events strands k labels links places a (Ok x) = refl
when_is events strands k labels links places a (Err fault) = refl

module _ (file : List ℕ) (k labels links places : ℕ) where
  abbrev ran : Result Answer Refusal
  ran = Ok (judged_of (event_at (part_in file)) k)

  abbrev running : Table
  running = run_table (job_in file).events (job_in file).strands k labels links places

  judge_ends : Ends (judge_table file k labels links places) ran refuse (judge_of file k labels links places)
  unfolding judge_of
  judge_ends = by (check_of file) (read_ends file)
    where
      by : (c : Result Job Refusal) → ReadEnds file c → Ends (judge_table file k labels links places) ran refuse (after_check c file k labels links places)
      by c (inl (e, none)) =
          rw e (ends_behind (read_table file) running ran refuse _ none
          (rw (when_is (job_in file).events (job_in file).strands k labels links places)
          (run_ends (job_in file).events (job_in file).strands k labels links places ran refuse)))
      by c (inr (f, m, e, g)) = rw e (inr (f, m, refl, given_front (read_table file) running (number_of f) m g))

  -- Judging is exact, for every byte string, every k and buffers of any length.
  pub judging_exact : Exact (judge_table file k labels links places) (Ok (judged_of (event_at (part_in file)) k)) (λ f m. Err (refusal_of f m))
      (judge_of file k labels links places)
  judging_exact =
      exact (judge_table file k labels links places) ran refuse (judge_of file k labels links places) refusal_in event_in (λ f m. (refl, refl))
      (λ f m e. cc) judge_ends

  pub judging_numbers : ExactNumbers (judge_table file k labels links places) (numbers_of (judge_of file k labels links places)).refusal
      (numbers_of (judge_of file k labels links places)).event
  judging_numbers =
      exact_numbers (judge_table file k labels links places) ran refuse (judge_of file k labels links places) refusal_in event_in (λ f m. (refl, refl))
      (answered (judged_of (event_at (part_in file)) k)) judge_ends
