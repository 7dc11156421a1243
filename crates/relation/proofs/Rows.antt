-- Rows 15 and 18, and that the question is exact. Assumes nothing.
use Prim.Native.Nat.{ℕ, ◌*◌, ◌≤◌, ◌<◌}
use mathlib.Core.Path.{◌≡◌, refl, sym}
use mathlib.Core.Logic.{◌⊎◌, inl, inr}
use mathlib.Core.List.{List}
use mathlib.Core.Bool.{Bool, true, false, cond, ◌&&◌, false≢true}
use lib.Dec.{ltb}
use native.Mathlib.Omega.{arith}
use borrow.Author.Tests.{ltb-true, ltb-false}
use Rattle.trailer.specs.Table.{Table, Exact, ExactNumbers}
use Rattle.trailer.specs.Rows.{count_of}
use Rattle.trailer.proofs.Table.{first_row, not_row, given_front, Ends, ends_behind, exact, exact_numbers}
use Rattle.std.specs.Prelude.{Result, Ok, Err}
use Rattle.jobfile.specs.declared.refusal.Refusal.{Refusal}
use Rattle.jobfile.specs.declared.job.Job.{Job}
use Rattle.trailer.specs.declared.fault.Fault.{Fault}
use Rattle.trailer.specs.declared.fault.Fault.TheVariants.{PastEvents, NotAccess}
use Rattle.trailer.specs.Numbers.{number_of}
use Rattle.std.specs.Option.{is_some}
use Rattle.jobfile.specs.Refusals.{refusal_of}
use Rattle.jobfile.specs.File.{check_of}
use Rattle.jobfile.specs.Coding.{decode_at}
use Rattle.jobfile.specs.Events.{access_of}
use Rattle.jobfile.specs.Trace.{event_in, event_at, moves}
use Rattle.jobfile.specs.declared.event.Event.{Event}
use Rattle.jobfile.specs.declared.event.Event.TheVariants.{Spawn, End, Sync, Read, Write}
use Rattle.jobfile.specs.declared.event.Move.{Move}
use Rattle.jobfile.specs.Rows.{Malformed, Coded, kind_at, second_at, number_at, part_in, read_table}
use Rattle.jobfile.proofs.EventRows.{Seen, seen}
use Rattle.jobfile.proofs.Rows.{ReadEnds, read_ends, events_read}
use Rattle.relation.specs.Question.{access_at, compare_of, asked_of, after_check, question_of, answer_refusal, answer_event}
use Rattle.relation.specs.Rows.{NoAccess, asked_table, question_table}
use Rattle.relation.specs.declared.Related.{Related}
use Rattle.relation.specs.declared.Related.TheVariants.{Same, Before, After, Parallel}

-- an event that row 8 does not refuse is an access exactly if its kind is 4 or 5
abbrev ByKind : ℕ → Event → Type 0
ByKind kind e = (is_some (access_of e) ≡ true → ¬ NoAccess kind) × (is_some (access_of e) ≡ false → NoAccess kind)

coded_access : (kind second number : ℕ) (e : Event) → Coded kind second number e → ByKind kind e
coded_access kind second number Spawn (k, s, z) = (λ e. absurd (false≢true e), λ e. (λ x. omega arith, λ x. omega arith))
coded_access kind second number End (k, s, z) = (λ e. absurd (false≢true e), λ e. (λ x. omega arith, λ x. omega arith))
coded_access kind second number Sync (k, s, z) = (λ e. absurd (false≢true e), λ e. (λ x. omega arith, λ x. omega arith))
coded_access kind second number (Read r) (k, s, z) = (λ e n. n.0 k, λ e. absurd (false≢true (sym e)))
coded_access kind second number (Write r) (k, s, z) = (λ e n. n.1 k, λ e. absurd (false≢true (sym e)))

seen_access : (kind second number : ℕ) → ¬ Malformed kind second number → (d : Result Event Fault) → Seen kind second number d → ByKind kind (event_in d)
seen_access kind second number f (Ok e) c = coded_access kind second number e c
seen_access kind second number f (Err k) (e, c) = absurd (f c)

abbrev refuse : Fault → ℕ → Result Related Refusal
refuse f m = Err (refusal_of f m)

module _ (count : ℕ) (part : List ℕ) (i j : ℕ) where
  abbrev ev : ℕ → Event
  ev = event_at part

  -- the events that are asked about are well formed
  module _ (formed : (m : ℕ) → m < count → ¬ Malformed (kind_at part m) (second_at part m) (number_at part m)) where
    accessed : (m : ℕ) → m < count → ByKind (kind_at part m) (ev m)
    unfolding event_at
    accessed m h =
        seen_access (kind_at part m) (second_at part m) (number_at part m) (formed m h) (decode_at part (4 * m))
        (seen (kind_at part m) (second_at part m) (number_at part m))

    asked_ends : Ends (asked_table count part i j) (Ok (compare_of (moves ev) i j)) refuse (asked_of ev count i j)
    unfolding asked_of
    asked_ends = by (ltb i count) refl (ltb j count) refl (access_at ev i) refl (access_at ev j) refl
      where
        below : ltb i count ≡ true → ltb j count ≡ true → ¬ ((count ≤ i) ⊎ (count ≤ j))
        below p q (inl l) = omega (arith, ltb-true i count p)
        below p q (inr l) = omega (arith, ltb-true j count q)

        both : ¬ NoAccess (kind_at part i) → ¬ NoAccess (kind_at part j) → ¬ (NoAccess (kind_at part i) ⊎ NoAccess (kind_at part j))
        both f g (inl x) = f x
        both f g (inr x) = g x

        by : (a : Bool) → ltb i count ≡ a → (b : Bool) → ltb j count ≡ b → (c : Bool) → access_at ev i ≡ c → (d : Bool) → access_at ev j ≡ d
            → Ends (asked_table count part i j) (Ok (compare_of (moves ev) i j)) refuse
            (cond (a && b) (cond (c && d) (Ok (compare_of (moves ev) i j)) (Err (refusal_of NotAccess 0))) (Err (refusal_of PastEvents 0)))
        by false p b q c r d s = inr (PastEvents, 0, refl, inl (first_row 15 (inl (ltb-false i count p))))
        by true p false q c r d s = inr (PastEvents, 0, refl, inl (first_row 15 (inr (ltb-false j count q))))
        by true p true q false r d s =
            inr (NotAccess, 0, refl, inr (not_row (below p q), inl (first_row 18 (inl ((accessed i (ltb-true i count p)).1 r)))))
        by true p true q true r false s =
            inr (NotAccess, 0, refl, inr (not_row (below p q), inl (first_row 18 (inr ((accessed j (ltb-true j count q)).1 s)))))
        by true p true q true r true s =
            inl (refl, (not_row (below p q), (not_row (both ((accessed i (ltb-true i count p)).0 r) ((accessed j (ltb-true j count q)).0 s)), tt)))

-- the walk's answer is no refusal
answered : (a : Related) → answer_refusal (Ok a) ≡ 0
answered Same = refl
answered Before = refl
answered After = refl
answered Parallel = refl

module _ (file : List ℕ) (i j : ℕ) where
  abbrev asked : Table
  asked = asked_table (count_of file) (part_in file) i j

  abbrev mv : ℕ → Move
  mv = moves (event_at (part_in file))

  question_ends : Ends (question_table file i j) (Ok (compare_of mv i j)) refuse (question_of file i j)
  unfolding question_of
  question_ends = by (check_of file) (read_ends file)
    where
      by : (c : Result Job Refusal) → ReadEnds file c → Ends (question_table file i j) (Ok (compare_of mv i j)) refuse (after_check c file i j)
      by c (inl (e, none)) =
          rw e (ends_behind (read_table file) asked (Ok (compare_of mv i j)) refuse (asked_of (event_at (part_in file)) (count_of file) i j) none
          (asked_ends (count_of file) (part_in file) i j (events_read file none)))
      by c (inr (f, m, e, g)) = rw e (inr (f, m, refl, given_front (read_table file) asked (number_of f) m g))

  -- The question is exact, for every byte string and every two numbers.
  pub question_exact : Exact (question_table file i j) (Ok (compare_of mv i j)) (λ f m. Err (refusal_of f m)) (question_of file i j)
  question_exact =
      exact (question_table file i j) (Ok (compare_of mv i j)) refuse (question_of file i j) answer_refusal answer_event (λ n m. (refl, refl))
      (λ f m e. cc) question_ends

  pub question_numbers_lem : ExactNumbers (question_table file i j) (answer_refusal (question_of file i j)) (answer_event (question_of file i j))
  question_numbers_lem =
      exact_numbers (question_table file i j) (Ok (compare_of mv i j)) refuse (question_of file i j) answer_refusal answer_event (λ n m. (refl, refl))
      (answered (compare_of mv i j)) question_ends
