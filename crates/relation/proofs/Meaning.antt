-- What an answer means: for every accepted file and every two of its accesses the number says what the definition of parallel says.
-- Assumes nothing.
use mathlib.Core.Path.{◌≡◌, refl, ap}
use mathlib.Core.Logic.{◌⊎◌, inl, inr, ◌↔◌}
use mathlib.Core.Bool.{true, false}
use mathlib.Core.List.{List}
use Prim.Native.Nat.{ℕ, ◌≤◌, ◌<◌}
use native.Mathlib.Omega.{arith}
use native.Mathlib.Decide.{dec_le}
use Rattle.jobfile.proofs.Checking.{accepted}
use Rattle.jobfile.specs.declared.job.Job.{Job}
use Rattle.jobfile.specs.declared.event.Move.{Move}
use Rattle.jobfile.specs.Trace.{moves}
use Rattle.relation.specs.Parallel.{Parallel as IsParallel, Before as IsBefore, Rooted}
use Rattle.relation.specs.Question.{answer_number, Says, compare_of, events_of, Accesses, question_of}
use Rattle.relation.specs.Walk.{par}
use Rattle.std.specs.Prelude.{Result, Ok, Err}
use Rattle.jobfile.specs.declared.refusal.Refusal.{Refusal}
use Rattle.relation.specs.declared.Related.{Related}
use Rattle.relation.specs.declared.Related.TheVariants.{Same, Before, After, Parallel}
use Rattle.relation.proofs.Agree.{walk_sound}
use Rattle.relation.proofs.Answers.{compare_same, compare_parallel, compare_before, compare_parallel_back, compare_after, two_accesses}
use Rattle.relation.proofs.Files.{question_asked}
use Rattle.relation.proofs.Laws.{bool_cases, parallel_less, before_sound}

module _ (mv : ℕ → Move) (i j : ℕ) where
  -- no second answer fits
  pub one_answer : (a b : Result Related Refusal) → Says mv i j a → Says mv i j b → a ≡ b
  one_answer (Ok Same) (Ok Same) p q = refl
  one_answer (Ok Same) (Ok Before) p q = absurd (omega arith)
  one_answer (Ok Same) (Ok After) p q = absurd (omega arith)
  one_answer (Ok Same) (Ok Parallel) p (inl P) = absurd (omega (arith, parallel_less mv i j P))
  one_answer (Ok Same) (Ok Parallel) p (inr P) = absurd (omega (arith, parallel_less mv j i P))
  one_answer (Ok Same) (Err r) p q = absurd q
  one_answer (Ok Before) (Ok Same) p q = absurd (omega arith)
  one_answer (Ok Before) (Ok Before) p q = refl
  one_answer (Ok Before) (Ok After) p q = absurd (omega arith)
  one_answer (Ok Before) (Ok Parallel) p (inl P) = absurd (p.1 P)
  one_answer (Ok Before) (Ok Parallel) p (inr P) = absurd (omega (arith, parallel_less mv j i P))
  one_answer (Ok Before) (Err r) p q = absurd q
  one_answer (Ok After) (Ok Same) p q = absurd (omega arith)
  one_answer (Ok After) (Ok Before) p q = absurd (omega arith)
  one_answer (Ok After) (Ok After) p q = refl
  one_answer (Ok After) (Ok Parallel) p (inl P) = absurd (omega (arith, parallel_less mv i j P))
  one_answer (Ok After) (Ok Parallel) p (inr P) = absurd (p.1 P)
  one_answer (Ok After) (Err r) p q = absurd q
  one_answer (Ok Parallel) (Ok Same) (inl P) q = absurd (omega (arith, parallel_less mv i j P))
  one_answer (Ok Parallel) (Ok Same) (inr P) q = absurd (omega (arith, parallel_less mv j i P))
  one_answer (Ok Parallel) (Ok Before) (inl P) q = absurd (q.1 P)
  one_answer (Ok Parallel) (Ok Before) (inr P) q = absurd (omega (arith, parallel_less mv j i P))
  one_answer (Ok Parallel) (Ok After) (inl P) q = absurd (omega (arith, parallel_less mv i j P))
  one_answer (Ok Parallel) (Ok After) (inr P) q = absurd (q.1 P)
  one_answer (Ok Parallel) (Ok Parallel) p q = refl
  one_answer (Ok Parallel) (Err r) p q = absurd q
  one_answer (Err r) b p q = absurd p

  -- the numbers tell the answers of two accesses apart
  number_same : (a : Result Related Refusal) → Says mv i j a → answer_number a ≡ 0 → i ≡ j
  number_same (Ok Same) p e = p
  number_same (Ok Before) p e = absurd (omega arith)
  number_same (Ok After) p e = absurd (omega arith)
  number_same (Ok Parallel) p e = absurd (omega arith)
  number_same (Err r) p e = absurd p

  number_before : (a : Result Related Refusal) → Says mv i j a → answer_number a ≡ 1 → IsBefore mv i j
  number_before (Ok Same) p e = absurd (omega arith)
  number_before (Ok Before) p e = p
  number_before (Ok After) p e = absurd (omega arith)
  number_before (Ok Parallel) p e = absurd (omega arith)
  number_before (Err r) p e = absurd p

  number_after : (a : Result Related Refusal) → Says mv i j a → answer_number a ≡ 2 → IsBefore mv j i
  number_after (Ok Same) p e = absurd (omega arith)
  number_after (Ok Before) p e = absurd (omega arith)
  number_after (Ok After) p e = p
  number_after (Ok Parallel) p e = absurd (omega arith)
  number_after (Err r) p e = absurd p

  number_parallel : (a : Result Related Refusal) → Says mv i j a → answer_number a ≡ 3 → IsParallel mv i j ⊎ IsParallel mv j i
  number_parallel (Ok Same) p e = absurd (omega arith)
  number_parallel (Ok Before) p e = absurd (omega arith)
  number_parallel (Ok After) p e = absurd (omega arith)
  number_parallel (Ok Parallel) p e = p
  number_parallel (Err r) p e = absurd p

  module _ (rooted_i : Rooted mv i) (rooted_j : Rooted mv j) where
    -- the walk's answer is the definition's
    pub compare_says : Says mv i j (Ok (compare_of mv i j))
    compare_says = go (dec_le j i) (dec_le i j)
      where
        forth : i < j → (par mv i j ≡ true) ⊎ (par mv i j ≡ false) → Says mv i j (Ok (compare_of mv i j))
        forth l (inl t) = rw (compare_parallel mv i j l t) (inl (walk_sound mv i j (omega arith) rooted_j t))
        forth l (inr f) = rw (compare_before mv i j l f) (before_sound mv i j l rooted_j f)

        back : j < i → (par mv j i ≡ true) ⊎ (par mv j i ≡ false) → Says mv i j (Ok (compare_of mv i j))
        back l (inl t) = rw (compare_parallel_back mv i j l t) (inr (walk_sound mv j i (omega arith) rooted_i t))
        back l (inr f) = rw (compare_after mv i j l f) (before_sound mv j i l rooted_i f)

        go : Dec (j ≤ i) → Dec (i ≤ j) → Says mv i j (Ok (compare_of mv i j))
        go (no l) d = forth (omega arith) (bool_cases (par mv i j))
        go (yes l) (no k) = back (omega arith) (bool_cases (par mv j i))
        go (yes l) (yes k) = let e : i ≡ j = omega arith in rw (compare_same mv i j e) e

-- the question about two accesses of an accepted file
module _ (file : List ℕ) (job : Job) (i j : ℕ) (A : Accesses file job i j) where
  -- the answer says what the definition says
  pub question_says : Says (moves (events_of file job)) i j (question_of file i j)
  question_says =
      rw (
        question_asked file job A.accepted i j,
        two_accesses (events_of file job) job.events i j A.first_below A.second_below A.first_access A.second_access,
      )
      (compare_says (moves (events_of file job)) i j (rooted i A.first_below) (rooted j A.second_below))
    where
      rooted : (n : ℕ) → n < job.events → Rooted (moves (events_of file job)) n
      rooted n l m k = (accepted file job A.accepted).rooted m (omega arith)

  -- 0 same event
  pub question_same : (answer_number (question_of file i j) ≡ 0) ↔ (i ≡ j)
  question_same = (
    number_same (moves (events_of file job)) i j (question_of file i j) question_says,
    λ e. ap answer_number (one_answer (moves (events_of file job)) i j (question_of file i j) (Ok Same) question_says e),
  )

  -- 1 first before second
  pub question_before : (answer_number (question_of file i j) ≡ 1) ↔ IsBefore (moves (events_of file job)) i j
  question_before = (
    number_before (moves (events_of file job)) i j (question_of file i j) question_says,
    λ B. ap answer_number (one_answer (moves (events_of file job)) i j (question_of file i j) (Ok Before) question_says B),
  )

  -- 2 second before first
  pub question_after : (answer_number (question_of file i j) ≡ 2) ↔ IsBefore (moves (events_of file job)) j i
  question_after = (
    number_after (moves (events_of file job)) i j (question_of file i j) question_says,
    λ B. ap answer_number (one_answer (moves (events_of file job)) i j (question_of file i j) (Ok After) question_says B),
  )

  -- 3 parallel
  pub question_parallel : (answer_number (question_of file i j) ≡ 3) ↔ (IsParallel (moves (events_of file job)) i j ⊎ IsParallel (moves (events_of file job)) j i)
  question_parallel = (
    number_parallel (moves (events_of file job)) i j (question_of file i j) question_says,
    λ P. ap answer_number (one_answer (moves (events_of file job)) i j (question_of file i j) (Ok Parallel) question_says P),
  )
