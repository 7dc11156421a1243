-- An answer of the question, which is the definition's, in the paper's numbers. Assumes nothing.
use Prim.Native.Nat.{ℕ, ◌≤◌, ◌<◌}
use mathlib.Core.Path.{◌≡◌, refl}
use mathlib.Core.Logic.{inl, inr}
use mathlib.Core.List.{List}
use native.Mathlib.Omega.{arith}
use native.Mathlib.Decide.{dec_le}
use Rattle.trailer.specs.Table.{NoRow}
use Rattle.trailer.specs.Rows.{count_of}
use Rattle.trailer.proofs.Table.{none_ahead, none_behind}
use Rattle.jobfile.specs.Rows.{part_in, job_in, read_table}
use Rattle.jobfile.specs.Trace.{event_at, moves}
use Rattle.jobfile.specs.declared.event.Move.{Move}
use Rattle.jobfile.proofs.Checking.{accepted}
use Rattle.jobfile.proofs.Rows.{reading_exact}
use Rattle.relation.specs.Parallel.{Rooted}
use Rattle.relation.specs.Question.{Says, compare_of, question_of, answer_number}
use Rattle.relation.specs.Rows.{asked_table, question_table}
use Rattle.relation.specs.Gives.{Means, QuestionGives}
use Rattle.std.specs.Prelude.{Result, Ok, Err}
use Rattle.jobfile.specs.declared.refusal.Refusal.{Refusal}
use Rattle.relation.specs.declared.Related.{Related}
use Rattle.relation.specs.declared.Related.TheVariants.{Same, Before, After, Parallel}
use Rattle.relation.proofs.Meaning.{compare_says}
use Rattle.relation.proofs.Rows.{question_exact, question_numbers_lem}

says_means : (mv : ℕ → Move) (i j : ℕ) (a : Result Related Refusal) → Says mv i j a → Means mv i j (answer_number a)
says_means mv i j (Ok Same) p = p
says_means mv i j (Ok Before) p = p
says_means mv i j (Ok After) p = p
says_means mv i j (Ok Parallel) p = p
says_means mv i j (Err r) p = absurd p

less : (m n : ℕ) → ¬ (n ≤ m) → m < n
less m n f = go (dec_le n m)
  where
    go : Dec (n ≤ m) → m < n
    go (yes h) = absurd (f h)
    go (no g) = omega arith

module _ (file : List ℕ) (i j : ℕ) (none : NoRow (question_table file i j)) where
  rooted : (n : ℕ) → n < count_of file → Rooted (moves (event_at (part_in file))) n
  rooted n h m l =
      let taken = (reading_exact file).none.1 (none_ahead (read_table file) (asked_table (count_of file) (part_in file) i j) none) in
      (accepted file (job_in file) taken).rooted m (omega arith)

  below : (i < count_of file) × (j < count_of file)
  below =
      let asked = (none_behind (read_table file) (asked_table (count_of file) (part_in file) i j) none).0 15 0 in
      (less i (count_of file) (λ h. asked (refl, refl, inl h)), less j (count_of file) (λ h. asked (refl, refl, inr h)))

  question_means : Means (moves (event_at (part_in file))) i j (answer_number (question_of file i j))
  question_means =
      rw ((question_exact file i j).none.1 none)
      (let mv = moves (event_at (part_in file)) in
      says_means mv i j (Ok (compare_of mv i j)) (compare_says mv i j (rooted i below.0) (rooted j below.1)))

pub question_gives : (file : List ℕ) (i j : ℕ) (r : Result Related Refusal) → r ≡ question_of file i j → QuestionGives file i j r
question_gives file i j r e = record {
  answer = e;
  told = rw e (question_numbers_lem file i j);
  answered = λ z. rw e (question_means file i j ((question_numbers_lem file i j).none.0 (rw e at z)));
}
