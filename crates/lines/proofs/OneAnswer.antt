-- No second answer and no second contents fit the contract of `lines`, and of the buffers and the lists only the lengths count.
-- Assumes nothing.
use mathlib.Core.Path.{◌≡◌, refl, sym, ◌∙◌}
use mathlib.Core.List.{List}
use Prim.Native.Nat.{ℕ}
use lib.ListN.{length}
use Rattle.jobfile.specs.File.{check_of, event_count}
use Rattle.std.specs.Prelude.{Option, None, Some, Result, Ok, Err}
use Rattle.jobfile.specs.declared.job.Job.{Job}
use Rattle.jobfile.specs.declared.refusal.Refusal.{Refusal}
use Rattle.taking.specs.Buffers.{Buffers}
use Rattle.per_record.specs.Lists.{Lists, SameLengths}
use Rattle.per_record.specs.Answers.{after_check, records_of}
use Rattle.per_record.proofs.Gives.{records_gives}
use Rattle.per_record.proofs.OneAnswer.{records_once}
use Rattle.lines.specs.Lines.{answer_of, lines_of, LeavesFor, LinesGives}

pub lines_once : (input : List ℕ) (B₀ : Buffers) (L₀ : Lists) (out₀ : List ℕ) (r r' : Option ℕ) (B B' : Buffers) (L L' : Lists) (out out' : List ℕ)
    → LinesGives input B₀ L₀ out₀ r B L out → LinesGives input B₀ L₀ out₀ r' B' L' out'
    → (r ≡ r') × (out ≡ out') × (B ≡ B') × (L ≡ L')
lines_once input B₀ L₀ out₀ r r' B B' L L' out out' G G' =
    let same : r ≡ r' = G.answer ∙ sym G'.answer in
    let w = by r G.leaves (rw (← same) at G'.leaves) in
    (same, G.output ∙ sym G'.output, w.0, w.1)
  where
    by : (a : Option ℕ) → LeavesFor a input B₀ L₀ B L → LeavesFor a input B₀ L₀ B' L' → (B ≡ B') × (L ≡ L')
    by (Some n) S S' =
        let a = answer_of input B₀ L₀ in
        let k = event_count (check_of input) in
        let w = records_once input k B₀ L₀ a a B B' L L' (records_gives input k B₀ L₀ a B L refl S) (records_gives input k B₀ L₀ a B' L' refl S') in
        (w.1, w.2)
    by None S S' = (S.0 ∙ sym S'.0, S.1 ∙ sym S'.1)

-- buffers and lists of the same lengths: the same text
pub lengths_count : (input : List ℕ) (B B' : Buffers) (L L' : Lists) → length B.labels ≡ length B'.labels
    → length B.links ≡ length B'.links → length B.places ≡ length B'.places → SameLengths L L' → lines_of input B L ≡ lines_of input B' L'
unfolding lines_of records_of
lengths_count input B B' L L' labels links places S = rw (same (check_of input))
  where
    same : (c : Result Job Refusal) → after_check c input (event_count c) B L ≡ after_check c input (event_count c) B' L'
    same (Ok j) = rw (labels, links, places, S.records, S.firsts, S.seconds)
    same (Err r) = refl
