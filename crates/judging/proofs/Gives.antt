-- An answer of judging, which is the definition's, in the paper's numbers; and what it leaves. Assumes nothing.
use Prim.Native.Nat.{ℕ, ◌<◌}
use mathlib.Core.Path.{◌≡◌}
use mathlib.Core.List.{List}
use native.Mathlib.Omega.{arith}
use lib.ListN.{length}
use Rattle.taking.specs.Buffers.{Buffers}
use Rattle.std.specs.Prelude.{Result, Ok, Err}
use Rattle.jobfile.specs.declared.refusal.Refusal.{Refusal}
use Rattle.judging.specs.declared.Answer.{Answer}
use Rattle.judging.specs.declared.Answer.TheVariants.{Clean, Race}
use Rattle.judging.specs.Answers.{judge_with, numbers_of}
use Rattle.judging.specs.Leaves.{Leaves}
use Rattle.judging.specs.Gives.{JudgeGives}
use Rattle.judging.proofs.Rows.{judging_numbers}

module _ (file : List ℕ) (k : ℕ) (B₀ : Buffers) (r : Result Answer Refusal) (B : Buffers) where
  pub judge_gives : r ≡ judge_with file k B₀ → Leaves r file k B₀ B → JudgeGives file k B₀ r B
  judge_gives e l = record {
    answer = e;
    leaves = l;
    told = rw e (judging_numbers file k (length B₀.labels) (length B₀.links) (length B₀.places));
  }

-- a refusal stores nothing
pub judge_stores : (file : List ℕ) (k : ℕ) (B₀ : Buffers) (r : Result Answer Refusal) (B : Buffers) → Leaves r file k B₀ B → 0 < (numbers_of r).refusal → B ≡ B₀
judge_stores file k B₀ (Ok (Clean c)) B l z = absurd (omega (arith, z))
judge_stores file k B₀ (Ok (Race i j q c)) B l z = absurd (omega (arith, z))
judge_stores file k B₀ (Err r) B l z = l
