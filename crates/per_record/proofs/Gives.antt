-- An answer of the call, which is the definition's, in the paper's numbers; and what it leaves. Assumes nothing.
use Prim.Native.Nat.{ℕ, ◌<◌}
use mathlib.Core.Path.{◌≡◌}
use mathlib.Core.List.{List}
use native.Mathlib.Omega.{arith}
use Rattle.taking.specs.Buffers.{Buffers}
use Rattle.per_record.specs.Lists.{Lists}
use Rattle.std.specs.Prelude.{Result, Ok, Err}
use Rattle.jobfile.specs.declared.refusal.Refusal.{Refusal}
use Rattle.per_record.specs.declared.Answer.{Answer}
use Rattle.per_record.specs.Answers.{records_of, numbers_of}
use Rattle.per_record.specs.Leaves.{Leaves}
use Rattle.per_record.specs.Gives.{RecordsGives}
use Rattle.per_record.proofs.Rows.{records_numbers_lem}

module _ (file : List ℕ) (k : ℕ) (B₀ : Buffers) (L₀ : Lists) (r : Result Answer Refusal) (B : Buffers) (L : Lists) where
  pub records_gives : r ≡ records_of file k B₀ L₀ → Leaves r file k B₀ L₀ B L → RecordsGives file k B₀ L₀ r B L
  records_gives e l = record { answer = e; leaves = l; told = rw e (records_numbers_lem file k B₀ L₀) }

-- a refusal stores nothing, in none of the six
pub records_stores : (file : List ℕ) (k : ℕ) (B₀ : Buffers) (L₀ : Lists) (r : Result Answer Refusal) (B : Buffers) (L : Lists) → Leaves r file k B₀ L₀ B L
    → 0 < (numbers_of r).refusal → (B ≡ B₀) × (L ≡ L₀)
records_stores file k B₀ L₀ (Ok a) B L l z = absurd (omega (arith, z))
records_stores file k B₀ L₀ (Err r) B L l z = l
