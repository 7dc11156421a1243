-- No second answer and no second contents of the buffers fit the contract of `rz_write`, of `rz_judge` or of `rz_judge_records`: the crates
-- of the calls have the theorems. Assumes nothing.
use mathlib.Core.Path.{◌≡◌, refl, sym, ◌∙◌}
use mathlib.Core.List.{List}
use Prim.Native.Nat.{ℕ}
use Rattle.taking.specs.Buffers.{Buffers}
use Rattle.judging.proofs.Gives.{judge_gives}
use Rattle.judging.proofs.OneAnswer.{judged_once}
use Rattle.per_record.specs.Lists.{Lists}
use Rattle.per_record.proofs.Gives.{records_gives}
use Rattle.per_record.proofs.OneAnswer.{records_once}
use Rattle.exports.specs.Gives.{WriteCallGives, JudgeCallGives, RecordsCallGives}

pub rz_written_once : (name : List ℕ) (records : ℕ) (events out A A' left left' : List ℕ)
    → WriteCallGives name records events out A left → WriteCallGives name records events out A' left' → (A ≡ A') × (left ≡ left')
rz_written_once name records events out A A' left left' a b = (a.numbers ∙ sym b.numbers, a.contents ∙ sym b.contents)

pub rz_judged_once : (file : List ℕ) (k : ℕ) (B₀ : Buffers) (A A' : List ℕ) (B B' : Buffers)
    → JudgeCallGives file k B₀ A B → JudgeCallGives file k B₀ A' B' → (A ≡ A') × (B ≡ B')
rz_judged_once file k B₀ A A' B B' a b =
    let once = judged_once file k B₀ _ _ B B' (judge_gives file k B₀ _ B refl a.leaves) (judge_gives file k B₀ _ B' refl b.leaves) in
    (a.numbers ∙ sym b.numbers, once.1)

pub rz_listed_once : (file : List ℕ) (k : ℕ) (B₀ : Buffers) (L₀ : Lists) (A A' : List ℕ) (B B' : Buffers) (L L' : Lists)
    → RecordsCallGives file k B₀ L₀ A B L → RecordsCallGives file k B₀ L₀ A' B' L' → (A ≡ A') × (B ≡ B') × (L ≡ L')
rz_listed_once file k B₀ L₀ A A' B B' L L' a b =
    let once =
    records_once file k B₀ L₀ _ _ B B' L L' (records_gives file k B₀ L₀ _ B L refl a.leaves) (records_gives file k B₀ L₀ _ B' L' refl b.leaves) in
    (a.numbers ∙ sym b.numbers, once.1, once.2)
