-- No second answer and no second contents fit the contract of `line`. Assumes nothing.
use mathlib.Core.Path.{◌≡◌, refl, sym, ◌∙◌}
use mathlib.Core.List.{List}
use Prim.Native.Nat.{ℕ}
use Rattle.jobfile.specs.File.{check_of, event_count}
use Rattle.judging.proofs.Gives.{judge_gives}
use Rattle.judging.proofs.OneAnswer.{judged_once}
use Rattle.taking.specs.Buffers.{Buffers}
use Rattle.std.specs.Prelude.{Option}
use Rattle.line.specs.Line.{judge_all_with, LineGives}

pub lined_once : (input : List ℕ) (B₀ : Buffers) (out₀ : List ℕ) (r r' : Option ℕ) (B B' : Buffers) (out out' : List ℕ)
    → LineGives input B₀ out₀ r B out → LineGives input B₀ out₀ r' B' out'
    → (r ≡ r') × (out ≡ out') × (B ≡ B')
lined_once input B₀ out₀ r r' B B' out out' G G' =
    let a = judge_all_with input B₀ in
    let k = event_count (check_of input) in
    let same = judged_once input k B₀ a a B B' (judge_gives input k B₀ a B refl G.buffers) (judge_gives input k B₀ a B' refl G'.buffers) in
    (G.answer ∙ sym G'.answer, G.output ∙ sym G'.output, same.1)
