-- `stretch` meets its contract: what `find` answers is the first event on which the test holds, and `most` stands for none. Assumes nothing.
use mathlib.Core.Path.{◌≡◌}
use mathlib.Core.Bool.{Bool, true, false}
use native.Mathlib.Omega.{arith}
use Prim.Native.Nat.{ℕ, ◌≤◌, ◌<◌}
use Rattle.std.specs.Prelude.{Option, None, Some}
use Rattle.std.specs.Option.{MatchOption, unwrap_or}
use Rattle.std.proofs.Common.{rules, tests}
use Rattle.std.proofs.lemmas.Iterator.{first_from_Range}
use Rattle.per_record.specs.Marks.{frozen_at, stretch_end, FirstFrom}
use Rattle.per_record.proofs.Stretches.{stretch_bounds}
use Rattle.per_record.proofs.stretch.Goals as goal

first_or : (test : ℕ → Bool) (from most : ℕ) (r : Option ℕ) → from ≤ most
    → MatchOption r ((k : ℕ) → from ≤ k → k < most → test k ≡ false) (λ i. (from ≤ i) × (i < most) × (test i ≡ true) × ((k : ℕ) → from ≤ k → k < i → test k ≡ false))
    → FirstFrom test from most (unwrap_or r most)
first_or test from most None l none = record { onward = l; within = omega arith; passed = none; stops = λ z. absurd (omega arith) }
first_or test from most (Some i) l it = record { onward = it.0; within = omega (arith, it.1); passed = it.3; stops = λ z. it.2 }

pub returns : goal.returns
returns c =
    let test = frozen_at c.args.part.now c.args.marks.now in
    let it = first_from_Range _ _ _ _ (λ x. test x ≡ true) (λ x. test x ≡ false) c.find.ensures.ran
    (λ x q k. grind (arith, tests)) (λ x q k. (search rules, grind (arith, tests))) in
    let end : c.min-most.result ≡ stretch_end c.args.from c.args.k = c.min-most.ensures in
    let ahead = stretch_bounds c.args.from c.args.k c.requires.from_lt_k.0 in
    rw (c.unwrap_or.ensures, ← end) (first_or test c.args.from c.min-most.result c.find.result (omega (arith, end, ahead.0)) it)
