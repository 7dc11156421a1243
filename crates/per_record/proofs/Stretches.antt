-- How far a stretch goes: to the first access of a frozen record, and no further than its end or k. Assumes nothing.
use Prim.Native.Nat.{ℕ, ◌+◌, ◌-◌, ◌≤◌, ◌<◌}
use mathlib.Core.Path.{◌≡◌, sym, ◌∙◌}
use mathlib.Core.Bool.{Bool, false≢true}
use native.Mathlib.Omega.{arith}
use native.Mathlib.Decide.{dec_le}
use Rattle.per_record.specs.Marks.{stretch_end, FirstFrom}

module _ (from k : ℕ) where
  pub to_the_end : k - from < 64 → k ≡ stretch_end from k
  to_the_end h = omega arith

  pub whole_stretch : 64 ≤ k - from → from + 64 ≡ stretch_end from k
  whole_stretch h = omega arith

  -- from an event within k it goes on, and stays within
  pub stretch_bounds : from < k → (from < stretch_end from k) × (stretch_end from k ≤ k)
  stretch_bounds h = (omega arith, omega arith)

-- there is one first event at most
pub first_once : {test : ℕ → Bool} {from end r s : ℕ} → FirstFrom test from end r → FirstFrom test from end s → r ≡ s
first_once {test = test} {r = r} {s = s} F G = go (dec_le r s) (dec_le s r)
  where
    go : Dec (r ≤ s) → Dec (s ≤ r) → r ≡ s
    go (yes a) (yes b) = omega arith
    go (yes a) (no b) = absurd (false≢true (sym (G.passed r F.onward (omega arith)) ∙ F.stops (omega (arith, G.within))))
    go (no a) b = absurd (false≢true (sym (F.passed s G.onward (omega arith)) ∙ G.stops (omega (arith, F.within))))
