-- `exports::refused` meets its contract: two entries are set in an answer of zeros. Assumes nothing.
use mathlib.Core.Path.{◌≡◌, refl}
use mathlib.Core.List.{◌∷◌}
use Prim.Native.Nat.{ℕ, zero, suc, ◌-◌, ◌≤◌}
use native.Mathlib.Omega.{arith}
use lib.ListN.{set, replicate}
use Rattle.exports.proofs.refused.Goals as goal

two_set : (n a b : ℕ) → 2 ≤ n → set (set (replicate n 0) 0 a) 1 b ≡ a ∷ b ∷ replicate (n - 2) 0
two_set zero a b l = absurd (omega arith)
two_set (suc zero) a b l = absurd (omega arith)
two_set (suc (suc n)) a b l = let e : suc (suc n) - 2 ≡ n = omega arith in rw e refl

pub returns : goal.returns
returns g c =
    rw c.number.ensures (two_set _ _ _ c.requires)
