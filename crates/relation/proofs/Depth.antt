-- The number of open tasks, event by event. Assumes nothing.
use mathlib.Core.Path.{◌≡◌, refl}
use mathlib.Core.Bool.{Bool}
use mathlib.Core.List.{List, [], ◌∷◌}
use mathlib.Core.Logic.{◌⊎◌, inl, inr}
use Prim.Native.Nat.{ℕ, suc, ◌-◌, ◌≤◌}
use native.Mathlib.Omega.{arith}
use native.Mathlib.Decide.{dec_le}
use lib.ListN.{length}
use Rattle.jobfile.specs.Trace.{tasks_next, tasks_at, depth_at}
use Rattle.jobfile.specs.declared.event.Move.{Move}
use Rattle.jobfile.specs.declared.event.Move.TheVariants.{Opens, Closes, Joins, Stays}

-- the number after an event
abbrev pub bump : Move → ℕ → ℕ
bump Opens d = suc d
bump Closes d = d - 1
bump Joins d = d
bump Stays d = d

pub depth_next : (x : Move) (tasks : List Bool) → length (tasks_next x tasks) ≡ bump x (length tasks)
depth_next Opens [] = refl
depth_next Opens (w ∷ tasks) = refl
depth_next Closes [] = refl
depth_next Closes (w ∷ tasks) = omega arith
depth_next Joins [] = refl
depth_next Joins (w ∷ tasks) = refl
depth_next Stays tasks = refl

pub depth_at_lem : (mv : ℕ → Move) (n : ℕ) (x : Move) → mv n ≡ x → depth_at mv (suc n) ≡ bump x (depth_at mv n)
unfolding tasks_at
depth_at_lem mv n x e = rw e (depth_next x (tasks_at mv n))

-- the last of a range, or one before it
pub last_or : (m n : ℕ) → m ≤ suc n → (m ≤ n) ⊎ (m ≡ suc n)
last_or m n h = go (dec_le m n)
  where
    go : Dec (m ≤ n) → (m ≤ n) ⊎ (m ≡ suc n)
    go (yes l) = inl l
    go (no l) = inr (omega arith)
