-- What a mark says of its accesses. The classes are numbered in the order of naming: where several places of a record could be the first
-- of a race, the smallest class is named.
use Rattle.std.specs.Prelude.{◌≡◌, Bool, true, ℕ, ◌<◌}
use Rattle.races.specs.Trace.{Trace, access}

pub record Rules : Type 0 where
  -- how many classes there are: one place of each record for each
  pub classes : ℕ
  -- an access of class a conflicts with a later one of class b
  pub clash : ℕ → ℕ → Bool
  -- the place holds the last access of its class; otherwise the standing one
  pub latest : ℕ → Bool

-- a class whose last access is kept conflicts with itself, and every access has a class
pub record Fit (R : Rules) (T : Trace) : Type 0 where
  pub own : (c : ℕ) → R.latest c ≡ true → R.clash c c ≡ true
  pub classed : (n r c : ℕ) → T.act n ≡ access r c → c < R.classes
