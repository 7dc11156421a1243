-- Parallel and before, over a trace: the definition that the whole product stands on.
use Rattle.std.specs.Prelude.{◌≡◌, ◌≢◌, ℕ, suc, ◌≤◌, ◌<◌}
use Rattle.jobfile.specs.Trace.{depth_at}
use Rattle.jobfile.specs.declared.event.Move.{Move}
use Rattle.jobfile.specs.declared.event.Move.TheVariants.{Opens, Closes, Joins}

-- A position p is the point just before event p; an access i stands at position i, and a strand at the position where it begins.
-- "Of accesses i < j, i is parallel to j exactly if some spawned task contains i (between its spawn and its end, tasks under it
-- included), has ended before j, and its parent has neither synced nor ended between that end and j. Otherwise i is before j."
module _ (mv : ℕ → Move) where
  -- the task spawned by event s contains p, is closed by event e before q, and its parent has neither synced nor ended since
  pub record By (p q s e : ℕ) : Type 0 where
    -- "contains i (between its spawn and its end"
    pub s<p : s < p
    pub p≤e : p ≤ e
    -- "has ended before j"
    pub e<q : e < q
    -- the task is spawned by event s, and event e is the end that closes it
    pub at_s : mv s ≡ Opens
    pub at_e : mv e ≡ Closes
    pub level : depth_at mv e ≡ suc (depth_at mv s)
    pub inside : (m : ℕ) → s < m → m < e → depth_at mv s < depth_at mv m
    -- "its parent has neither synced nor ended between that end and j"
    pub quiet : (m : ℕ) → e < m → m < q → depth_at mv m ≡ depth_at mv s → (mv m ≢ Joins) × (mv m ≢ Closes)

  abbrev pub Parallel : ℕ → ℕ → Type 0
  Parallel p q = (s : ℕ) × (e : ℕ) × By p q s e

  abbrev pub Before : ℕ → ℕ → Type 0
  Before p q = (p < q) × (¬ Parallel p q)

  -- up to position q the root stays open
  abbrev pub Rooted : ℕ → Type 0
  Rooted q = (m : ℕ) → m ≤ q → 1 ≤ depth_at mv m
