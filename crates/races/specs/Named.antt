-- "Which is named", in 01's words, by the definition of parallel alone: of the whole job, and of each record by itself.
use Rattle.std.specs.Prelude.{◌≡◌, ◌⊎◌, ◌≢◌, ℕ, suc, ◌≤◌, ◌<◌}
use Rattle.jobfile.specs.Events.{access_of}
use Rattle.jobfile.specs.Trace.{moves}
use Rattle.jobfile.specs.declared.event.Event.{Event}
use Rattle.jobfile.specs.declared.event.Kind.TheVariants.{Write, Read}
use Rattle.jobfile.specs.Events.{access_to}
use Rattle.relation.specs.Parallel.{Parallel, Before}
use Rattle.races.specs.Race.{Race}

module _ (ev : ℕ → Event) where
  -- event w is "the last earlier write of the record" r, just before event n
  pub record LastWrite (r n w : ℕ) : Type 0 where
    pub earlier : w < n
    pub write : access_of (ev w) ≡ access_to Write r
    pub last : (m : ℕ) → w < m → m < n → access_of (ev m) ≢ access_to Write r

  -- Standing r n s: event s is "the standing read" of record r, just before event n
  pub data Standing (r : ℕ) : ℕ → ℕ → Type 0 where
    -- "The first read of a record stands;"
    first_read : {n : ℕ} → access_of (ev n) ≡ access_to Read r → ((m : ℕ) → m < n → access_of (ev m) ≢ access_to Read r) → Standing r (suc n) n
    -- "a later read takes its place exactly if the standing one is before it."
    takes_place : {n s : ℕ} → Standing r n s → (access_of (ev n) ≡ access_to Read r) × Before (moves ev) s n → Standing r (suc n) n
    keeps_place : {n s : ℕ} → Standing r n s → ¬ ((access_of (ev n) ≡ access_to Read r) × Before (moves ev) s n) → Standing r (suc n) s

  -- "The first is the last earlier write of the record if that is parallel to the second; otherwise the standing read.": event i is
  -- the first that goes with the second j on record r
  abbrev pub First : ℕ → ℕ → ℕ → Type 0
  First i j r =
      (LastWrite r j i × Parallel (moves ev) i j)
      ⊎ (((w : ℕ) → LastWrite r j w → ¬ Parallel (moves ev) w j) × Standing r j i)

  -- event j is the second and event i the first, on record r, within the first k events
  pub record Named (k i j r : ℕ) : Type 0 where
    pub within : j < k
    pub is_race : Race ev i j
    pub on_its_record : is_race.number ≡ r
    -- "The second is the earliest access that races with any earlier one."
    pub earliest : (m n : ℕ) → n < j → ¬ Race ev m n
    pub first : First i j r

  -- "each raced record with its own pair, named by the same rule taken within that record": event j is the second and event i the first
  -- of record r, within the first k events
  pub record NamedOn (k i j r : ℕ) : Type 0 where
    pub within : j < k
    pub is_race : Race ev i j
    pub on_its_record : is_race.number ≡ r
    -- the earliest access of the record that races with any earlier one
    pub earliest : (m n : ℕ) → n < j → (P : Race ev m n) → P.number ≢ r
    pub first : First i j r

  -- "the smallest second event": no record's own pair has a second ahead of event j
  abbrev pub SmallestSecond : ℕ → ℕ → Type 0
  SmallestSecond k j = (m n q : ℕ) → NamedOn k m n q → j ≤ n
