-- The three lists of a call: record, first and second of each raced record.
use Rattle.std.specs.Prelude.{◌≡◌, List, ℕ, ◌≤◌, length}

pub record Lists : Type 0 where
  pub records : List ℕ
  pub firsts : List ℕ
  pub seconds : List ℕ

-- none of them is shorter than so many entries
pub record LongEnough (count : ℕ) (L : Lists) : Type 0 where
  pub records : count ≤ length L.records
  pub firsts : count ≤ length L.firsts
  pub seconds : count ≤ length L.seconds

-- each is as long as the other's
pub record SameLengths (L L' : Lists) : Type 0 where
  pub records : length L.records ≡ length L'.records
  pub firsts : length L.firsts ≡ length L'.firsts
  pub seconds : length L.seconds ≡ length L'.seconds
