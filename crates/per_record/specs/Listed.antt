-- The lists once the raced records are entered, in record order from entry 0; every further entry stays.
use Rattle.std.specs.Prelude.{ℕ, zero, suc, ◌+◌, ◌≤◌, ◌<◌, ◌≡◌, get_or, set}
use Rattle.jobfile.specs.declared.event.Event.{Event}
use Rattle.races.specs.Records.{Pair, no_pair, pair, pair_of}
use Rattle.races.specs.Mark.{rules, event_trace}
use Rattle.per_record.specs.Lists.{Lists, SameLengths}

-- one for a record that has a pair
abbrev pub has_pair : Pair → ℕ
has_pair no_pair = 0
has_pair (pair i j) = 1

-- record r entered at entry n, if it has a pair
abbrev pub entered : Pair → ℕ → ℕ → Lists → Lists
entered no_pair r n L = L
entered (pair i j) r n L = record { records = set L.records n r; firsts = set L.firsts n i; seconds = set L.seconds n j }

-- entry n has record r, with its first i and its second j
pub record Entry (L : Lists) (n r i j : ℕ) : Type 0 where
  pub number : get_or L.records n 0 ≡ r
  pub first : get_or L.firsts n 0 ≡ i
  pub second : get_or L.seconds n 0 ≡ j

-- the same in both lists
abbrev pub SameEntry : Lists → Lists → ℕ → Type 0
SameEntry L L' n = Entry L n (get_or L'.records n 0) (get_or L'.firsts n 0) (get_or L'.seconds n 0)

-- for what pairs the records have
module _ (pairs : ℕ → Pair) where
  -- how many of the records below r have one
  unfoldable pub pairs_below : ℕ → ℕ
  pairs_below zero = 0
  pairs_below (suc r) = pairs_below r + has_pair (pairs r)

  -- the lists with those of the records below r
  unfoldable pub entered_below : Lists → ℕ → Lists
  entered_below L zero = L
  entered_below L (suc r) = entered (pairs r) r (pairs_below r) (entered_below L r)

-- "in record order, each raced record with its own pair": L, which was lent as L₀, has from entry 0 the n of the records below `count` that have
-- a pair, "the rest stays"
pub record InOrder (pairs : ℕ → Pair) (count : ℕ) (L₀ : Lists) (n : ℕ) (L : Lists) : Type 0 where
  pub each : (e : ℕ) → e < n → (r i j : ℕ) × (r < count) × (pairs r ≡ pair i j) × Entry L e r i j
  pub all : (r i j : ℕ) → r < count → pairs r ≡ pair i j → (e : ℕ) × (e < n) × Entry L e r i j
  pub rising : (d e : ℕ) → d < e → e < n → get_or L.records d 0 < get_or L.records e 0
  pub rest : (e : ℕ) → n ≤ e → SameEntry L L₀ e
  pub lengths : SameLengths L L₀

module _ (ev : ℕ → Event) (k : ℕ) where
  -- the pair of record r among the first k events
  abbrev pub pair_in : ℕ → Pair
  pair_in r = pair_of rules (event_trace ev) r k

  -- how many of the records below r have raced
  abbrev pub raced_below : ℕ → ℕ
  raced_below r = pairs_below pair_in r

  -- the lists with the raced ones of the records below r
  abbrev pub listed : Lists → ℕ → Lists
  listed L r = entered_below pair_in L r
