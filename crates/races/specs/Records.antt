-- The race of one record: by the definition, by trying every pair, and which pair is named. The race of the whole trace is the earliest of
-- the records' own.
use Rattle.std.specs.Prelude.{◌≡◌, ◌↔◌, Bool, true, ◌&&◌, ℕ, ◌≤◌, ◌<◌}
use Rattle.std.proofs.Math.Option.{Option, none, some, get_or}
use Rattle.races.specs.Search.{any, least}
use Rattle.races.specs.Trace.{Trace, access, on_record, class_of, record_of}
use Rattle.races.specs.Rules.{Rules}
use Rattle.races.specs.Places.{held, first_of}

-- a record's pair, first and second, if it has one
pub data Pair : Type 0 where
  no_pair : Pair
  pair : (i j : ℕ) → Pair

-- the one race of a trace: first, second, record
pub data Verdict : Type 0 where
  clean : Verdict
  race : (i j r : ℕ) → Verdict

module _ (R : Rules) (T : Trace) where
  -- event j races with the earlier event m on record r, as a test
  unfoldable pub races : ℕ → ℕ → ℕ → Bool
  races r m j =
      on_record r (T.act m) && (on_record r (T.act j) && (R.clash (class_of (T.act m)) (class_of (T.act j)) && T.par m j))

  -- with any earlier one
  unfoldable pub raced : ℕ → ℕ → Bool
  raced r j = any (λ m. races r m j) j

  -- the record's second: the earliest of its accesses that races with any earlier one, among the first k events
  abbrev pub second_of : ℕ → ℕ → Option ℕ
  second_of r k = least (raced r) k

  -- up to which of the first n events a record's places follow: "The racing access itself changes no place", nor does any after it
  unfoldable pub stop_of : ℕ → ℕ → ℕ
  stop_of r n = get_or (second_of r n) n

  -- the pair of record r among the first k events
  abbrev pub pair_at : ℕ → Option ℕ → Pair
  pair_at r none = no_pair
  pair_at r (some j) = pair (get_or (first_of R T r j) 0) j

  unfoldable pub pair_of : ℕ → ℕ → Pair
  pair_of r k = pair_at r (second_of r k)

  -- The one race: the earliest access that races on its own record.
  unfoldable pub raced_any : ℕ → Bool
  raced_any j = raced (record_of (T.act j)) j

  abbrev pub second_in : ℕ → Option ℕ
  second_in k = least raced_any k

  abbrev pub verdict_at : Option ℕ → Verdict
  verdict_at none = clean
  verdict_at (some j) = race (get_or (first_of R T (record_of (T.act j)) j) 0) j (record_of (T.act j))

  unfoldable pub verdict_in : ℕ → Verdict
  verdict_in k = verdict_at (second_in k)

  -- "judges the first k of them, or fewer if a race is met": how many events are taken; the racing one is not
  unfoldable pub stop_in : ℕ → ℕ
  stop_in k = get_or (second_in k) k

  -- By the definition, for whatever parallel is.
  module _ (Par : ℕ → ℕ → Type 0) where
    -- two accesses to record r that conflict, parallel
    pub record RaceOn (r m j : ℕ) : Type 0 where
      pub a : ℕ
      pub b : ℕ
      pub earlier : m < j
      pub first : T.act m ≡ access r a
      pub second : T.act j ≡ access r b
      pub clash : R.clash a b ≡ true
      pub parallel : Par m j

    -- the smallest class that conflicts with event j and whose place holds something parallel to it holds i
    pub record FirstOn (r i j : ℕ) : Type 0 where
      pub class : ℕ
      pub below : class < R.classes
      pub clash : R.clash class (class_of (T.act j)) ≡ true
      pub holds : held R T r class j ≡ some i
      pub smallest : (d w : ℕ) → d < class → R.clash d (class_of (T.act j)) ≡ true → held R T r d j ≡ some w → ¬ Par w j

    -- events i and j are the pair of record r among the first k events
    pub record PairOn (r k i j : ℕ) : Type 0 where
      pub within : j < k
      pub is_race : RaceOn r i j
      pub earliest : (m n : ℕ) → n < j → ¬ RaceOn r m n
      pub first : FirstOn r i j

    -- the one race of the trace is a record's pair, and no record has an earlier second
    pub record OneRace (k i j r : ℕ) : Type 0 where
      pub named : PairOn r k i j
      pub least : (q m n : ℕ) → PairOn q k m n → j ≤ n

-- parallel by the definition is what the test says, among the first k events
abbrev pub Tied : Trace → (ℕ → ℕ → Type 0) → ℕ → Type 0
Tied T Par k = (i j : ℕ) → i < j → j < k → Par i j ↔ (T.par i j ≡ true)
