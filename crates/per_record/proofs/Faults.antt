-- The tests of the lists, in their order: what they answer once those ahead have passed. Assumes nothing.
use Prim.Native.Nat.{ℕ, ◌≤◌, ◌<◌}
use mathlib.Core.Path.{◌≡◌, refl}
use mathlib.Core.Bool.{Bool, true, false, ◌||◌, false≢true}
use lib.Dec.{ltb}
use lib.ListN.{length}
use borrow.Author.Tests.{lt-ltb, le-ltb, ltb-false}
use Rattle.per_record.specs.Lists.{Lists, LongEnough}
use Rattle.per_record.specs.Answers.{is_short}

module _ (count records firsts seconds : ℕ) where
  pub short_records : records < count → true ≡ is_short count records firsts seconds
  short_records h = rw (lt-ltb records count h)

  module _ (a : count ≤ records) where
    pub short_firsts : firsts < count → true ≡ is_short count records firsts seconds
    short_firsts h = rw (le-ltb records count a, lt-ltb firsts count h)

    pub short_seconds : count ≤ firsts → ltb seconds count ≡ is_short count records firsts seconds
    short_seconds b = rw (le-ltb records count a, le-ltb firsts count b)

-- where none of them is met every list is long enough
pub long_enough : (count : ℕ) (L : Lists) → false ≡ is_short count (length L.records) (length L.firsts) (length L.seconds) → LongEnough count L
long_enough count L = by (ltb (length L.records) count) refl (ltb (length L.firsts) count) refl (ltb (length L.seconds) count) refl
  where
    by : (a : Bool) → ltb (length L.records) count ≡ a → (b : Bool) → ltb (length L.firsts) count ≡ b
        → (c : Bool) → ltb (length L.seconds) count ≡ c → false ≡ (a || b || c) → LongEnough count L
    by true p b q c r z = absurd (false≢true z)
    by false p true q c r z = absurd (false≢true z)
    by false p false q true r z = absurd (false≢true z)
    by false p false q false r z = record {
      records = ltb-false (length L.records) count p;
      firsts = ltb-false (length L.firsts) count q;
      seconds = ltb-false (length L.seconds) count r;
    }
