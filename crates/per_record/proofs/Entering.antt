-- The records entered one after the other: how many they are, and that there is room for one more. Assumes nothing.
use mathlib.Core.Path.{◌≡◌, refl}
use Prim.Native.Nat.{ℕ, zero, suc, ◌+◌, ◌≤◌, ◌<◌}
use native.Mathlib.Omega.{arith}
use native.Mathlib.Numerals.{add-one}
use Rattle.races.specs.Records.{Pair}
use Rattle.per_record.specs.Lists.{Lists, LongEnough, SameLengths}
use Rattle.per_record.specs.Listed.{has_pair, entered, pairs_below, entered_below}
use Rattle.per_record.proofs.Listing.{below_at_most, listed_lengths}

-- one record more
module _ (pairs : ℕ → Pair) (r : ℕ) where
  pub counted : (n m : ℕ) → n ≡ pairs_below pairs r → m ≡ n + has_pair (pairs r) → m ≡ pairs_below pairs (r + 1)
  unfolding pairs_below
  counted n m e f = rw (add-one r) (omega arith)

  pub listed_more : (L L' L'' : Lists) (n : ℕ) → n ≡ pairs_below pairs r → L' ≡ entered_below pairs L r → L'' ≡ entered (pairs r) r n L'
      → L'' ≡ entered_below pairs L (r + 1)
  unfolding entered_below
  listed_more L L' L'' n c e f = rw (add-one r, f, e, c)

-- before any
pub none_counted : (pairs : ℕ → Pair) → 0 ≡ pairs_below pairs 0
unfolding pairs_below
none_counted pairs = refl

pub none_listed : (pairs : ℕ → Pair) (L : Lists) → L ≡ entered_below pairs L 0
unfolding entered_below
none_listed pairs L = refl

-- while records are left there is room for one more, and the lengths are those at the start
module _ (pairs : ℕ → Pair) (L L' : Lists) (r : ℕ) (e : L' ≡ entered_below pairs L r) where
  pub lengths_left : SameLengths L' L
  lengths_left = rw e (listed_lengths pairs L r)

  pub room_left : (count n : ℕ) → r < count → n ≡ pairs_below pairs r → LongEnough count L → LongEnough (n + 1) L'
  room_left count n l c room =
      let at_most = below_at_most pairs r in
      record {
        records = omega (arith, lengths_left.records, room.records);
        firsts = omega (arith, lengths_left.firsts, room.firsts);
        seconds = omega (arith, lengths_left.seconds, room.seconds);
      }

-- behind the last record
pub all_entered : (pairs : ℕ → Pair) (L L' : Lists) (r count n : ℕ) → r ≤ count → count ≤ r → n ≡ pairs_below pairs r → L' ≡ entered_below pairs L r
    → (n ≡ pairs_below pairs count) × (L' ≡ entered_below pairs L count)
all_entered pairs L L' r count n h g c e = let z : r ≡ count = omega arith in (rw z at c, rw z at e)

-- the same pairs, the same lists
module _ (p q : ℕ → Pair) where
  pub same_counted : (r : ℕ) → ((n : ℕ) → n < r → p n ≡ q n) → pairs_below p r ≡ pairs_below q r
  unfolding pairs_below
  same_counted zero f = refl
  same_counted (suc r) f = rw (same_counted r (λ n l. f n (omega arith)), f r (omega arith))

  pub same_listed : (L : Lists) (r : ℕ) → ((n : ℕ) → n < r → p n ≡ q n) → entered_below p L r ≡ entered_below q L r
  unfolding entered_below
  same_listed L zero f = refl
  same_listed L (suc r) f =
      let before : (n : ℕ) → n < r → p n ≡ q n = λ n l. f n (omega arith) in
      rw (same_counted r before, same_listed L r before, f r (omega arith))
