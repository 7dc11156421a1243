-- What the lists hold once the records that have pairs are entered: these records, rising, each with its pair, and none besides; every entry
-- behind them is as it was. Assumes nothing.
use mathlib.Core.Path.{◌≡◌, refl, ◌∙◌}
use mathlib.Core.Logic.{◌≢◌}
use Prim.Native.Nat.{ℕ, zero, suc, ◌≤◌, ◌<◌}
use native.Mathlib.Omega.{arith}
use native.Mathlib.Decide.{dec_le}
use lib.ListN.{length-set}
use lib.Seq.{get_or-set_same, get_or-set_other}
use Rattle.races.specs.Records.{Pair, no_pair, pair}
use Rattle.per_record.specs.Lists.{Lists, LongEnough, SameLengths}
use Rattle.per_record.specs.Listed.{has_pair, entered, Entry, SameEntry, pairs_below, entered_below, InOrder}

-- entering a record keeps the lengths, and every entry but one
pub entered_lengths : (p : Pair) (r n : ℕ) (L : Lists) → SameLengths (entered p r n L) L
entered_lengths no_pair r n L = record { records = refl; firsts = refl; seconds = refl }
entered_lengths (pair i j) r n L =
    record { records = length-set L.records n r; firsts = length-set L.firsts n i; seconds = length-set L.seconds n j }

entered_others : (p : Pair) (r n : ℕ) (L : Lists) (m : ℕ) → m ≢ n → SameEntry (entered p r n L) L m
entered_others no_pair r n L m d = record { number = refl; first = refl; second = refl }
entered_others (pair i j) r n L m d = record {
  number = get_or-set_other L.records n m r 0 d;
  first = get_or-set_other L.firsts n m i 0 d;
  second = get_or-set_other L.seconds n m j 0 d;
}

entered_here : (r n i j : ℕ) (L : Lists) → LongEnough (suc n) L → Entry (entered (pair i j) r n L) n r i j
entered_here r n i j L room = record {
  number = get_or-set_same L.records n r 0 room.records;
  first = get_or-set_same L.firsts n i 0 room.firsts;
  second = get_or-set_same L.seconds n j 0 room.seconds;
}

same_long : (n : ℕ) (L L' : Lists) → SameLengths L L' → LongEnough n L' → LongEnough n L
same_long n L L' S room = record {
  records = omega (arith, S.records, room.records);
  firsts = omega (arith, S.firsts, room.firsts);
  seconds = omega (arith, S.seconds, room.seconds);
}

lengths_on : {L L' L'' : Lists} → SameLengths L L' → SameLengths L' L'' → SameLengths L L''
lengths_on S T = record { records = S.records ∙ T.records; firsts = S.firsts ∙ T.firsts; seconds = S.seconds ∙ T.seconds }

entry_on : {L L' : Lists} {n r i j : ℕ} → SameEntry L L' n → Entry L' n r i j → Entry L n r i j
entry_on S E = record { number = S.number ∙ E.number; first = S.first ∙ E.first; second = S.second ∙ E.second }

has_at_most : (p : Pair) → has_pair p ≤ 1
has_at_most no_pair = omega arith
has_at_most (pair i j) = omega arith

module _ (pairs : ℕ → Pair) where
  -- no more than there are records, and no fewer the more there are
  pub below_at_most : (r : ℕ) → pairs_below pairs r ≤ r
  unfolding pairs_below
  below_at_most zero = omega arith
  below_at_most (suc r) = omega (arith, below_at_most r, has_at_most (pairs r))

  below_step : (r : ℕ) → pairs_below pairs r ≤ pairs_below pairs (suc r)
  unfolding pairs_below
  below_step r = omega arith

  below_rises : (q r : ℕ) → q ≤ r → pairs_below pairs q ≤ pairs_below pairs r
  below_rises q zero h = let e : q ≡ 0 = omega arith in rw e (omega arith)
  below_rises q (suc r) h = go (dec_le q r) (λ g. below_rises q r g)
    where
      go : Dec (q ≤ r) → (q ≤ r → pairs_below pairs q ≤ pairs_below pairs r) → pairs_below pairs q ≤ pairs_below pairs (suc r)
      go (yes g) ih = omega (arith, ih g, below_step r)
      go (no g) ih = let e : q ≡ suc r = omega arith in rw e (omega arith)

  pub below_pair : (r i j : ℕ) → pairs r ≡ pair i j → pairs_below pairs (suc r) ≡ suc (pairs_below pairs r)
  unfolding pairs_below
  below_pair r i j e = rw e (omega arith)

  pub below_none : (r : ℕ) → pairs r ≡ no_pair → pairs_below pairs (suc r) ≡ pairs_below pairs r
  unfolding pairs_below
  below_none r e = rw e (omega arith)

  -- a record that has a pair goes behind those before it
  pub before_pair : (q r i j : ℕ) → q < r → pairs q ≡ pair i j → pairs_below pairs q < pairs_below pairs r
  before_pair q r i j l e = omega (arith, below_pair q i j e, below_rises (suc q) r l)

  module _ (L : Lists) where
    -- "the rest stays"
    pub listed_lengths : (r : ℕ) → SameLengths (entered_below pairs L r) L
    unfolding entered_below
    listed_lengths zero = record { records = refl; firsts = refl; seconds = refl }
    listed_lengths (suc r) = lengths_on (entered_lengths (pairs r) r (pairs_below pairs r) (entered_below pairs L r)) (listed_lengths r)

    pub listed_rest : (r m : ℕ) → pairs_below pairs r ≤ m → SameEntry (entered_below pairs L r) L m
    unfolding entered_below
    listed_rest zero m h = record { number = refl; first = refl; second = refl }
    listed_rest (suc r) m h = go (pairs r) refl (listed_rest r m (omega (arith, below_step r)))
      where
        go : (p : Pair) → pairs r ≡ p → SameEntry (entered_below pairs L r) L m
            → SameEntry (entered p r (pairs_below pairs r) (entered_below pairs L r)) L m
        go no_pair e S = S
        go (pair i j) e S =
            entry_on (entered_others (pair i j) r (pairs_below pairs r) (entered_below pairs L r) m (λ z. omega (arith, below_pair r i j e))) S

    -- a record that has a pair stands, with it, behind as many as the records below it have
    pub listed_pair : (r : ℕ) → LongEnough r L → (q i j : ℕ) → q < r → pairs q ≡ pair i j → Entry (entered_below pairs L r) (pairs_below pairs q) q i j
    unfolding entered_below
    listed_pair zero room q i j l e = absurd (omega arith)
    listed_pair (suc r) room q i j l e = go (dec_le (suc q) r) (λ g. listed_pair r less q i j g e)
      where
        less : LongEnough r L
        less = record { records = omega (arith, room.records); firsts = omega (arith, room.firsts); seconds = omega (arith, room.seconds) }

        here : LongEnough (suc (pairs_below pairs r)) (entered_below pairs L r)
        here = same_long (suc (pairs_below pairs r)) (entered_below pairs L r) L (listed_lengths r) (record {
          records = omega (arith, room.records, below_at_most r);
          firsts = omega (arith, room.firsts, below_at_most r);
          seconds = omega (arith, room.seconds, below_at_most r);
        })

        go : Dec (q < r) → (q < r → Entry (entered_below pairs L r) (pairs_below pairs q) q i j)
            → Entry (entered (pairs r) r (pairs_below pairs r) (entered_below pairs L r)) (pairs_below pairs q) q i j
        go (yes g) ih =
            entry_on (entered_others (pairs r) r (pairs_below pairs r) (entered_below pairs L r) (pairs_below pairs q) (λ z. omega (arith, before_pair q r i j g e)))
            (ih g)
        go (no g) ih =
            let z : q ≡ r = omega arith in
            let f : pairs r ≡ pair i j = rw (← z) e in
            rw (z, f) (entered_here r (pairs_below pairs r) i j (entered_below pairs L r) here)

  -- each of the entries is that of a record which has a pair
  abbrev FromPair : ℕ → ℕ → Type 0
  FromPair r n = (q i j : ℕ) × (q < r) × (pairs q ≡ pair i j) × (pairs_below pairs q ≡ n)

  from_pair : (r n : ℕ) → n < pairs_below pairs r → FromPair r n
  unfolding pairs_below
  from_pair zero n h = absurd (omega arith)
  from_pair (suc r) n h = go (dec_le (suc n) (pairs_below pairs r)) (λ g. from_pair r n g) (pairs r) refl
    where
      go : Dec (n < pairs_below pairs r) → (n < pairs_below pairs r → FromPair r n) → (p : Pair) → pairs r ≡ p → FromPair (suc r) n
      go (yes g) ih p e = let w = ih g in (w.0, w.1, w.2, omega (arith, w.3), w.4, w.5)
      go (no g) ih no_pair e = absurd (omega (arith, below_none r e))
      go (no g) ih (pair i j) e = (r, i, j, omega arith, e, omega (arith, below_pair r i j e))

  rising_pairs : (r d e : ℕ) (x : FromPair r d) (y : FromPair r e) → d < e → x.0 < y.0
  rising_pairs r d e x y l = go (dec_le (suc x.0) y.0)
    where
      go : Dec (x.0 < y.0) → x.0 < y.0
      go (yes g) = g
      go (no g) = absurd (omega (arith, below_rises y.0 x.0 (omega arith), x.5, y.5))

  -- the lists have the pairs in order
  module _ (L : Lists) (count : ℕ) (room : LongEnough count L) where
    each_listed : (e : ℕ) (x : FromPair count e) → Entry (entered_below pairs L count) e x.0 x.1 x.2
    each_listed e x = rw x.5 at (listed_pair L count room x.0 x.1 x.2 x.3 x.4)

    pub listed_in_order : InOrder pairs count L (pairs_below pairs count) (entered_below pairs L count)
    listed_in_order = record {
      each = λ e l. let x = from_pair count e l in (x.0, x.1, x.2, x.3, x.4, each_listed e x);
      all = λ r i j l p. (pairs_below pairs r, before_pair r count i j l p, listed_pair L count room r i j l p);
      rising = λ d e l m.
          let x = from_pair count d (omega arith) in
          let y = from_pair count e m in
          omega (arith, (each_listed d x).number, (each_listed e y).number, rising_pairs count d e x y l);
      rest = listed_rest L count;
      lengths = listed_lengths L count;
    }
