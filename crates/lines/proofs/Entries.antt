-- The lines of the lists' entries: one more at a time as they are put, and with the raced records entered they are those of the records.
-- Assumes nothing.
use Prim.Native.Nat.{ℕ, zero, suc, ◌+◌, ◌*◌, ◌≤◌}
use native.Mathlib.Omega.{arith}
use native.Mathlib.Nat.{add-zero}
use native.Mathlib.Numerals.{add-one}
use mathlib.Core.Path.{◌≡◌, refl, sym}
use mathlib.Core.List.{List, ◌++◌, append-nil}
use lib.ListN.{get_or}
use Rattle.races.specs.Records.{Pair, no_pair, pair}
use Rattle.per_record.specs.Lists.{Lists, LongEnough}
use Rattle.per_record.specs.Listed.{has_pair, pairs_below, entered_below}
use Rattle.per_record.proofs.Listing.{below_at_most, listed_pair, listed_in_order}
use Rattle.bytes_at.specs.Put.{Put}
use Rattle.bytes_at.proofs.Puts.{put_put, put_none}
use Rattle.lines.specs.Text.{entry_text, pair_line, pair_lines, entries_text, EntriesWithin}

module _ (events : List ℕ) (L : Lists) where
  -- no entry, nothing put
  pub entries_none : (out : List ℕ) → Put out 0 (entries_text events L 0) 0 out
  unfolding entries_text
  entries_none out = put_none out 0

  -- the line of entry n behind those of the entries below it
  pub entries_more : (n : ℕ) {m e : ℕ} {a b c : List ℕ} → Put a 0 (entries_text events L n) m b
      → Put b m (entry_text events (get_or L.records n 0) (get_or L.firsts n 0) (get_or L.seconds n 0)) e c
      → Put a 0 (entries_text events L (n + 1)) e c
  unfolding entries_text
  entries_more n p q = rw (add-one n) (put_put p q)

module _ (pairs : ℕ → Pair) (L : Lists) (count : ℕ) (room : LongEnough count L) where
  -- the lines of the entries of the records below r are those of these records
  pub entries_are_pairs : (events : List ℕ) (r : ℕ) → r ≤ count
      → entries_text events (entered_below pairs L count) (pairs_below pairs r) ≡ pair_lines events pairs r
  unfolding pairs_below pair_lines entries_text
  entries_are_pairs events zero l = refl
  entries_are_pairs events (suc r) l = rw (← entries_are_pairs events r (omega arith)) (go (pairs r) refl)
    where
      go : (p : Pair) → pairs r ≡ p
          → entries_text events (entered_below pairs L count) (pairs_below pairs r + has_pair p)
          ≡ entries_text events (entered_below pairs L count) (pairs_below pairs r) ++ pair_line events r p
      go no_pair e = rw add-zero (sym (append-nil (entries_text events (entered_below pairs L count) (pairs_below pairs r))))
      go (pair i j) e =
          let E = listed_pair pairs L count room r i j l e in
          rw (add-one (pairs_below pairs r), E.number, E.first, E.second)

  -- the entries are there, and the events of each are within so many bytes if those of every pair are
  pub entries_within : (bytes : ℕ) → ((r i j : ℕ) → pairs r ≡ pair i j → (4 * i + 4 ≤ bytes) × (4 * j + 4 ≤ bytes))
      → EntriesWithin bytes (entered_below pairs L count) (pairs_below pairs count)
  entries_within bytes within =
      let O = listed_in_order pairs L count room in
      let few = below_at_most pairs count in
      record {
        there = record {
          records = omega (arith, O.lengths.records, room.records);
          firsts = omega (arith, O.lengths.firsts, room.firsts);
          seconds = omega (arith, O.lengths.seconds, room.seconds);
        };
        first_within = λ m h. let x = O.each m h in rw x.5.first (within x.0 x.1 x.2 x.4).0;
        second_within = λ m h. let x = O.each m h in rw x.5.second (within x.0 x.1 x.2 x.4).1;
      }
