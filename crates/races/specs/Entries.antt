-- The places in a lent buffer: the event that a place holds stands at some entry, and its strand a gap further on.
use Rattle.std.specs.Prelude.{◌≡◌, ◌≢◌, List, ℕ, ◌+◌, ◌++◌, ◌<◌, length, get_or, set, take, drop, replicate}
use Rattle.std.proofs.Math.Option.{Option, none, some}

-- the place with an event and its strand put there
unfoldable pub put : List ℕ → ℕ → ℕ → ℕ → ℕ → List ℕ
put P at gap event strand = set (set P at event) (at + gap) strand

-- so many entries from one on set to none
unfoldable pub filled : List ℕ → ℕ → ℕ → List ℕ
filled P from k = take from P ++ (replicate k 4294967295 ++ drop (from + k) P)

-- "4,294,967,295 is none, for an event and its strand alike"
abbrev pub event_or : Option ℕ → ℕ
event_or none = 4294967295
event_or (some m) = m

abbrev pub strand_or : (ℕ → ℕ) → Option ℕ → ℕ
strand_or strand none = 4294967295
strand_or strand (some m) = strand m

-- Where a buffer has the places of so many classes: of record r and class c the event at `spot r c`, the strand `gap` further on.
pub record Layout : Type 0 where
  pub spot : ℕ → ℕ → ℕ
  pub gap : ℕ
  pub classes : ℕ

pub record HasPlace (Y : Layout) (records r c : ℕ) : Type 0 where
  pub on_its_record : r < records
  pub below : c < Y.classes

-- the places of that many records are inside a buffer of that size, and no two share an entry
pub record Laid (Y : Layout) (records size : ℕ) : Type 0 where
  pub room : (r c : ℕ) → HasPlace Y records r c → Y.spot r c + Y.gap < size
  pub apart : (r c q d : ℕ) → HasPlace Y records r c → HasPlace Y records q d → Y.spot r c ≡ Y.spot q d → (r ≡ q) × (c ≡ d)
  pub strands_apart : (r c q d : ℕ) → HasPlace Y records r c → HasPlace Y records q d → Y.spot r c ≢ Y.spot q d + Y.gap

-- A buffer P that was lent as P₀ has what `what` says in the places. "Entries [..] of records at or over the record count, and past the
-- lengths above keep what they had."
pub record Holding (Y : Layout) (strand : ℕ → ℕ) (records : ℕ) (P₀ : List ℕ) (what : ℕ → ℕ → Option ℕ) (P : List ℕ) : Type 0 where
  pub event : (r c : ℕ) → HasPlace Y records r c → get_or P (Y.spot r c) 0 ≡ event_or (what r c)
  pub its_strand : (r c : ℕ) → HasPlace Y records r c → get_or P (Y.spot r c + Y.gap) 0 ≡ strand_or strand (what r c)
  pub others : (i : ℕ) → ((r c : ℕ) → HasPlace Y records r c → (i ≢ Y.spot r c) × (i ≢ Y.spot r c + Y.gap)) → get_or P i 0 ≡ get_or P₀ i 0
  pub size : length P ≡ length P₀

-- no place holds anything, whatever the strands are
abbrev pub Empty : Layout → ℕ → List ℕ → List ℕ → Type 0
Empty Y records P₀ P = (strand : ℕ → ℕ) → Holding Y strand records P₀ (λ r c. none) P
