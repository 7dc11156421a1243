-- The demands on this call: what they say, and that they hold, of whatever the contract allows. How each part is proved stands elsewhere.
-- Assumes nothing.
use mathlib.Core.Path.{◌≡◌}
use mathlib.Core.List.{List}
use Prim.Native.Nat.{ℕ, suc, ◌+◌, ◌*◌, ◌/◌, ◌≤◌, ◌<◌}
use lib.ListN.{get_or}
use Rattle.trailer.specs.Table.{ExactNumbers}
use Rattle.jobfile.specs.Trace.{begun_at}
use Rattle.jobfile.specs.File.{check_of, record_count}
use Rattle.orders.specs.Lists.{Pairs}
use Rattle.orders.specs.Order.{order_of}
use Rattle.strands.specs.Orders.{up_to, Ahead}
use Rattle.races.specs.Race.{Race}
use Rattle.races.specs.Named.{NamedOn}
use Rattle.races.proofs.Named.{Entries}
use Rattle.races.proofs.NamedOn.{RaceFreeOn, named_on_once}
use Rattle.taking.specs.Buffers.{Buffers}
use Rattle.judging.specs.declared.Answer.{Answer as OneRace}
use Rattle.judging.specs.Gives.{JudgeGives}
use Rattle.judging.specs.Terms.{events_in, moves_in, Judgeable, Names, SaysClean, OneChain}
use Rattle.per_record.specs.Lists.{Lists, SameLengths}
use Rattle.per_record.specs.Listed.{Entry, SameEntry}
use Rattle.std.specs.Prelude.{Result}
use Rattle.jobfile.specs.declared.refusal.Refusal.{Refusal}
use Rattle.per_record.specs.declared.Answer.{Answer}
use Rattle.per_record.specs.Answers.{numbers_of}
use Rattle.per_record.specs.Rows.{records_table}
use Rattle.per_record.specs.Gives.{RecordsGives}
use Rattle.per_record.specs.Terms.{Listable, CountStep}
use Rattle.per_record.proofs.Gives.{records_stores}
use Rattle.per_record.proofs.EachRecord.{all_rooted, in_its_order, listed_named, raced_listed, frozen_places, following_places, judge_smallest, smallest_judged, clean_unlisted, unlisted_clean}
use Rattle.per_record.proofs.AtTheEnd.{strands_begun, english_chain, english_in_order, hebrew_chain, hebrew_in_order, english_bounded, hebrew_bounded, reports_first, reports_step}

-- Demand 1: the refusal is exact by the call's table, and stores nothing in any of the six buffers. That the call ends, for all arguments,
-- and asks nothing of a caller is said of its promise as it stands in the source: proofs/Promise.antt.
pub record Demand1 : Type 0 where
  pub refuses : (file : List ℕ) (k : ℕ) (B₀ : Buffers) (L₀ : Lists) (r : Result Answer Refusal) (B : Buffers) (L : Lists) → RecordsGives file k B₀ L₀ r B L
      → ExactNumbers (records_table file k B₀ L₀) (numbers_of r).refusal (numbers_of r).event
  pub stores : (file : List ℕ) (k : ℕ) (B₀ : Buffers) (L₀ : Lists) (r : Result Answer Refusal) (B : Buffers) (L : Lists) → RecordsGives file k B₀ L₀ r B L
      → 0 < (numbers_of r).refusal → (B ≡ B₀) × (L ≡ L₀)

pub demand_1 : Demand1
demand_1 = record {
  refuses = λ file k B₀ L₀ r B L G. G.told;
  stores = λ file k B₀ L₀ r B L G. records_stores file k B₀ L₀ r B L G.leaves;
}

-- Demand 2 "for each record by itself": a record is listed exactly if the first k events hold a race on it, with the pair that the rules
-- name within it.
pub record Demand2 (file : List ℕ) (k : ℕ) (L₀ : Lists) (r : Result Answer Refusal) (B : Buffers) (L : Lists) : Type 0 where
  -- what is listed is what the rules name, and every record with a race is listed
  pub listed_named : (e : ℕ) → e < (numbers_of r).raced
      → NamedOn (events_in file) k (get_or L.firsts e 0) (get_or L.seconds e 0) (get_or L.records e 0)
  pub raced_listed : (m n : ℕ) → n < k → (P : Race (events_in file) m n)
      → (e : ℕ) × (e < (numbers_of r).raced) × (get_or L.records e 0 ≡ P.number)
  -- "in record order [..] from entry 0, the rest stays"
  pub rising : (d e : ℕ) → d < e → e < (numbers_of r).raced → get_or L.records d 0 < get_or L.records e 0
  pub rest : (e : ℕ) → (numbers_of r).raced ≤ e → SameEntry L L₀ e
  pub lengths : SameLengths L L₀
  -- the rules name one pair of a record
  pub one_pair : (i j m n q : ℕ) → NamedOn (events_in file) k i j q → NamedOn (events_in file) k m n q → (i ≡ m) × (j ≡ n)
  -- "A record's places freeze at its race"; those of the others are as all k events left them
  pub frozen : (i j q : ℕ) → NamedOn (events_in file) k i j q → Entries (events_in file) j q B.places
  pub following : (q : ℕ) → q < record_count (check_of file) → RaceFreeOn (events_in file) q k → Entries (events_in file) k q B.places

pub demand_2 : (file : List ℕ) (k : ℕ) (B₀ : Buffers) (L₀ : Lists) → Listable file k B₀ L₀ → (r : Result Answer Refusal) (B : Buffers) (L : Lists)
    → RecordsGives file k B₀ L₀ r B L → Demand2 file k L₀ r B L
demand_2 file k B₀ L₀ T r B L F = record {
  listed_named = listed_named file k B₀ L₀ T r B L F;
  raced_listed = raced_listed file k B₀ L₀ T r B L F;
  rising = (in_its_order file k B₀ L₀ T r B L F).rising;
  rest = (in_its_order file k B₀ L₀ T r B L F).rest;
  lengths = (in_its_order file k B₀ L₀ T r B L F).lengths;
  one_pair = named_on_once (events_in file) k (all_rooted file k B₀ L₀ T);
  frozen = frozen_places file k B₀ L₀ T r B L F;
  following = following_places file k B₀ L₀ T r B L F;
}

-- "The one-race call stays and gives the pair with the smallest second event", or clean if there is none.
pub record SmallestSecond (r' : Result OneRace Refusal) (r : Result Answer Refusal) (L : Lists) : Type 0 where
  pub named_listed : (i j q : ℕ) → Names r' i j q
      → ((e : ℕ) × (e < (numbers_of r).raced) × Entry L e q i j) × ((d : ℕ) → d < (numbers_of r).raced → j ≤ get_or L.seconds d 0)
  pub listed_named : (e : ℕ) → e < (numbers_of r).raced → ((d : ℕ) → d < (numbers_of r).raced → get_or L.seconds e 0 ≤ get_or L.seconds d 0)
      → Names r' (get_or L.firsts e 0) (get_or L.seconds e 0) (get_or L.records e 0)
  pub clean_unlisted : SaysClean r' → (numbers_of r).raced ≡ 0
  pub unlisted_clean : (numbers_of r).raced ≡ 0 → SaysClean r'

pub smallest_second : (file : List ℕ) (k : ℕ) (B₀ B₁ : Buffers) (L₀ : Lists) → Listable file k B₀ L₀ → Judgeable file k B₁
    → (r : Result Answer Refusal) (B : Buffers) (L : Lists) → RecordsGives file k B₀ L₀ r B L
    → (r' : Result OneRace Refusal) (B' : Buffers) → JudgeGives file k B₁ r' B' → SmallestSecond r' r L
smallest_second file k B₀ B₁ L₀ T T' r B L F r' B' G = record {
  named_listed = judge_smallest file k B₀ L₀ T r B L F B₁ B' r' T' G;
  listed_named = smallest_judged file k B₀ L₀ T r B L F B₁ B' r' T' G;
  clean_unlisted = clean_unlisted file k B₀ L₀ T r B L F B₁ B' r' T' G;
  unlisted_clean = unlisted_clean file k B₀ L₀ T r B L F B₁ B' r' T' G;
}

-- Demand 3 "up to the last event": both orders, and the counts, behind all k events.
pub record Demand3 (file : List ℕ) (k : ℕ) (r : Result Answer Refusal) (B : Buffers) : Type 0 where
  pub strands : (numbers_of r).strands ≡ begun_at (moves_in file) k
  pub english : OneChain (numbers_of r).strands B.labels B.links 0 0
  pub english_order : order_of B.links 0 (numbers_of r).strands 0 ≡ up_to (numbers_of r).strands
  pub hebrew : OneChain (numbers_of r).strands B.labels B.links 4096 8192
  pub hebrew_order : Pairs (Ahead (moves_in file) k) (order_of B.links 8192 (numbers_of r).strands 0)
  pub english_bound : (numbers_of r).english ≤ (numbers_of r).strands + (numbers_of r).strands * ((numbers_of r).strands / 48)
  pub hebrew_bound : (numbers_of r).hebrew ≤ (numbers_of r).strands + (numbers_of r).strands * ((numbers_of r).strands / 48)

-- the count is the true one: 1 before any event, and then from one call to one with an event more
pub record TrueCounts : Type 0 where
  pub first : (file : List ℕ) (B₀ : Buffers) (L₀ : Lists) → Listable file 0 B₀ L₀ → (r : Result Answer Refusal) (B : Buffers) (L : Lists)
      → RecordsGives file 0 B₀ L₀ r B L → ((numbers_of r).english ≡ 1) × ((numbers_of r).hebrew ≡ 1)
  pub step : (file : List ℕ) (k : ℕ) (B₀ B₁ : Buffers) (L₀ L₁ : Lists) → Listable file k B₀ L₀ → Listable file (suc k) B₁ L₁
      → (r r' : Result Answer Refusal) (B B' : Buffers) (L L' : Lists) → RecordsGives file k B₀ L₀ r B L → RecordsGives file (suc k) B₁ L₁ r' B' L'
      → CountStep r r' B.labels B'.labels

pub demand_3 : ((file : List ℕ) (k : ℕ) (B₀ : Buffers) (L₀ : Lists) → Listable file k B₀ L₀ → (r : Result Answer Refusal) (B : Buffers) (L : Lists)
    → RecordsGives file k B₀ L₀ r B L → Demand3 file k r B)
    × TrueCounts
demand_3 = (
  λ file k B₀ L₀ T r B L F. record {
    strands = strands_begun file k B₀ L₀ T r B L F;
    english = english_chain file k B₀ L₀ T r B L F;
    english_order = english_in_order file k B₀ L₀ T r B L F;
    hebrew = hebrew_chain file k B₀ L₀ T r B L F;
    hebrew_order = hebrew_in_order file k B₀ L₀ T r B L F;
    english_bound = english_bounded file k B₀ L₀ T r B L F;
    hebrew_bound = hebrew_bounded file k B₀ L₀ T r B L F;
  },
  record { first = reports_first; step = reports_step },
)
