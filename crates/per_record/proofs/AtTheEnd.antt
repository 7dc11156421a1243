-- Both orders behind all k events, past every race, and the counts that the answer reports, held against the labels that two calls leave.
-- Assumes nothing.
use mathlib.Core.Path.{◌≡◌, refl}
use mathlib.Core.Logic.{inr}
use mathlib.Core.List.{List}
use Prim.Native.Nat.{ℕ, suc, ◌+◌, ◌*◌, ◌/◌, ◌≤◌}
use native.Mathlib.Omega.{arith}
use Rattle.jobfile.specs.Trace.{begun_at}
use Rattle.orders.specs.Lists.{Pairs}
use Rattle.orders.specs.Order.{order_of}
use Rattle.strands.specs.Orders.{up_to, Ahead}
use Rattle.strands.specs.States.{count_at, english_count, hebrew_count}
use Rattle.strands.proofs.Bound.{english_bound, hebrew_bound}
use Rattle.taking.specs.Buffers.{Buffers}
use Rattle.judging.specs.Terms.{events_in, moves_in, OneChain}
use Rattle.judging.proofs.Judged.{few}
use Rattle.judging.proofs.BothOrders.{english_shown, hebrew_shown, english_shown_order, hebrew_shown_order, counts_shown}
use Rattle.per_record.specs.Lists.{Lists}
use Rattle.per_record.specs.Answers.{judged_all, numbers_of}
use Rattle.per_record.specs.Gives.{RecordsGives}
use Rattle.per_record.specs.Terms.{Listable, CountStep}
use Rattle.std.specs.Prelude.{Result}
use Rattle.jobfile.specs.declared.refusal.Refusal.{Refusal}
use Rattle.per_record.specs.declared.Answer.{Answer}
use Rattle.per_record.proofs.EachRecord.{all_rooted, fits_judged, fits_shows}

module _ (file : List ℕ) (k : ℕ) (B₀ : Buffers) (L₀ : Lists) (T : Listable file k B₀ L₀)
    (r : Result Answer Refusal) (B : Buffers) (L : Lists) (F : RecordsGives file k B₀ L₀ r B L) where
  abbrev reported : ℕ
  reported = (numbers_of r).strands

  -- "strands begun", and both counts
  pub strands_begun : reported ≡ begun_at (moves_in file) k
  unfolding judged_all
  strands_begun = rw (fits_judged file k B₀ L₀ T r B L F)

  english_reported : (numbers_of r).english ≡ english_count (moves_in file) k
  unfolding judged_all
  english_reported = rw (fits_judged file k B₀ L₀ T r B L F)

  hebrew_reported : (numbers_of r).hebrew ≡ hebrew_count (moves_in file) k
  unfolding judged_all
  hebrew_reported = rw (fits_judged file k B₀ L₀ T r B L F)

  pub english_chain : OneChain reported B.labels B.links 0 0
  english_chain = rw strands_begun (english_shown (events_in file) k _ B₀ B (all_rooted file k B₀ L₀ T) (fits_shows file k B₀ L₀ T r B L F).0)

  pub english_in_order : order_of B.links 0 reported 0 ≡ up_to reported
  english_in_order = rw strands_begun (english_shown_order (events_in file) k _ B₀ B (all_rooted file k B₀ L₀ T) (fits_shows file k B₀ L₀ T r B L F).0)

  pub hebrew_chain : OneChain reported B.labels B.links 4096 8192
  hebrew_chain = rw strands_begun (hebrew_shown (events_in file) k _ B₀ B (all_rooted file k B₀ L₀ T) (fits_shows file k B₀ L₀ T r B L F).0)

  pub hebrew_in_order : Pairs (Ahead (moves_in file) k) (order_of B.links 8192 reported 0)
  hebrew_in_order = rw strands_begun (hebrew_shown_order (events_in file) k _ B₀ B (all_rooted file k B₀ L₀ T) (fits_shows file k B₀ L₀ T r B L F).0)

  pub english_bounded : (numbers_of r).english ≤ reported + reported * (reported / 48)
  english_bounded =
      rw (english_reported, strands_begun) (english_bound (moves_in file) k (all_rooted file k B₀ L₀ T) (few file k B₀ T.judgeable k (omega arith)))

  pub hebrew_bounded : (numbers_of r).hebrew ≤ reported + reported * (reported / 48)
  hebrew_bounded =
      rw (hebrew_reported, strands_begun) (hebrew_bound (moves_in file) k (all_rooted file k B₀ L₀ T) (few file k B₀ T.judgeable k (omega arith)))

-- "The root's counts before any event, so each count starts at 1."
pub reports_first : (file : List ℕ) (B₀ : Buffers) (L₀ : Lists) → Listable file 0 B₀ L₀ → (r : Result Answer Refusal) (B : Buffers) (L : Lists)
    → RecordsGives file 0 B₀ L₀ r B L → ((numbers_of r).english ≡ 1) × ((numbers_of r).hebrew ≡ 1)
unfolding begun_at count_at
reports_first file B₀ L₀ T r B L F = (english_reported file 0 B₀ L₀ T r B L F, hebrew_reported file 0 B₀ L₀ T r B L F)

-- the counts of a call with k events and of one with one event more, whatever their buffers held before
pub reports_step : (file : List ℕ) (k : ℕ) (B₀ B₁ : Buffers) (L₀ L₁ : Lists) → Listable file k B₀ L₀ → Listable file (suc k) B₁ L₁
    → (r r' : Result Answer Refusal) (B B' : Buffers) (L L' : Lists) → RecordsGives file k B₀ L₀ r B L → RecordsGives file (suc k) B₁ L₁ r' B' L'
    → CountStep r r' B.labels B'.labels
reports_step file k B₀ B₁ L₀ L₁ T T' r r' B B' L L' F F' =
    let s = strands_begun file k B₀ L₀ T r B L F in
    let s' = strands_begun file (suc k) B₁ L₁ T' r' B' L' F' in
    let c =
    counts_shown (events_in file) k (suc k) _ _ B₀ B B₁ B' (all_rooted file k B₀ L₀ T) (all_rooted file (suc k) B₁ L₁ T') (inr refl)
    (fits_shows file k B₀ L₀ T r B L F).0 (fits_shows file (suc k) B₁ L₁ T' r' B' L' F').0 in
    record {
      english = rw (s, s', english_reported file k B₀ L₀ T r B L F, english_reported file (suc k) B₁ L₁ T' r' B' L' F') c.0;
      hebrew = rw (s, s', hebrew_reported file k B₀ L₀ T r B L F, hebrew_reported file (suc k) B₁ L₁ T' r' B' L' F') c.1;
    }
