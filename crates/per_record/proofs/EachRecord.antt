-- What the call lists, record by record: exactly the records on which the first k events hold a race, rising, each with the pair that the
-- rules name within it; what it leaves in the places; and that `judge` gives the pair with the smallest second. Assumes nothing.
use mathlib.Core.Path.{◌≡◌, refl, ◌∙◌, subst}
use mathlib.Core.List.{List}
use mathlib.Core.Bool.{false}
use Prim.Native.Nat.{ℕ, ◌≤◌, ◌<◌}
use native.Mathlib.Omega.{arith}
use native.Mathlib.Decide.{dec_le}
use lib.ListN.{length, get_or}
use borrow.Author.Tests.{le-ltb}
use Rattle.jobfile.specs.File.{check_of, record_count}
use Rattle.jobfile.specs.Accepted.{RecordBelow}
use Rattle.jobfile.specs.Events.{access_to}
use Rattle.jobfile.proofs.Checking.{accepted_part}
use Rattle.relation.specs.Parallel.{Rooted}
use Rattle.races.specs.Race.{Race}
use Rattle.races.specs.Named.{NamedOn}
use Rattle.races.proofs.Named.{Entries, frozen_entries, following_entries, named_smallest}
use Rattle.races.proofs.NamedOn.{RaceFreeOn, pair_named, raced_has_pair}
use Rattle.taking.specs.Buffers.{Buffers}
use Rattle.judging.specs.Leaves.{Shows}
use Rattle.judging.specs.Gives.{JudgeGives}
use Rattle.judging.specs.declared.Answer.{Answer as OneRace}
use Rattle.judging.specs.Terms.{events_in, moves_in, Judgeable, Names, SaysClean}
use Rattle.judging.proofs.Judged.{rooted, no_fault, race_named, named_answered, clean_free, free_clean}
use Rattle.per_record.specs.Lists.{Lists}
use Rattle.per_record.specs.Listed.{Entry, InOrder, pair_in, raced_below, listed}
use Rattle.per_record.specs.Answers.{judged_all, is_short, records_of, numbers_of}
use Rattle.per_record.specs.Leaves.{Leaves}
use Rattle.per_record.specs.Gives.{RecordsGives}
use Rattle.per_record.specs.Terms.{Listable}
use Rattle.std.specs.Prelude.{Result, Ok}
use Rattle.jobfile.specs.declared.refusal.Refusal.{Refusal}
use Rattle.per_record.specs.declared.Answer.{Answer}
use Rattle.per_record.proofs.Listing.{listed_in_order}

module _ (file : List ℕ) (k : ℕ) (B₀ : Buffers) (L₀ : Lists) (T : Listable file k B₀ L₀) where
  abbrev count : ℕ
  count = T.judgeable.job.records

  counted : record_count (check_of file) ≡ count
  counted = rw T.judgeable.accepted

  pub all_rooted : Rooted (moves_in file) k
  all_rooted = rooted file k B₀ T.judgeable k (omega arith)

  lists_long : is_short count (length L₀.records) (length L₀.firsts) (length L₀.seconds) ≡ false
  lists_long =
      rw (
        le-ltb (length L₀.records) count T.lists_fit.records,
        le-ltb (length L₀.firsts) count T.lists_fit.firsts,
        le-ltb (length L₀.seconds) count T.lists_fit.seconds,
      )

  -- the answer is that of the events
  judged : records_of file k B₀ L₀ ≡ Ok (judged_all (events_in file) k count)
  unfolding records_of
  judged = rw (T.judgeable.accepted, no_fault file k B₀ T.judgeable, lists_long)

  -- a race's record is below the count
  number_below : (m n : ℕ) → n < k → (P : Race (events_in file) m n) → P.number < count
  number_below m n l P =
      let b : RecordBelow count (access_to P.second_kind P.number) =
      rw P.second at ((accepted_part file T.judgeable.job T.judgeable.accepted).record_below n (omega (arith, T.judgeable.within))) in b

  module _ (r : Result Answer Refusal) (B : Buffers) (L : Lists) (F : RecordsGives file k B₀ L₀ r B L) where
    abbrev raced : ℕ
    raced = (numbers_of r).raced

    pub fits_judged : r ≡ Ok (judged_all (events_in file) k count)
    fits_judged = F.answer ∙ judged

    pub fits_shows : Shows (events_in file) k count B₀ B × (L ≡ listed (events_in file) k L₀ count)
    fits_shows =
        let left = subst (λ a. Leaves a file k B₀ L₀ B L) fits_judged F.leaves in
        (rw (← counted) left.0, left.1 ∙ rw counted)

    fits_raced : raced ≡ raced_below (events_in file) k count
    unfolding judged_all
    fits_raced = rw fits_judged

    pub in_its_order : InOrder (pair_in (events_in file) k) count L₀ raced L
    in_its_order = rw (fits_raced, fits_shows.1) (listed_in_order (pair_in (events_in file) k) L₀ count T.lists_fit)

    -- what is listed is the pair that the rules name within the record
    pub listed_named : (e : ℕ) → e < raced → NamedOn (events_in file) k (get_or L.firsts e 0) (get_or L.seconds e 0) (get_or L.records e 0)
    listed_named e l =
        let w = in_its_order.each e l in
        rw (w.5.first, w.5.second, w.5.number) ((pair_named (events_in file) k all_rooted w.1 w.2 w.0).0 w.4)

    -- and what the rules name is listed
    pub named_listed : (i j q : ℕ) → NamedOn (events_in file) k i j q → (e : ℕ) × (e < raced) × Entry L e q i j
    named_listed i j q N =
        let below : q < count = rw N.on_its_record at (number_below i j N.within N.is_race) in
        in_its_order.all q i j below ((pair_named (events_in file) k all_rooted i j q).1 N)

    -- every record on which there is a race is listed
    pub raced_listed : (m n : ℕ) → n < k → (P : Race (events_in file) m n) → (e : ℕ) × (e < raced) × (get_or L.records e 0 ≡ P.number)
    raced_listed m n l P =
        let w = raced_has_pair (events_in file) k all_rooted m n P.number l P refl in
        let v = named_listed w.0 w.1 P.number w.2 in
        (v.0, v.1, v.2.number)

    -- "A record's places freeze at its race"
    pub frozen_places : (i j q : ℕ) → NamedOn (events_in file) k i j q → Entries (events_in file) j q B.places
    frozen_places i j q N =
        let below : q < count = rw N.on_its_record at (number_below i j N.within N.is_race) in
        frozen_entries (events_in file) k count B₀.places B.places all_rooted fits_shows.0.places q below i j N

    pub following_places : (q : ℕ) → q < record_count (check_of file) → RaceFreeOn (events_in file) q k → Entries (events_in file) k q B.places
    following_places q l =
        following_entries (events_in file) k count B₀.places B.places all_rooted fits_shows.0.places q (omega (arith, counted))

    -- "The one-race call [..] gives the pair with the smallest second event": what a call of `judge` answers, whatever buffers it was lent
    module _ (B₁ B' : Buffers) (r' : Result OneRace Refusal) (T' : Judgeable file k B₁) (G : JudgeGives file k B₁ r' B') where
      pub judge_smallest : (i j q : ℕ) → Names r' i j q
          → ((e : ℕ) × (e < raced) × Entry L e q i j) × ((d : ℕ) → d < raced → j ≤ get_or L.seconds d 0)
      judge_smallest i j q N =
          let w = (named_smallest (events_in file) k all_rooted i j q).0 (race_named file k B₁ T' r' B' G i j q N) in
          (named_listed i j q w.0, λ d l. w.1 _ _ _ (listed_named d l))

      pub smallest_judged : (e : ℕ) → e < raced → ((d : ℕ) → d < raced → get_or L.seconds e 0 ≤ get_or L.seconds d 0)
          → Names r' (get_or L.firsts e 0) (get_or L.seconds e 0) (get_or L.records e 0)
      smallest_judged e l least =
          named_answered file k B₁ T' r' B' G _ _ _ ((named_smallest (events_in file) k all_rooted _ _ _).1 (
            listed_named e l,
            λ m n q N. let v = named_listed m n q N in omega (arith, least v.0 v.1, v.2.second),
          ))

      pub clean_unlisted : SaysClean r' → raced ≡ 0
      clean_unlisted C = by (dec_le 1 raced)
        where
          by : Dec (1 ≤ raced) → raced ≡ 0
          by (yes l) = let N = listed_named 0 l in absurd (clean_free file k B₁ T' r' B' G C _ _ N.within N.is_race)
          by (no l) = omega arith

      pub unlisted_clean : raced ≡ 0 → SaysClean r'
      unlisted_clean z =
          free_clean file k B₁ T' r' B' G (λ m n l P. let v = raced_listed m n l P in omega (arith, v.1))
