-- Small jobs by computation: ones that a slip in a rule would answer otherwise, and each record's own pair, of the starred ones too. What the
-- whole job gives in the starred ones stands in judging. Assumes nothing.
use mathlib.Core.Path.{◌≡◌, refl}
use mathlib.Core.List.{List, [], ◌∷◌, map}
use Prim.Native.Nat.{ℕ}
use lib.ListN.{length}
use Rattle.jobfile.specs.Trace.{tasks_at}
use Rattle.jobfile.specs.Events.{access_of}
use Rattle.jobfile.specs.Samples.{listed, starred, l4_events}
use Rattle.jobfile.specs.declared.event.Event.{Event}
use Rattle.jobfile.specs.declared.event.Event.TheVariants.{Spawn as S, End as E, Sync as J, Read as R, Write as W}
use Rattle.relation.specs.Walk.{opened, move_at, walk_for, walk}
use Rattle.races.specs.Search.{any, least}
use Rattle.races.specs.Trace.{record_of}
use Rattle.races.specs.Places.{held_of, first_of, found}
use Rattle.races.specs.Records.{Pair, no_pair, pair, Verdict, clean, race, races, raced, pair_of, raced_any, verdict_at, verdict_in}
use Rattle.races.specs.Mark.{act_of, rules, event_trace}
use Rattle.races.specs.Verdict.{verdict}

-- Small jobs that a slip in a rule would answer otherwise, judged by trying every pair and by asking the two places.
abbrev by_pairs : List Event → Verdict
by_pairs events = verdict (listed events) (length events)

abbrev by_places : List Event → Verdict
by_places events =
    verdict_at rules (event_trace (listed events))
    (least (λ j. found rules (event_trace (listed events)) (record_of (act_of (access_of (listed events j)))) j) (length events))

abbrev near : List (List Event)
near =
    (S ∷ W 0 ∷ W 0 ∷ E ∷ W 0 ∷ [])
    ∷ (S ∷ W 0 ∷ E ∷ W 0 ∷ W 0 ∷ [])
    ∷ (S ∷ W 0 ∷ E ∷ W 1 ∷ [])
    ∷ (S ∷ R 0 ∷ E ∷ R 0 ∷ [])
    ∷ (S ∷ R 0 ∷ E ∷ R 0 ∷ W 0 ∷ [])
    ∷ (S ∷ W 0 ∷ E ∷ R 0 ∷ [])
    ∷ (R 0 ∷ S ∷ R 0 ∷ E ∷ W 0 ∷ [])
    ∷ (S ∷ R 0 ∷ W 0 ∷ E ∷ W 0 ∷ [])
    ∷ []

-- the last write; the earliest second; two records; two reads; the newest read; a read as the second; a read that takes the place; a write
-- behind the standing read
abbrev near_verdicts : List Verdict
near_verdicts = race 2 4 0 ∷ race 1 3 0 ∷ clean ∷ clean ∷ race 1 4 0 ∷ race 1 3 0 ∷ race 2 4 0 ∷ race 2 4 0 ∷ []

pub near_pairs : map by_pairs near ≡ near_verdicts
unfolding tasks_at opened move_at walk_for walk any least races raced held_of first_of raced_any verdict_in
near_pairs = refl

pub near_places : map by_places near ≡ near_verdicts
unfolding tasks_at opened move_at walk_for walk any least held_of first_of found
near_places = refl

-- Each record's own pair, for the records in order.
abbrev own_at : ℕ → List ℕ → List Event → List Pair
own_at k records events = map (λ r. pair_of rules (event_trace (listed events)) r k) records

abbrev own : List ℕ → List Event → List Pair
own records events = own_at (length events) records events

-- S W1 W0 E W1 W0: each of two records has its own pair, a third has none, and the earlier second is the one of the trace
abbrev two_records : List Event
two_records = S ∷ W 1 ∷ W 0 ∷ E ∷ W 1 ∷ W 0 ∷ []

pub own_pairs : (own (0 ∷ 1 ∷ 2 ∷ []) two_records ≡ pair 2 5 ∷ pair 1 4 ∷ no_pair ∷ []) × (by_pairs two_records ≡ race 1 4 1)
unfolding tasks_at opened move_at walk_for walk any least races raced held_of first_of pair_of raced_any verdict_in
own_pairs = (refl, refl)

-- and of its first 4 and 5 events
pub own_pairs_within : (own_at 4 (0 ∷ 1 ∷ []) two_records ≡ no_pair ∷ no_pair ∷ []) × (own_at 5 (0 ∷ 1 ∷ []) two_records ≡ no_pair ∷ pair 1 4 ∷ [])
unfolding tasks_at opened move_at walk_for walk any least races raced held_of first_of pair_of
own_pairs_within = (refl, refl)

-- the starred ones speak of record 0 alone
pub starred_pairs : map (own (0 ∷ [])) starred
    ≡ (no_pair ∷ [])
    ∷ (no_pair ∷ [])
    ∷ (pair 1 3 ∷ [])
    ∷ (no_pair ∷ [])
    ∷ (pair 1 4 ∷ [])
    ∷ (pair 2 4 ∷ [])
    ∷ (pair 1 4 ∷ [])
    ∷ (no_pair ∷ [])
    ∷ (pair 2 6 ∷ [])
    ∷ (pair 1 5 ∷ [])
    ∷ []
unfolding tasks_at opened move_at walk_for walk any least races raced held_of first_of pair_of
starred_pairs = refl

-- Jobs of several records that go on past a race.
abbrev several : List (List Event)
several =
    l4_events
    ∷ (S ∷ W 0 ∷ R 1 ∷ W 2 ∷ E ∷ W 2 ∷ R 1 ∷ W 0 ∷ [])
    ∷ (S ∷ R 1 ∷ W 0 ∷ E ∷ W 0 ∷ R 1 ∷ W 1 ∷ [])
    ∷ (S ∷ W 0 ∷ W 1 ∷ E ∷ W 0 ∷ J ∷ W 1 ∷ [])
    ∷ (S ∷ W 0 ∷ R 1 ∷ E ∷ W 0 ∷ S ∷ W 0 ∷ W 1 ∷ E ∷ W 0 ∷ W 1 ∷ [])
    ∷ []

-- one of two; a clean record between two, and the later record first; what stands of a record past another's race; a sync between another's
-- race and this record's second access; a record that races again keeps its pair
pub several_pairs : map (own (0 ∷ 1 ∷ 2 ∷ [])) several
    ≡ (no_pair ∷ pair 3 6 ∷ no_pair ∷ [])
    ∷ (pair 1 7 ∷ no_pair ∷ pair 3 5 ∷ [])
    ∷ (pair 2 4 ∷ pair 1 6 ∷ no_pair ∷ [])
    ∷ (pair 1 4 ∷ no_pair ∷ no_pair ∷ [])
    ∷ (pair 1 4 ∷ pair 2 7 ∷ no_pair ∷ [])
    ∷ []
unfolding tasks_at opened move_at walk_for walk any least races raced held_of first_of pair_of
several_pairs = refl

pub several_verdicts : map by_pairs several ≡ race 3 6 1 ∷ race 3 5 2 ∷ race 2 4 0 ∷ race 1 4 0 ∷ race 1 4 0 ∷ []
unfolding tasks_at opened move_at walk_for walk any least races raced held_of first_of raced_any verdict_in
several_verdicts = refl
