-- Small jobs, by computation over the definitions that the contract of `judge` cites: the answer and the lists of each. Assumes nothing.
use mathlib.Core.Path.{◌≡◌, refl}
use mathlib.Core.List.{List, [], ◌∷◌, map}
use Prim.Native.Nat.{ℕ}
use lib.ListN.{length}
use Rattle.jobfile.specs.Trace.{tasks_at, begun_at}
use Rattle.jobfile.specs.Samples.{listed as events, starred as cases}
use Rattle.jobfile.specs.declared.event.Event.{Event}
use Rattle.jobfile.specs.declared.event.Event.TheVariants.{Spawn, End, Write}
use Rattle.relation.specs.Walk.{opened, move_at, walk_for, walk}
use Rattle.orders.specs.Order.{insert_after, differ}
use Rattle.orders.specs.Model.{ceiling, limit, gap_at, has_room, middle, spread, insert_lab, insert_state, diffs, insert_count}
use Rattle.strands.specs.Cells.{cells}
use Rattle.strands.specs.States.{state_at, count_at}
use Rattle.races.specs.Search.{any, least}
use Rattle.races.specs.Places.{held_of, first_of}
use Rattle.races.specs.Records.{races, raced, pair_of}
use Rattle.per_record.specs.Lists.{Lists}
use Rattle.per_record.specs.Listed.{pairs_below, entered_below, listed}
use Rattle.per_record.specs.Answers.{answer_of, judged_all}

-- lists of three entries that hold 9
abbrev nines : List ℕ
nines = 9 ∷ 9 ∷ 9 ∷ []

abbrev lent : Lists
lent = record { records = nines; firsts = nines; seconds = nines }

-- `S W1 W0 E W1 W0`
abbrev two_records : List Event
two_records = Spawn ∷ Write 1 ∷ Write 0 ∷ End ∷ Write 1 ∷ Write 0 ∷ []

-- record 0: 2, 5; record 1: 1, 4; the third entry stays
pub two_listed : (judged_all (events two_records) 6 3 ≡ answer_of 2 3 3 3)
    × (listed (events two_records) 6 lent 3 ≡ record { records = 0 ∷ 1 ∷ 9 ∷ []; firsts = 2 ∷ 1 ∷ 9 ∷ []; seconds = 5 ∷ 4 ∷ 9 ∷ [] })
unfolding judged_all pairs_below entered_below pair_of tasks_at begun_at opened move_at walk_for walk any least races raced held_of first_of cells state_at count_at insert_after differ ceiling limit gap_at has_room middle spread insert_lab insert_state diffs insert_count
two_listed = (refl, refl)

-- of the starred cases, which have record 0 alone: the number raced, the strands and both counts of all events; and the first and the second
-- that are listed, 9 where none is
abbrev first_entries : List Event → List ℕ
first_entries job = first (listed (events job) (length job) lent 1)
  where
    first : Lists → List ℕ
    first L = front L.records (front L.firsts (front L.seconds []))
      where
        front : List ℕ → List ℕ → List ℕ
        front [] more = more
        front (x ∷ xs) more = x ∷ more

pub starred_answers : map (λ (job : List Event). judged_all (events job) (length job) 1) cases
    ≡ answer_of 0 1 1 1
    ∷ answer_of 0 1 1 1
    ∷ answer_of 1 3 3 3
    ∷ answer_of 0 4 4 4
    ∷ answer_of 1 3 3 3
    ∷ answer_of 1 3 3 3
    ∷ answer_of 1 5 5 5
    ∷ answer_of 0 6 6 6
    ∷ answer_of 1 6 6 6
    ∷ answer_of 1 5 5 5
    ∷ []
unfolding judged_all pairs_below pair_of tasks_at begun_at opened move_at walk_for walk any least races raced held_of first_of cells state_at count_at insert_after differ ceiling limit gap_at has_room middle spread insert_lab insert_state diffs insert_count
starred_answers = refl

pub starred_listed : map first_entries cases
    ≡ (9 ∷ 9 ∷ 9 ∷ [])
    ∷ (9 ∷ 9 ∷ 9 ∷ [])
    ∷ (0 ∷ 1 ∷ 3 ∷ [])
    ∷ (9 ∷ 9 ∷ 9 ∷ [])
    ∷ (0 ∷ 1 ∷ 4 ∷ [])
    ∷ (0 ∷ 2 ∷ 4 ∷ [])
    ∷ (0 ∷ 1 ∷ 4 ∷ [])
    ∷ (9 ∷ 9 ∷ 9 ∷ [])
    ∷ (0 ∷ 2 ∷ 6 ∷ [])
    ∷ (0 ∷ 1 ∷ 5 ∷ [])
    ∷ []
unfolding pairs_below entered_below pair_of tasks_at opened move_at walk_for walk any least races raced held_of first_of
starred_listed = refl
