-- The run: from the start over each event to the race or to the k-th event, and the answer and the buffers that it ends with. Assumes
-- nothing.
use mathlib.Core.Path.{◌≡◌, refl, sym, ap, ◌∙◌}
use mathlib.Core.List.{List}
use mathlib.Core.Option.{none}
use Prim.Native.Nat.{ℕ, ◌+◌, ◌*◌, ◌≤◌, ◌<◌}
use native.Mathlib.Omega.{arith}
use lib.ListN.{length, get_or}
use Rattle.jobfile.specs.Trace.{event_at, moves}
use Rattle.jobfile.specs.declared.event.Kind.{Kind}
use Rattle.jobfile.specs.declared.event.Kind.TheVariants.{Write, Read}
use Rattle.strands.specs.Memory.{OpenTasks}
use Rattle.strands.specs.Reached.{Reached}
use Rattle.strands.specs.declared.Now.{Now}
use Rattle.races.specs.Trace.{record_of}
use Rattle.races.specs.Records.{Verdict, clean, race, second_in}
use Rattle.races.specs.Entries.{Empty, HasPlace}
use Rattle.races.specs.Mark.{rank, act_of, rules, layout, event_trace}
use Rattle.races.specs.Verdict.{verdict, stop_at}
use Rattle.races.proofs.Places.{none_yet, stop_none}
use Rattle.races.proofs.Shown.{shown_start, shown_first}
use Rattle.races.proofs.OneRace.{none_together, clean_all, stops_here}
use Rattle.races.proofs.Events.{lawful, fit}
use Rattle.judging.specs.declared.Answer.TheVariants.{Clean, Race}
use Rattle.taking.specs.declared.Found.{Found}
use Rattle.judging.specs.Answers.{counts_in, answer_with, judged_of}
use Rattle.judging.specs.Leaves.{Shows}
use Rattle.taking.specs.Buffers.{Buffers, orders_in}
use Rattle.taking.specs.Turns.{Run, Midway, Still, Races, Runs, FirstFound}
use Rattle.taking.proofs.Asking.{on_its_record}

-- before any event
pub starts : (part : List ℕ) (records : ℕ) (B₀ B : Buffers) (T : OpenTasks) (now : Now) → Reached (moves (event_at part)) 0 (orders_in B₀) (orders_in B) T now
    → Empty layout records B₀.places B.places → 16384 ≤ length B₀.places → Midway part records B₀ B T now 0
starts part records B₀ B T now S empty room =
    let shown = shown_start rules (event_trace (event_at part)) layout records B₀.places B.places (empty (event_trace (event_at part)).strand) in
    record { reached = S; shown = shown; places_room = omega (arith, shown.size) }

-- so all k events may be run: no record has raced
pub may_run : {part : List ℕ} {records k : ℕ} {B₀ B : Buffers} {T : OpenTasks} {now : Now} → Run part records k → Midway part records B₀ B T now 0
    → Runs part 0 k records k B₀ B T now
may_run {part = part} R S = record {
  run = R;
  onward = omega arith;
  within = omega arith;
  midway = S;
  fresh = λ m o l kind r e. none_yet rules (event_trace (event_at part)) r;
}

-- the same from what the first three calls of a run leave
pub runs : {part : List ℕ} {records k : ℕ} {B₀ B : Buffers} {T : OpenTasks} {now : Now} → Run part records k
    → Reached (moves (event_at part)) 0 (orders_in B₀) (orders_in B) T now → Empty layout records B₀.places B.places → 16384 ≤ length B₀.places
    → Runs part 0 k records k B₀ B T now
runs R S empty room = may_run R (starts _ _ _ _ _ _ S empty room)

-- no record has raced on the way to event n: nothing has
nothing_raced : (part : List ℕ) (n : ℕ) → Still part 0 n → second_in rules (event_trace (event_at part)) n ≡ none
nothing_raced part n still =
    none_together rules (event_trace (event_at part)) n (λ r. still r ∙ none_yet rules (event_trace (event_at part)) r)

-- the numbers of the state before event i are those of the answer, and the buffers show it, if judging stops there
answered : {part : List ℕ} {records : ℕ} {B₀ B : Buffers} {T : OpenTasks} {now : Now} {i : ℕ} (k : ℕ) (v : Verdict)
    → Midway part records B₀ B T now i → verdict (event_at part) k ≡ v → stop_at (event_at part) k ≡ i
    → (answer_with v now.strands now.english now.hebrew ≡ judged_of (event_at part) k)
    × Shows (event_at part) (stop_at (event_at part) k) records B₀ B
unfolding judged_of
answered k v S e f = rw (e, f) (
  rw (S.reached.strands, S.reached.english_count_is, S.reached.hebrew_count_is) refl,
  record { english = S.reached.english; hebrew = S.reached.hebrew; untouched = S.reached.untouched; places = S.shown },
)

-- all k events are behind
pub ends_clean : {part : List ℕ} {records : ℕ} {B₀ B : Buffers} {T : OpenTasks} {now : Now} {i : ℕ} (k : ℕ)
    → Midway part records B₀ B T now i → Still part 0 i → i ≤ k → k ≤ i
    → (Clean (counts_in now) ≡ judged_of (event_at part) k) × Shows (event_at part) (stop_at (event_at part) k) records B₀ B
ends_clean {part = part} {i = i} k S still within past =
    let same : i ≡ k = omega arith in
    let c = clean_all rules (event_trace (event_at part)) k (rw same at (nothing_raced part i still)) in
    answered k clean S c.0 (c.1 ∙ sym same)

rank_below : (kind : Kind) → rank kind < 2
rank_below Write = omega arith
rank_below Read = omega arith

-- event i races, and the place that was found holds the first
pub ends_raced : {part : List ℕ} {records : ℕ} {B₀ B : Buffers} {T : OpenTasks} {now : Now} {i : ℕ} (k : ℕ) → Run part records k → i < k
    → Midway part records B₀ B T now i → Still part 0 i → Races part i → (found : Found) → FirstFound part i found
    → (first : ℕ) → first ≡ get_or B.places (8192 * rank found.kind + found.«record») 0
    → (Race first i found.«record» (counts_in now) ≡ judged_of (event_at part) k)
    × Shows (event_at part) (stop_at (event_at part) k) records B₀ B
ends_raced {part = part} {records = records} {B₀ = B₀} {B = B} {i = i} k R h S still W found F first e =
    let ev = event_at part in
    let tr = event_trace ev in
    let its : found.«record» ≡ W.number = F.record_is ∙ ap (λ a. record_of (act_of a)) W.is_an_access in
    let here : HasPlace layout records W.number (rank found.kind) =
    record { on_its_record = on_its_record R h S W.kind W.number W.is_an_access; below = rank_below found.kind } in
    let holds : get_or B.places (8192 * rank found.kind + W.number) 0 ≡ W.first =
    shown_first rules tr layout records B₀.places i B.places S.shown W.number (rank found.kind) i W.first here
    (stop_none rules tr W.number i W.unraced) (rw its at F.class_is) W.names in
    let stops = stops_here rules tr (lawful ev) (fit ev) i (nothing_raced part i still) W.number (rank W.kind) W.first (ap act_of W.is_an_access) W.names k h in
    let told : first ≡ W.first = e ∙ rw its holds in
    rw (told, its) (answered k (race W.first i W.number) S stops.0 stops.1)

-- both places of a racing event's record are there
pub place_there : {part : List ℕ} {records k : ℕ} {B₀ B : Buffers} {T : OpenTasks} {now : Now} {i : ℕ} → Run part records k → i < k
    → Midway part records B₀ B T now i → Races part i → (found : Found) → FirstFound part i found → 8192 + found.«record» < length B.places
place_there R h S W found F =
    let its : found.«record» ≡ W.number = F.record_is ∙ ap (λ a. record_of (act_of a)) W.is_an_access in
    omega (arith, its, on_its_record R h S W.kind W.number W.is_an_access, R.records_within, S.places_room)
