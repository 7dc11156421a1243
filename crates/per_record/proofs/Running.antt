-- The run: from the start, turn by turn, past all k events. Assumes nothing.
use mathlib.Core.Path.{◌≡◌}
use mathlib.Core.List.{List}
use Prim.Native.Nat.{ℕ, ◌≤◌}
use native.Mathlib.Omega.{arith}
use lib.ListN.{length}
use Rattle.jobfile.specs.Trace.{event_at, moves}
use Rattle.strands.specs.Memory.{OpenTasks}
use Rattle.strands.specs.Reached.{Reached}
use Rattle.strands.specs.declared.Now.{Now}
use Rattle.races.specs.Entries.{Empty}
use Rattle.races.specs.Mark.{layout}
use Rattle.taking.specs.Buffers.{Buffers, orders_in}
use Rattle.taking.specs.Turns.{Run}
use Rattle.judging.proofs.Running.{starts}
use Rattle.per_record.specs.Marks.{Marks, Marked}
use Rattle.per_record.specs.Goes.{Going, Ran}

-- before any event
pub begins : {part : List ℕ} {records k : ℕ} {B₀ B : Buffers} {T : OpenTasks} {M : Marks} {now : Now} → Run part records k
    → Reached (moves (event_at part)) 0 (orders_in B₀) (orders_in B) T now → Empty layout records B₀.places B.places → 16384 ≤ length B₀.places
    → Marked (event_at part) 0 M → Going part records k B₀ B T M now 0
begins {part = part} {records = records} {B₀ = B₀} {B = B} {T = T} {now = now} R S empty room marks =
    record { run = R; midway = starts part records B₀ B T now S empty room; marked = marks }

-- all k events are behind
pub ends : {part : List ℕ} {records k : ℕ} {B₀ B : Buffers} {T : OpenTasks} {M : Marks} {now : Now} {i : ℕ} → Going part records k B₀ B T M now i
    → i ≤ k → k ≤ i → Ran (event_at part) k records B₀ B M now
ends {part = part} {records = records} {k = k} {B₀ = B₀} {B = B} {T = T} {M = M} {now = now} {i = i} G within past =
    let same : i ≡ k = omega arith in
    let S : Going part records k B₀ B T M now k = rw same at G in
    let R = S.midway.reached in
    record {
      shows = record { english = R.english; hebrew = R.hebrew; untouched = R.untouched; places = S.midway.shown };
      marked = S.marked;
      strands = R.strands;
      english = R.english_count_is;
      hebrew = R.hebrew_count_is;
    }
