-- The run past every race: what stands before event i, how far one turn goes from there, and what the whole run ends with.
use Rattle.std.specs.Prelude.{◌≡◌, true, List, ℕ, suc, ◌-◌, ◌≤◌, ◌<◌}
use Rattle.jobfile.specs.Trace.{event_at, moves, begun_at}
use Rattle.jobfile.specs.declared.event.Event.{Event}
use Rattle.strands.specs.Memory.{OpenTasks}
use Rattle.strands.specs.States.{english_count, hebrew_count}
use Rattle.strands.specs.declared.Now.{Now}
use Rattle.taking.specs.Buffers.{Buffers}
use Rattle.taking.specs.Turns.{Run, Midway, Still, Races, tasks_over}
use Rattle.taking.specs.declared.Reach.{Reach}
use Rattle.judging.specs.Leaves.{Shows}
use Rattle.per_record.specs.Marks.{Marks, Marked, frozen_at, stretch_end, FirstFrom}

-- event i of the k that are judged is next: what the buffers, which were B₀ once, the open tasks, the numbers and the marks hold
pub record Going (part : List ℕ) (records k : ℕ) (B₀ B : Buffers) (T : OpenTasks) (M : Marks) (now : Now) (i : ℕ) : Type 0 where
  pub run : Run part records k
  pub midway : Midway part records B₀ B T now i
  pub marked : Marked (event_at part) i M

-- what going on from event i asks
pub record MayGo (part : List ℕ) (i k : ℕ) (B : Buffers) (T : OpenTasks) (M : Marks) (now : Now) : Type 0 where
  pub records : ℕ
  pub B₀ : Buffers
  pub going : Going part records k B₀ B T M now i
  pub next : i < k

-- Which event is next then: the one past an access of a frozen record; the end of the stretch, if nothing races on the way; or the one past
-- the first that does.
pub data Stop (part : List ℕ) (M : Marks) (i k : ℕ) : ℕ → Type 0 where
  past_frozen : frozen_at part M i ≡ true → Stop part M i k (suc i)
  past_all : {to : ℕ} → FirstFrom (frozen_at part M) i (stretch_end i k) to → i < to → Still part i to → Stop part M i k to
  past_race : {to n : ℕ} → FirstFrom (frozen_at part M) i (stretch_end i k) to → i ≤ n → n < to → Still part i n → Races part n → Stop part M i k (suc n)

-- what it gives, for every such run; and every entry of the open tasks' array
pub record Goes (part : List ℕ) (i k : ℕ) (B : Buffers) (T : OpenTasks) (M : Marks) (now : Now) (B' : Buffers) (T' : OpenTasks) (M' : Marks)
    (reach : Reach) : Type 0 where
  pub went : (records : ℕ) (B₀ : Buffers) → Going part records k B₀ B T M now i → Going part records k B₀ B' T' M' reach.state reach.at
  pub stop : Stop part M i k reach.at
  pub onward : i < reach.at
  pub within : reach.at ≤ k
  pub tasks_are : T' ≡ tasks_over (moves (event_at part)) i (reach.at - i) T

-- all k events are behind: what the buffers show, the marks, and the numbers
pub record Ran (ev : ℕ → Event) (k records : ℕ) (B₀ B : Buffers) (M : Marks) (now : Now) : Type 0 where
  pub shows : Shows ev k records B₀ B
  pub marked : Marked ev k M
  pub strands : now.strands ≡ begun_at (moves ev) k
  pub english : now.english ≡ english_count (moves ev) k
  pub hebrew : now.hebrew ≡ hebrew_count (moves ev) k
