-- How the code keeps both orders and the open tasks, and when what it keeps is the state just before event n.
use Rattle.std.specs.Prelude.{◌≡◌, ◌≢◌, List, [], ◌∷◌, ℕ, zero, suc, ◌+◌, ◌≤◌, ◌<◌, length, get_or}
use Rattle.jobfile.specs.Trace.{depth_at, begun_at}
use Rattle.jobfile.specs.declared.event.Move.{Move}
use Rattle.relation.specs.Parallel.{Rooted}
use Rattle.orders.specs.Model.{Holds}
use Rattle.orders.specs.Marked.{Settled}
use Rattle.orders.specs.InTurn.{InTurn}
use Rattle.strands.specs.Cells.{Cell, cell, cells}
use Rattle.strands.specs.States.{english_state, hebrew_state, english_count, hebrew_count}
use Rattle.jobfile.specs.Lent.{Lent}
use Rattle.strands.specs.Memory.{Memory, OpenTasks, LentTasks, root, task_at, memory}
use Rattle.strands.specs.TasksAfter.{tasks_after}
use Rattle.strands.specs.declared.Now.{Now}
use Rattle.strands.specs.declared.OpenTask.{OpenTask}

-- the cell that the code keeps of an open task
abbrev pub cell_of : OpenTask → Cell
cell_of task = cell task.last task.join

-- the cells of the tasks below a place, the innermost first
unfoldable pub cells_under : OpenTasks → ℕ → List Cell
cells_under T zero = []
cells_under T (suc d) = cell_of (task_at T d) ∷ cells_under T d

-- the open tasks' cells, the current task's at `top` and the root's at 0
abbrev pub cells_of : OpenTasks → ℕ → List Cell
cells_of T top = cell_of (task_at T top) ∷ cells_under T top

-- "Entries of strands not begun [..] and past the lengths above keep what they had."
pub record Untouched (n : ℕ) (M₀ M : Memory) : Type 0 where
  pub labels : (i : ℕ) → ((s : ℕ) → s < n → (i ≢ s) × (i ≢ 4096 + s)) → get_or M.labels i 0 ≡ get_or M₀.labels i 0
  pub links : (i : ℕ) → ((s : ℕ) → s < n → (i ≢ s) × (i ≢ 4096 + s) × (i ≢ 8192 + s) × (i ≢ 12288 + s)) → get_or M.links i 0 ≡ get_or M₀.links i 0
  pub labels_length : length M.labels ≡ length M₀.labels
  pub links_length : length M.links ≡ length M₀.links

-- just before event n: the memory, which was M₀ once, the open tasks and the numbers
pub record Reached (mv : ℕ → Move) (n : ℕ) (M₀ M : Memory) (T : OpenTasks) (now : Now) : Type 0 where
  pub english : Holds M.labels M.links 0 0 (english_state mv n)
  pub hebrew : Holds M.labels M.links 4096 8192 (hebrew_state mv n)
  pub open_cells : cells_of T now.top ≡ cells mv n
  pub strands : now.strands ≡ begun_at mv n
  pub english_count_is : now.english ≡ english_count mv n
  pub hebrew_count_is : now.hebrew ≡ hebrew_count mv n
  pub english_turn : InTurn (english_state mv n) now.settled
  pub hebrew_settled : Settled (hebrew_state mv n) now.mark
  pub place : now.top < 64
  pub labels_room : 8192 ≤ length M.labels
  pub links_room : 16384 ≤ length M.links
  pub tasks_room : length T ≡ 64
  pub untouched : Untouched (begun_at mv n) M₀ M

-- what the beginning gives: before any event, of every trace, with strand 0 the root's last and nothing to join
abbrev pub Starts : Memory → Memory → Now → Type 0
Starts M₀ M now =
    (mv : ℕ → Move) (T : OpenTasks) → length T ≡ 64 → task_at T 0 ≡ root → Reached mv 0 M₀ M T now

-- event n may be taken: it does not close the root, opens no 65th task and begins no 4,097th strand
pub record Takes (mv : ℕ → Move) (n : ℕ) (m : Move) : Type 0 where
  pub next : mv n ≡ m
  pub rooted : Rooted mv (suc n)
  pub shallow : depth_at mv (suc n) ≤ 64
  pub few : begun_at mv (suc n) ≤ 4096

-- what taking an event asks: some trace whose state is kept, with that move next
pub record Ready (M : Memory) (T : OpenTasks) (now : Now) (m : Move) : Type 0 where
  pub mv : ℕ → Move
  pub n : ℕ
  pub M₀ : Memory
  pub reached : Reached mv n M₀ M T now
  pub takes : Takes mv n m

-- what it gives: for every such trace, the state behind the event; and every entry of the open tasks' array, those of no open task too
pub record Advances (M : Memory) (T : OpenTasks) (now : Now) (m : Move) (M' : Memory) (T' : OpenTasks) (next : Now) : Type 0 where
  pub behind : (mv : ℕ → Move) (n : ℕ) (M₀ : Memory) → Reached mv n M₀ M T now → Takes mv n m → Reached mv (suc n) M₀ M' T' next
  pub tasks_are : T' ≡ tasks_after m now.strands now.top T

-- the same of what a call is lent
abbrev pub Started : Lent → Lent → Now → Type 0
Started labels links now = Starts (memory labels.entry links.entry) (memory labels.exit links.exit) now

abbrev pub Advanced : Lent → Lent → LentTasks → Now → Move → Now → Type 0
Advanced labels links tasks now m next =
    Advances (memory labels.entry links.entry) tasks.entry.now now m (memory labels.exit links.exit) tasks.exit.now next
