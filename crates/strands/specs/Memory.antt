-- What is kept between two events, as lists: the lent memory of both orders, and the open tasks, and the same as a call's references
-- have it.
use Rattle.std.specs.Prelude.{List, ℕ, None, get_or}
use Rattle.std.specs.Borrow.{MutBor}
use denote.Triple.Both.{Both}
use Rattle.strands.specs.declared.OpenTask.{OpenTask}

pub record Memory : Type 0 where
  pub labels : List ℕ
  pub links : List ℕ

-- the open task at place d, the root's being 0, has entry d
abbrev pub OpenTasks : Type 0
OpenTasks = List OpenTask

-- the root before any event
abbrev pub root : OpenTask
root = record { last = 0; join = None }

abbrev pub task_at : OpenTasks → ℕ → OpenTask
task_at T d = get_or T d root

abbrev pub memory : MutBor (List ℕ) → MutBor (List ℕ) → Memory
memory labels links = record { labels = labels.now; links = links.now }

-- the open tasks that a call is lent, when it is made and when it returns
abbrev pub LentTasks : Type 0
LentTasks = Both (MutBor OpenTasks) (MutBor OpenTasks)
