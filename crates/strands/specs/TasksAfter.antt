-- The open tasks after a move, entry by entry: which entry the move sets; every other one stays.
use Rattle.std.specs.Prelude.{ℕ, ◌+◌, ◌-◌, set, Option, Some, None}
use Rattle.std.specs.Option.{option_or}
use Rattle.jobfile.specs.declared.event.Move.{Move}
use Rattle.jobfile.specs.declared.event.Move.TheVariants.{Opens, Closes, Joins, Stays}
use Rattle.strands.specs.Memory.{OpenTasks, task_at}

-- what a parent has to join after the end of a child whose last strand is `last`
abbrev pub join_after : Option ℕ → Option ℕ → ℕ → Option ℕ
join_after own childs last = option_or own (option_or childs (Some last))

-- the entry of the task at a place
abbrev pub set_task : OpenTasks → ℕ → ℕ → Option ℕ → OpenTasks
set_task T at last join = set T at (record { last = last; join = join })

-- a sync of the task at `top`, which has that to join
abbrev pub joined : Option ℕ → ℕ → ℕ → OpenTasks → OpenTasks
joined None b top T = T
joined (Some t) b top T = set_task T top b None

-- The current task is at `top`, and the strand that the move begins, if it begins one, is b. A child begins with it and has nothing to join;
-- at an end it is the parent's last; at a sync it is the task's own, if there is something to join.
abbrev pub tasks_after : Move → ℕ → ℕ → OpenTasks → OpenTasks
tasks_after Opens b top T = set_task T (top + 1) b None
tasks_after Closes b top T = set_task T (top - 1) b (join_after (task_at T (top - 1)).join (task_at T top).join (task_at T top).last)
tasks_after Joins b top T = joined (task_at T top).join b top T
tasks_after Stays b top T = T
