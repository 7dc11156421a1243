-- `run` meets its contract. The invariant: where the state at the loop's start is that before any event, the state is now that before the event
-- that is next. Assumes nothing.
use mathlib.Core.Path.{refl, ◌∙◌}
use Rattle.taking.specs.WorkBuffers.{lists_in}
use Rattle.per_record.specs.Goes.{Going}
use Rattle.per_record.proofs.Running.{begins, ends}
use Rattle.per_record.proofs.run.Goals as goal
use Rattle.per_record.proofs.run.Goals.{At-loop-next}

-- what stands before the event that is next, from the loop's start
going : (c : At-loop-next)
    → Going c.args.part.now c.args.records c.args.k (lists_in c.args.buffers.now) (lists_in c.loop-next.buffers) c.loop-next.tasks c.loop-next.marks
    c.loop-next.next.state c.loop-next.next.at
going c =
    c.loop-next.invariant.1 _ (begins c.requires.run (c.begin-state.ensures _ _ refl refl) c.clear.ensures c.requires.in_bounds.2 c.requires.marked)

pub go_on-next-requires : goal.go_on-next-requires
go_on-next-requires c =
    record { records = _; B₀ = _; going = going (goal.at.go_on-next-requires c).At-loop-next; next = c.loop-next-test.true }

pub loop-next-preserved : goal.loop-next-preserved
loop-next-preserved c = (
  c.go_on-next.ensures.goes.within,
  λ B₀ G. c.go_on-next.ensures.goes.went _ B₀ (c.loop-next.invariant.1 B₀ G),
  c.go_on-next.ensures.same_references ∙ c.loop-next.invariant.2,
)

pub returns-clause-ran : goal.returns-clause-ran
returns-clause-ran c =
    ends (going (goal.at.returns-clause-ran c).At-loop-next) c.loop-next.invariant.0 c.loop-next-test.false
