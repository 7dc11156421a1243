-- `jobfile::tasks::trace` meets its contract. The invariant: the answer is that of the events from this one on, from the open tasks that are
-- kept and the strands begun. Assumes nothing.
use native.Mathlib.Omega.{arith}
use Prim.Native.Nat.{◌+◌, ◌*◌, ◌/◌, ◌%◌, ◌<◌}
use mathlib.Core.Path.{◌≡◌, sym, ◌∙◌}
use Rattle.jobfile.specs.Coding.{decode_at, told_of}
use lib.ListN.{get_or}
use Rattle.jobfile.proofs.Moves.{finish_open, finish_root}
use Rattle.jobfile.proofs.Told.{word_told}
use Rattle.jobfile.proofs.Turns.{turn_stop, turn_on, turn_end}
use Rattle.jobfile.proofs.tasks.trace.Goals as goal
use Rattle.jobfile.proofs.tasks.trace.Goals.{After-word}

-- the number that is read tells the event's bytes
word_is : (w : After-word)
    → decode_at w.args.part.now (4 * w.loop-event.event) ≡ told_of (w.word.result % 65536) (w.word.result / 65536)
word_is w =
    let bytes = w.args.part.now in
    let at = 4 * w.loop-event.event in
    let known = w.type_inv.part in
    let kind : get_or bytes at 0 < 256 = omega (arith, known at) in
    let second : get_or bytes (at + 1) 0 < 256 = omega (arith, known (at + 1)) in
    word_told bytes at kind second w.word.result w.word.ensures.value

pub returns-in-Err-clause-value : goal.returns-in-Err-clause-value
returns-in-Err-clause-value c =
    let came = rw (c.in-Err.is, ← word_is (goal.at.returns-in-Err-clause-value c).After-word) at c.apply.ensures in
    turn_stop _ _ _ _ _ _ _ c.loop-event.invariant _ c.loop-event-test.true came.0

pub loop-event-preserved : goal.loop-event-preserved
loop-event-preserved c =
    let came = rw (c.in-Ok.is, ← word_is (goal.at.loop-event-preserved c).After-word) at c.apply.ensures in
    turn_on _ _ _ _ _ _ _ c.loop-event.invariant _ _ _ c.loop-event-test.true came c.in-Ok.next.within

pub returns-then-tasks-eq1-clause-value : goal.returns-then-tasks-eq1-clause-value
returns-then-tasks-eq1-clause-value c =
    sym (turn_end _ _ _ _ _ _ _ c.loop-event.invariant c.loop-event-test.false ∙ finish_root _ _ _ c.if-tasks-eq1.true)

pub returns-else-tasks-eq1-clause-value : goal.returns-else-tasks-eq1-clause-value
returns-else-tasks-eq1-clause-value c =
    rw c.into.ensures (sym (turn_end _ _ _ _ _ _ _ c.loop-event.invariant c.loop-event-test.false ∙ finish_open _ _ _ c.loop-event.invariant.root c.if-tasks-eq1.false))
