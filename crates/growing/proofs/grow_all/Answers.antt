-- `growing::grow_all` meets its contract. The invariant: the buffers hold the order of the strands that are in, grown by the rule. Assumes
-- nothing.
use native.Mathlib.Omega.{arith}
use mathlib.Core.Path.{refl, ◌∙◌}
use Rattle.growing.proofs.Rule.{turn_marked, turn_few, turn_on, begun_growing, grew}
use Rattle.growing.proofs.grow_all.Goals as goal

pub loop-j-init : goal.loop-j-init
loop-j-init c =
    let b = c.begin-mark in
    (begun_growing _ _ _ _ _ _ (b.ensures.begun, b.ensures.settled) b.auto.labels b.auto.links c.requires, refl, refl)

pub insert-step-requires : goal.insert-step-requires
insert-step-requires c =
    rw c.point.ensures (turn_marked _ _ _ _ _ _ _ _ c.loop-j.invariant.0 (omega arith))

pub overflow_add-changed : goal.overflow_add-changed
overflow_add-changed c =
    omega (arith, turn_few _ _ _ _ _ _ _ _ c.loop-j.invariant.0 (omega arith) _ _ _ (rw c.point.ensures at c.insert-step.ensures.inserted))

pub loop-j-preserved : goal.loop-j-preserved
loop-j-preserved c =
    let i = c.insert-step in (
      turn_on _ _ _ _ _ _ _ _ c.loop-j.invariant.0 (omega arith) _ _ _ (rw c.point.ensures at i.ensures.inserted) _ (rw c.point.ensures at i.ensures.settles)
          i.auto.labels i.auto.links,
      i.auto.labels ∙ c.loop-j.invariant.1,
      i.auto.links ∙ c.loop-j.invariant.2,
    )

pub returns : goal.returns
returns c =
    grew _ _ _ _ _ _ _ _ _ _ c.begin-mark.ensures.begun c.loop-j.invariant.0 c.loop-j-test.false (c.loop-j.invariant.1 ∙ c.begin-mark.auto.labels)
    (c.loop-j.invariant.2 ∙ c.begin-mark.auto.links)
