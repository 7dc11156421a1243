-- `list` meets its contract. The invariant: the records below r are entered, and n of them have a pair. Assumes nothing.
use mathlib.Core.Path.{refl, ◌∙◌}
use native.Mathlib.Omega.{arith}
use Rattle.per_record.proofs.Entering.{none_counted, none_listed, counted, listed_more, room_left}
use Rattle.per_record.proofs.list.Goals as goal

pub loop-r-init : goal.loop-r-init
loop-r-init c =
    (omega arith, none_counted _, none_listed _ _, refl)

pub enter-n-requires-clause-long_enough : goal.enter-n-requires-clause-long_enough
enter-n-requires-clause-long_enough c =
    room_left _ _ _ _ c.loop-r.invariant.2 _ _ c.loop-r-test.true c.loop-r.invariant.1 c.requires.long_enough

pub loop-r-preserved : goal.loop-r-preserved
loop-r-preserved c = (
  omega (arith, c.loop-r-test.true),
  counted _ _ _ _ c.loop-r.invariant.1 c.enter-n.ensures.value,
  listed_more _ _ _ _ _ _ c.loop-r.invariant.1 c.loop-r.invariant.2 c.enter-n.ensures.entered,
  c.enter-n.ensures.same_lists ∙ c.loop-r.invariant.3,
)
