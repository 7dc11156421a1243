-- `growing::grow_all` meets its contract. The invariant: the buffers hold the order of the strands that are in, grown by the rule. Assumes
-- nothing.
use mathlib.Core.Path.{◌≡◌}
use lib.ListN.{length}
use Rattle.growing.proofs.Rule.{Growing}
use Rattle.growing.proofs.grow_all.Given as goal

abbrev pub invariant-loop-j : goal.invariant-loop-j
invariant-loop-j l = Growing l.factor l.initial.labels l.initial.links l.labels l.links l.mark l.changed l.j × (length l.labels ≡ length l.initial.labels) × (length l.links ≡ length l.initial.links)
