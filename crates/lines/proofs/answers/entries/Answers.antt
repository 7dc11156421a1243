-- `entries` meets its contract: after i turns the lines of the first i entries are put. Assumes nothing.
use native.Mathlib.Omega.{arith}
use mathlib.Core.Path.{refl, ap, ◌∙◌}
use lib.ListN.{length}
use Rattle.lines.proofs.Entries.{entries_none, entries_more}
use Rattle.lines.proofs.answers.entries.Goals as goal

pub loop-i-init : goal.loop-i-init
loop-i-init c =
    (omega arith, refl, entries_none _ _ _)

pub loop-i-preserved : goal.loop-i-preserved
loop-i-preserved c =
    let line = rw (c.deref.ensures.0 ∙ c.entry-line.ensures.value) at c.put-at.ensures in
    let short = ap length c.deref.ensures.0 in
    (omega (arith, short, c.put-at.ensures.count, c.entry-line.ensures.upper_bound), omega arith, entries_more _ _ _ c.loop-i.invariant.2 line)
