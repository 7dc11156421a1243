-- `list` meets its contract. The invariant: the records below r are entered, and n of them have a pair. Assumes nothing.
use Prim.Native.Nat.{◌≤◌}
use mathlib.Core.Path.{◌≡◌}
use Rattle.per_record.specs.RaceLists.{entries_in, SameLists}
use Rattle.per_record.specs.Listed.{pairs_below, entered_below}
use Rattle.per_record.specs.Marks.{pair_held}
use Rattle.per_record.proofs.list.Given as goal

abbrev pub invariant-loop-r : goal.invariant-loop-r
invariant-loop-r l = (l.r ≤ l.count)
    × (l.n ≡ pairs_below (pair_held l.marks l.places) l.r)
    × (entries_in l.lists ≡ entered_below (pair_held l.marks l.places) (entries_in l.initial.lists) l.r)
    × SameLists l.initial.lists l.lists
