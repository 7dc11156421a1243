-- `entries` meets its contract: after i turns the lines of the first i entries are put. Assumes nothing.
use Prim.Native.Nat.{◌*◌, ◌≤◌}
use mathlib.Core.Path.{◌≡◌}
use lib.ListN.{length}
use Rattle.bytes_at.specs.Put.{Put}
use Rattle.per_record.specs.RaceLists.{entries_in}
use Rattle.lines.specs.Text.{entries_text}
use Rattle.lines.proofs.answers.entries.Given as goal

abbrev pub invariant-loop-i : goal.invariant-loop-i
invariant-loop-i l = (l.at ≤ 97 * l.i)
    × (length l.out ≡ length l.initial.out)
    × Put l.initial.out 0 (entries_text l.events (entries_in l.lists) l.i) l.at l.out
