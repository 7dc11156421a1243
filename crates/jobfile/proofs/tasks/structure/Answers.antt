-- `jobfile::tasks::structure` meets its contract: the tests say which way the spawn, end or sync goes. Assumes nothing.
use mathlib.Core.Bool.{Bool, true, false, cond}
use Prim.Native.Nat.{◌≤◌}
use lib.Dec.{lit≤}
use native.Mathlib.Omega.{arith}
use Rattle.trailer.specs.Numbers.{number_of}
use Rattle.trailer.specs.declared.fault.Fault.TheVariants.{RootEnded, TooDeep}
use Rattle.jobfile.proofs.Moves.{open_after, outside, inside, moved_out, moved_full, moved_on}
use Rattle.jobfile.proofs.tasks.structure.Goals as goal

fault_fits : (b : Bool) → (8 ≤ number_of (cond b TooDeep RootEnded)) × (number_of (cond b TooDeep RootEnded) ≤ 12)
fault_fits true = (lit≤ tt, lit≤ tt)
fault_fits false = (lit≤ tt, lit≤ tt)

pub returns-then-depth : goal.returns-then-depth
returns-then-depth c =
    let a = c.args in
    let w = a.tasks.within in
    let f = fault_fits a.spawns in
    rw c.open_fault.ensures (λ records. (moved_out records _ _ _ w.0 a.spawns a.ends c.requires w.1 (outside _ c.if-depth.true), f.0, f.1))

pub returns-then-strands-gt-STRANDS : goal.returns-then-strands-gt-STRANDS
returns-then-strands-gt-STRANDS c =
    let a = c.args in
    let i = inside (open_after a.tasks.depth a.spawns a.ends) c.if-depth.false in
    (λ records. (moved_full records _ _ _ a.tasks.within.0 a.spawns a.ends c.requires i.0 i.1 c.if-strands-gt-STRANDS.true, omega arith, omega arith))

pub returns : goal.returns
returns c =
    let a = c.args in
    let i = inside (open_after a.tasks.depth a.spawns a.ends) c.if-depth.false in
    (λ records. moved_on records _ _ _ a.tasks.within.0 a.spawns a.ends c.requires i.0 i.1 c.if-strands-gt-STRANDS.false)
