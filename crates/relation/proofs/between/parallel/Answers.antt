-- `relation::between::parallel` meets its contract. The loop's invariant: the walker is that of the definition, and no higher than the events
-- passed. Assumes nothing.
use mathlib.Core.Path.{◌≡◌, sym, ap, ◌∙◌}
use native.Mathlib.Omega.{arith}
use Rattle.jobfile.specs.Events.{move_of}
use Rattle.jobfile.specs.Trace.{event_at, moves}
use Rattle.relation.proofs.Spawned.{walk_next}
use Rattle.relation.proofs.Walk.{walk_start}
use Rattle.relation.proofs.between.parallel.Goals as goal

pub loop-n-init : goal.loop-n-init
loop-n-init c =
    record { low = omega arith; here = rw (c.default-w.ensures.0, c.default-w.ensures.1) (sym (walk_start _ _)) }

pub loop-n-preserved : goal.loop-n-preserved
loop-n-preserved c =
    record {
      low = omega arith;
      here = walk_next (moves (event_at c.args.part.now)) c.args.p c.loop-n.n c.move_of.result _ _ (omega arith)
          (λ m l. c.requires.rooted m (omega arith)) c.loop-n.invariant.here (c.move_of.ensures ∙ ap move_of c.event_at.ensures)
          c.moved-w.ensures.result_value;
    }

pub returns : goal.returns
returns c =
    let e : c.loop-n.n ≡ c.args.q = omega (arith, c.loop-n.auto.n-end c.requires.order) in ap (λ w. w.par) (rw e at c.loop-n.invariant.here)
