-- `until_race` meets its contract. The invariant: where the state at the loop's start is that before event `from`, the state is now that
-- before event i, no record has raced on the way, and the open tasks' array is what the moves made of it. Assumes nothing.
use mathlib.Core.Path.{◌≡◌, refl, ◌∙◌}
use native.Mathlib.Omega.{arith}
use native.Mathlib.Numerals.{add-one}
use Rattle.taking.proofs.Reaching.{tasks_none, turnable, ends_all, ends_race, goes_on}
use Rattle.taking.proofs.until_race.Goals as goal

pub loop-at-init : goal.loop-at-init
loop-at-init c =
    (omega arith, c.requires.runs.onward, λ records k B₀ R. (R.midway, λ r. refl), tasks_none _ _ _, refl)

pub take-requires : goal.take-requires
take-requires c =
    let s = c.loop-at.invariant.2 _ _ _ c.requires.runs in
    turnable c.requires.runs c.loop-at.invariant.0 c.loop-at-test.true s.0 s.1

pub returns-in-None-clause-went : goal.returns-in-None-clause-went
returns-in-None-clause-went c =
    ends_race c.requires c.loop-at.invariant.0 c.loop-at.invariant.2 c.loop-at.invariant.3 c.loop-at-test.true (rw c.in-None.is at c.take.ensures.taken)

pub loop-at-preserved : goal.loop-at-preserved
loop-at-preserved c =
    let on = goes_on c.requires c.loop-at.invariant.0 c.loop-at.invariant.2 c.loop-at.invariant.3 c.loop-at-test.true _ (rw c.in-Some.is at c.take.ensures.taken) in
    rw (add-one c.loop-at.at) (omega arith, omega arith, on.0, on.1, c.take.ensures.same_references ∙ c.loop-at.invariant.4)

pub returns-clause-went : goal.returns-clause-went
returns-clause-went c =
    let all : c.loop-at.at ≡ c.args.to = omega (arith, c.loop-at.invariant.1, c.loop-at-test.false) in
    rw all at (ends_all c.requires c.loop-at.invariant.0 c.loop-at.invariant.2 c.loop-at.invariant.3 c.loop-at.invariant.1 c.loop-at-test.false)
