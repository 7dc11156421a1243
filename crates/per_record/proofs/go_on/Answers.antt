-- `go_on` meets its contract: past an access of a frozen record, to the end of the stretch, or past the race on the way. Assumes nothing.
use mathlib.Core.Path.{refl}
use native.Mathlib.Omega.{arith}
use Rattle.per_record.proofs.Going.{goes_past_frozen, goes_past_all, may_find, race_bounds, goes_past_race}
use Rattle.per_record.proofs.go_on.Goals as goal

pub returns-then-to-next-clause-goes : goal.returns-then-to-next-clause-goes
returns-then-to-next-clause-goes c =
    goes_past_frozen c.requires _ c.stretch-to.ensures c.if-to-next.true

pub returns-then-reach-to-clause-goes : goal.returns-then-reach-to-clause-goes
returns-then-reach-to-clause-goes c =
    goes_past_all c.requires _ c.stretch-to.ensures _ _ _ c.until_race-reach.ensures.went c.if-to-next.false c.if-reach-to.true

pub find-found-requires : goal.find-found-requires
find-found-requires c =
    may_find c.requires _ c.stretch-to.ensures _ _ _ c.until_race-reach.ensures.went c.if-to-next.false c.if-reach-to.false

pub overflow_cast-reach : goal.overflow_cast-reach
overflow_cast-reach c =
    omega (arith, race_bounds c.requires _ c.stretch-to.ensures _ _ _ c.until_race-reach.ensures.went c.if-to-next.false c.if-reach-to.false _ c.find-found.ensures)

pub offset_bounds-marks-found : goal.offset_bounds-marks-found
offset_bounds-marks-found c =
    omega (arith, race_bounds c.requires _ c.stretch-to.ensures _ _ _ c.until_race-reach.ensures.went c.if-to-next.false c.if-reach-to.false _ c.find-found.ensures)

pub bounds-marks-found : goal.bounds-marks-found
bounds-marks-found c =
    omega (arith, race_bounds c.requires _ c.stretch-to.ensures _ _ _ c.until_race-reach.ensures.went c.if-to-next.false c.if-reach-to.false _ c.find-found.ensures)

pub overflow_add-result-2 : goal.overflow_add-result-2
overflow_add-result-2 c =
    omega (arith, race_bounds c.requires _ c.stretch-to.ensures _ _ _ c.until_race-reach.ensures.went c.if-to-next.false c.if-reach-to.false _ c.find-found.ensures)

pub returns-clause-goes : goal.returns-clause-goes
returns-clause-goes c =
    goes_past_race c.requires _ c.stretch-to.ensures _ _ _ c.until_race-reach.ensures.went c.if-to-next.false c.if-reach-to.false
    _ c.find-found.ensures _ (rw c.to_le_bytes.ensures refl)
