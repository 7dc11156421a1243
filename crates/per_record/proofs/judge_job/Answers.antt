-- `judge_job` meets its contract: a test that fails stores nothing; otherwise the answer, the buffers and the lists are those of the run over
-- all k events and of the list of the records. Assumes nothing.
use mathlib.Core.Path.{refl, sym, ◌∙◌}
use Prim.Native.Nat.{◌≤◌}
use native.Mathlib.Omega.{arith}
use Rattle.std.proofs.lemmas.Result.{err_from_is_err_and}
use Rattle.jobfile.proofs.Checking.{accepted_fits}
use Rattle.judging.proofs.Files.{file_run}
use Rattle.per_record.proofs.MarksKept.{blank_marked}
use Rattle.per_record.proofs.Files.{records_refused, records_short, records_run, ran_judged, ran_listed, leaves_run}
use Rattle.per_record.proofs.Gives.{records_gives}
use Rattle.per_record.proofs.judge_job.Goals as goal

pub returns-in_err-judgeable-clause-gives : goal.returns-in_err-judgeable-clause-gives
returns-in_err-judgeable-clause-gives c =
    let p = err_from_is_err_and c.from_residual.result c.from_residual.ensures.1 in
    rw (p.1, p.2) (records_gives _ _ _ _ _ _ _ (records_refused _ _ _ _ _ c.requires _ c.in_err-judgeable.ensures.value) (refl, refl))

pub returns-then-short-clause-gives : goal.returns-then-short-clause-gives
returns-then-short-clause-gives c =
    let too_short = sym c.if-short.true ∙ c.short.ensures in
    records_gives _ _ _ _ _ _ _
    (rw c.into.ensures (records_short _ _ _ _ _ c.requires c.in_ok-judgeable.ensures.value too_short)) (refl, refl)

pub part-requires : goal.part-requires
part-requires c =
    omega (arith, accepted_fits _ _ c.requires)

pub run-state-requires-clause-run : goal.run-state-requires-clause-run
run-state-requires-clause-run c =
    rw c.part.ensures.bytes (file_run _ _ _ c.requires c.in_ok-judgeable.ensures.judgeable_bound.0)

pub run-state-requires-clause-marked : goal.run-state-requires-clause-marked
run-state-requires-clause-marked c =
    blank_marked _

pub list-raced-requires-clause-count_bound : goal.list-raced-requires-clause-count_bound
list-raced-requires-clause-count_bound c =
    ((accepted_fits _ _ c.requires).4, omega (arith, c.run-state.ensures.ran.shows.places.size, c.in_ok-judgeable.ensures.judgeable_bound.3))

pub returns-clause-gives : goal.returns-clause-gives
returns-clause-gives c =
    let ran = rw c.part.ensures.bytes at c.run-state.ensures.ran in
    let f = accepted_fits _ _ c.requires in
    let few : c.args.k ≤ 1000000 = omega (arith, f.2, c.in_ok-judgeable.ensures.judgeable_bound.0) in
    let all_long = sym c.if-short.false ∙ c.short.ensures in
    records_gives _ _ _ _ _ _ _
    (records_run _ _ _ _ _ c.requires c.in_ok-judgeable.ensures.value all_long _ (ran_judged ran few f.4 _ c.list-raced.ensures.value c.into-2.ensures))
    (leaves_run _ _ _ _ _ _ _ c.requires ran.shows (ran_listed ran few f.4 _ _ c.list-raced.ensures.entered))
