-- `jobfile::check` meets its contract: a refused head is the answer, and so is the answer of the events behind a whole one. Assumes nothing.
use native.Mathlib.Omega.{arith}
use mathlib.Core.Path.{sym}
use Rattle.std.proofs.lemmas.Result.{err_from_is_err_and}
use Rattle.jobfile.proofs.Checking.{check_head, check_events}
use Rattle.jobfile.proofs.Gives.{check_gives}
use Rattle.jobfile.proofs.check.Goals as goal

pub returns-in_err-head : goal.returns-in_err-head
returns-in_err-head c =
    let p = err_from_is_err_and c.from_residual.result c.from_residual.ensures.1 in
    let f = c.in_err-head.ensures in
    rw (p.1, p.2) (check_gives _ _ (sym (check_head _ _ (sym f.value))) (omega (arith, f.head_fits)))

pub returns-in_err-strands : goal.returns-in_err-strands
returns-in_err-strands c =
    let p = err_from_is_err_and c.from_residual-in_err-strands.result c.from_residual-in_err-strands.ensures.1 in
    let t = c.in_err-strands.ensures in
    rw (p.1, p.2) (check_gives _ _ (sym (check_events _ _ _ _ _ (sym c.in_ok-head.ensures.value) t.value)) t.trace_fits.1)

pub returns : goal.returns
returns c =
    let h = c.in_ok-head.ensures in
    let t = c.in_ok-strands.ensures in
    check_gives _ _ (sym (check_events _ _ _ _ _ (sym h.value) t.value)) (omega (arith, h.head_fits, t.trace_fits))
