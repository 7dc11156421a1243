-- `writing::write` meets its contract: each return is one of the ways that `write_of` goes, and only the last of them has stored anything.
-- Assumes nothing.
use mathlib.Core.Path.{refl}
use native.Mathlib.Omega.{arith}
use Rattle.std.proofs.lemmas.Result.{err_from_is_err_and}
use Rattle.writing.proofs.Answers.{refuse_parts, refuse_events, refuse_room, give_bytes, written_count, left_written}
use Rattle.writing.proofs.Gives.{write_gives}
use Rattle.writing.proofs.write.Goals as goal

pub returns-in_err-parts_fit : goal.returns-in_err-parts_fit
returns-in_err-parts_fit c =
    let p = err_from_is_err_and c.from_residual.result c.from_residual.ensures.1 in
    let f = c.in_err-parts_fit.ensures in
    rw (p.1, p.2) (write_gives _ _ _ _ _ _ (refuse_parts _ _ _ _ _ f.value) refl (omega (arith, f.parts_bound)))

pub returns-in_err-trace : goal.returns-in_err-trace
returns-in_err-trace c =
    let p = err_from_is_err_and c.from_residual-in_err-trace.result c.from_residual-in_err-trace.ensures.1 in
    let t = c.in_err-trace.ensures in
    rw (p.1, p.2) (write_gives _ _ _ _ _ _ (refuse_events _ _ _ _ _ c.in_ok-parts_fit.ensures.value t.value) refl (omega (arith, t.trace_fits)))

pub returns-then-out-size : goal.returns-then-out-size
returns-then-out-size c =
    let e = refuse_room _ _ _ _ _ c.in_ok-parts_fit.ensures.value c.in_ok-trace.ensures.value c.if-out-size.true in
    rw c.into.ensures (write_gives _ _ _ _ _ _ e refl (omega arith))

pub returns : goal.returns
returns c =
    let e = give_bytes _ _ _ _ _ c.in_ok-parts_fit.ensures.value c.in_ok-trace.ensures.value c.if-out-size.false in
    let put = c.put_file.ensures in
    rw (written_count _ _ _ put) (write_gives _ _ _ _ _ _ e (left_written _ _ _ put) (omega arith, omega arith))
