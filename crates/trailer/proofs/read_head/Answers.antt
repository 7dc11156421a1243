-- `jobfile::trailer::read_head` meets its contract: each return is one of the ways that `head_of` goes, and past the first two tests the head is
-- what `head_sized` makes of the three numbers that were read. Assumes nothing.
use Prim.Native.Nat.{◌-◌}
use mathlib.Core.Path.{◌≡◌, sym, ap, ◌∙◌}
use mathlib.Core.Bool.{cond}
use lib.ListN.{length}
use Rattle.std.specs.Prelude.{Ok, Err}
use Rattle.std.proofs.lemmas.Result.{err_from_is_err_and}
use Rattle.trailer.specs.declared.fault.Fault.TheVariants.{Name}
use Rattle.trailer.specs.Trailer.{head_of, head_sized}
use Rattle.trailer.proofs.NameAndTrailer.{head_short, head_mark, head_sized_lem, sized_fault, sized_name}
use Rattle.trailer.proofs.read_head.Goals as goal
use Rattle.trailer.proofs.read_head.Goals.{After-printable, After-start_in}

-- past the first two tests, the head is what `head_sized` makes of the numbers that were read
sized_is : (c : After-start_in)
    → let f = c.args.file.now in
    head_of f ≡ head_sized f (length f - 16) c.word-distance.result c.word-count.result c.word-records.result
sized_is c =
    head_sized_lem _ _ _ _ c.if-n-lt16.false (sym c.ends_with.ensures.value ∙ c.if-not-ends_with.false)
    c.word-distance.ensures.value c.word-count.ensures.value c.word-records.ensures.value

pub returns-then-n-lt16-clause-value : goal.returns-then-n-lt16-clause-value
returns-then-n-lt16-clause-value c =
    sym (head_short _ c.if-n-lt16.true)

pub returns-then-not-ends_with-clause-value : goal.returns-then-not-ends_with-clause-value
returns-then-not-ends_with-clause-value c =
    sym (head_mark _ c.if-n-lt16.false (sym c.ends_with.ensures.value ∙ c.if-not-ends_with.true))

pub returns-in_err-start-clause-value : goal.returns-in_err-start-clause-value
returns-in_err-start-clause-value c =
    let p = err_from_is_err_and c.from_residual.result c.from_residual.ensures.1 in
    p.1 ∙ ap Err p.2 ∙ sym (sized_is (goal.at.returns-in_err-start-clause-value c).After-start_in ∙ sized_fault _ _ _ _ _ _ c.in_err-start.ensures.value)

pub returns-in_err-start-clause-head_fits : goal.returns-in_err-start-clause-head_fits
returns-in_err-start-clause-head_fits c =
    let p = err_from_is_err_and c.from_residual.result c.from_residual.ensures.1 in
    rw (p.1, p.2) c.in_err-start.ensures.start_fits

-- with no fault in the numbers, the head is what `head_named` makes of the name
named_is : (c : After-printable)
    → let f = c.args.file.now in
    let start = c.in_ok-start.start in
    head_of f ≡ head_sized f (length f - 16) c.word-distance.result c.word-count.result c.word-records.result
    → head_of f ≡ cond c.printable.result (Ok (record { start = start; count = c.word-count.result; records = c.word-records.result })) (Err Name)
named_is c sized =
    sized ∙ sized_name _ _ _ _ _ _ c.printable.result c.in_ok-start.ensures.value c.printable.ensures

pub returns-then-not-printable-clause-value : goal.returns-then-not-printable-clause-value
returns-then-not-printable-clause-value c =
    let p = goal.at.returns-then-not-printable-clause-value c in
    sym (named_is p.After-printable (sized_is p.After-start_in) ∙ simp (c.if-not-printable.true))

pub returns-clause-value : goal.returns-clause-value
returns-clause-value c =
    let p = goal.at.returns-clause-value c in
    sym (named_is p.After-printable (sized_is p.After-start_in) ∙ simp (c.if-not-printable.false))
