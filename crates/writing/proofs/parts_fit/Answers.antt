-- `writing::parts_fit` meets its contract. The check finds this return's answer alone, as it does the others'; it stands here so that
-- records_before_name.edit is refused for what is false, that the name fits. Assumes nothing.
use mathlib.Core.Path.{◌≡◌, sym, ◌∙◌}
use mathlib.Core.Bool.{true}
use Rattle.writing.specs.Written.{name_fits, parts_fit}
use Rattle.writing.proofs.parts_fit.Goals as goal

pub returns-then-not-records_fit-clause-value : goal.returns-then-not-records_fit-clause-value
unfolding parts_fit
returns-then-not-records_fit-clause-value c =
    let named : name_fits c.args.name.now ≡ true = sym c.name_fits.ensures.value ∙ c.if-not-name_fits.false in
    sym (rw (named, ← c.records_fit.ensures, c.if-not-records_fit.true))
