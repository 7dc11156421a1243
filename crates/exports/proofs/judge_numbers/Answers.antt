-- `exports::judge_numbers` meets its contract: each arm gives the numbers of its case. Assumes nothing.
use mathlib.Core.Path.{◌≡◌, sym, ap, ◌∙◌}
use Rattle.std.specs.Prelude.{Ok}
use Rattle.std.proofs.Common.{rules}
use Rattle.judging.specs.declared.Answer.TheVariants.{Clean, Race}
use Rattle.exports.specs.Numbers.{judge_numbers}
use Rattle.exports.proofs.judge_numbers.Goals as goal

pub returns-in-Ok-Clean : goal.returns-in-Ok-Clean
returns-in-Ok-Clean c =
    let w = c.in-Ok-Clean in
    let its : c.args.a ≡ Ok (Clean w.counts) = search rules in sym (ap judge_numbers its)

pub returns-in-Ok-Race : goal.returns-in-Ok-Race
returns-in-Ok-Race c =
    let w = c.in-Ok-Race in
    let its : c.args.a ≡ Ok (Race w.first w.second w.«record» w.counts) = search rules in sym (ap judge_numbers its)

pub returns-in-Err : goal.returns-in-Err
returns-in-Err c =
    c.refused.ensures ∙ sym (ap judge_numbers c.in-Err.is)
