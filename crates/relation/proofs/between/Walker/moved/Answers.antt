-- `relation::between::Walker::moved` meets its contract: at height 0 an end makes the start parallel, and a sync makes it not. Assumes nothing.
use mathlib.Core.Path.{◌≡◌, refl}
use native.Mathlib.Omega.{arith}
use Rattle.relation.proofs.between.Walker.moved.Goals as goal

pub returns-in-Closes-clause-result_value : goal.returns-in-Closes-clause-result_value
returns-in-Closes-clause-result_value c =
    let low : c.args.self.height ≡ 0 = omega arith in rw (c.in-Closes.is, low) refl

pub returns-in-Joins-clause-result_value : goal.returns-in-Joins-clause-result_value
returns-in-Joins-clause-result_value c =
    let low : c.args.self.height ≡ 0 = omega arith in rw (c.in-Joins.is, low) refl
