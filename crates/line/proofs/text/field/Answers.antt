-- `field` meets its contract: what is put behind the word is the number as the standard library prints it. Assumes nothing.
use native.Mathlib.Omega.{arith}
use mathlib.Core.List.{append_assoc}
use mathlib.Core.Path.{refl}
use Rattle.line.proofs.Digits.{printed}
use Rattle.line.proofs.text.field.Goals as goal

pub returns-clause-put : goal.returns-clause-put
returns-clause-put g c =
    rw (c.put-2.ensures.put, c.put.ensures.put, c.as_bytes.ensures.value, c.format.ensures.text, printed c.args.n (omega arith)) (simp append_assoc refl)
