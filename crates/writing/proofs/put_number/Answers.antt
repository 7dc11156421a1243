-- `writing::put_number` meets its contract: four bytes are put from `at` on. Assumes nothing.
use mathlib.Core.Path.{◌≡◌, subst, ap}
use mathlib.Core.List.{List}
use Prim.Native.Nat.{ℕ}
use lib.ListN.{take}
use Rattle.bytes_at.specs.Put.{Put}
use Rattle.writing.specs.Written.{four}
use Rattle.writing.proofs.put_number.Goals as goal

pub returns-clause-put : goal.returns-clause-put
unfolding four
returns-clause-put c =
    let bytes : take 4 c.to_le_bytes.result ≡ four c.args.n = ap (take 4) c.to_le_bytes.ensures in
    subst (λ (l : List ℕ). Put c.args.out.now c.args.at l c.put.result c.put.new.out) bytes c.put.ensures
