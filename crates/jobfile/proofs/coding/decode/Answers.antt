-- `jobfile::coding::decode` meets its contract: the kind and the second byte, read as one number, tell the event of the four bytes
-- (`told_is`), since the kind is a byte. Assumes nothing.
use mathlib.Core.Path.{◌≡◌, ◌∙◌}
use Prim.Native.Nat.{◌+◌, ◌*◌, ◌<◌}
use native.Mathlib.Omega.{arith}
use lib.ListN.{get_or}
use Rattle.jobfile.proofs.Told.{told_is}
use Rattle.jobfile.proofs.coding.decode.Goals as goal

pub returns-clause-value : goal.returns-clause-value
returns-clause-value c =
    let bytes = c.args.part.now in
    let at = c.args.at in
    let byte : get_or bytes at 0 < 256 = omega (arith, c.type_inv.part at) in
    let kind : c.from_le_bytes-kind.result ≡ get_or bytes at 0 + 256 * get_or bytes (at + 1) 0 = c.from_le_bytes-kind.ensures ∙ omega arith in
    let number : c.from_le_bytes-number.result ≡ get_or bytes (at + 2) 0 + 256 * get_or bytes (at + 3) 0 = c.from_le_bytes-number.ensures ∙ omega arith in
    c.event_of.ensures.value ∙ rw (number, kind) (told_is _ _ _ byte)
