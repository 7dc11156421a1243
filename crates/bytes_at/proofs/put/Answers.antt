-- `bytes_at::put` meets its contract: the library's copy, to the part of the buffer from `at` on. Assumes nothing.
use mathlib.Core.Path.{refl}
use Rattle.bytes_at.proofs.Puts.{copied_in}
use Rattle.bytes_at.proofs.put.Goals as goal

pub returns : goal.returns
returns c = copied_in _ _ _ _ c.requires c.copy_from_slice.ensures.after _ _ refl refl
