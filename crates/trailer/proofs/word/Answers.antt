-- `trailer::word` meets its contract: the library's number of four bytes is `quad` of them. Assumes nothing.
use native.Mathlib.Omega.{arith}
use mathlib.Core.Path.{◌∙◌}
use Rattle.trailer.specs.Trailer.{word_at}
use Rattle.trailer.proofs.word.Goals as goal

pub returns-clause-value : goal.returns-clause-value
unfolding word_at
returns-clause-value c =
    c.from_le_bytes.ensures ∙ omega arith
