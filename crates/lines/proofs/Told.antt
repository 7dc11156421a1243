-- The text of an answer by the number raced: the clean line where it is 0, and else the lines and the last one. Assumes nothing.
use Prim.Native.Nat.{ℕ}
use mathlib.Core.Path.{◌≡◌}
use mathlib.Core.Logic.{◌≢◌}
use mathlib.Core.List.{List, ◌++◌}
use borrow.Author.Tests.{eq-eqb, ne_eqb}
use Rattle.line.specs.Text.{clean_text}
use Rattle.lines.specs.Text.{raced_text, judged_text}

module _ (lines : List ℕ) (raced strands english hebrew : ℕ) (name : List ℕ) where
  pub clean_told : raced ≡ 0 → clean_text strands english hebrew name ≡ judged_text lines raced strands english hebrew name
  unfolding judged_text
  clean_told e = rw (eq-eqb raced 0 e)

  pub raced_told : raced ≢ 0 → lines ++ raced_text raced strands english hebrew name ≡ judged_text lines raced strands english hebrew name
  unfolding judged_text
  raced_told e = rw (ne_eqb raced 0 e)
