-- What is printed for an input that is too long, and for one that is not. Assumes nothing.
use Prim.Native.Nat.{ℕ, ◌≤◌, ◌<◌}
use native.Mathlib.Omega.{arith}
use mathlib.Core.Path.{◌≡◌, sym, ◌∙◌}
use mathlib.Core.List.{List, ◌++◌}
use lib.ListN.{length, length-append}
use borrow.Author.Tests.{lt-ltb, le-ltb}
use Rattle.line.specs.Text.{ascii}
use Rattle.line.specs.Line.{line_of}
use Rattle.judge.specs.Printed.{printed_of}

module _ (input : List ℕ) where
  pub long_printed : 65536 < length input → printed_of input ≡ ascii "too long\n"
  unfolding printed_of
  long_printed h = rw (lt-ltb 65536 (length input))

  pub line_printed : length input ≤ 65536 → printed_of input ≡ line_of input 8192 16384 16384
  unfolding printed_of
  line_printed h = rw (le-ltb 65536 (length input))

-- no byte past the first 65,537 is asked for, and none changes what is printed
pub rest_unread : (input rest : List ℕ) → 65536 < length input → printed_of (input ++ rest) ≡ printed_of input
rest_unread input rest h = long_printed (input ++ rest) (omega (arith, length-append input rest)) ∙ sym (long_printed input h)
