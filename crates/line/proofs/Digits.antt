-- The digits of a number without leading zeros are what the standard library prints of it. Assumes nothing.
use Prim.Native.Nat.{ℕ, ◌+◌, ◌/◌, ◌%◌, ◌^◌, ◌<◌}
use native.Mathlib.Omega.{arith}
use mathlib.Core.Bool.{Bool, cond}
use mathlib.Core.Path.{◌≡◌, sym, ap}
use mathlib.Core.List.{List, [], ◌∷◌, ◌++◌}
use borrow.Author.Tests.{lt-ltb, le-ltb}
use Rattle.std.specs.Fmt.{decimal}
use Rattle.std.proofs.lemmas.Fmt.{AppendsLastDigit, decimal_from_appends, length-decimal-le}
use Rattle.line.specs.Text.{digits_within, digits_of}

-- by the test that says whether one digit is enough
abbrev told : ℕ → ℕ → Bool → List ℕ
told k n one = cond one ((48 + n) ∷ []) (digits_within k (n / 10) ++ ((48 + n % 10) ∷ []))

appended : AppendsLastDigit digits_within
unfolding digits_within
appended = record { one = λ k n h. ap (told k n) (lt-ltb n 10 h); more = λ k n h. ap (told k n) (le-ltb n 10 h) }

pub printed : (n : ℕ) → n < 2 ^ 64 → decimal n ≡ digits_of n
printed n small = sym (decimal_from_appends digits_within appended 20 n small (length-decimal-le 20 n (omega arith) (omega arith) small))
