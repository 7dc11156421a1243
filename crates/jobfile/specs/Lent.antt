-- A slice or an array that a call is lent to write to, when the call is made and when it returns. In an `ensures` a parameter's name is such a pair, so
-- a contract can hand it on whole.
use Rattle.std.specs.Prelude.{List, ℕ}
use Rattle.std.specs.Borrow.{MutBor}
use denote.Triple.Both.{Both}

abbrev pub Lent : Type 0
Lent = Both (MutBor (List ℕ)) (MutBor (List ℕ))

-- what it held, and what it holds
abbrev pub was : Lent → List ℕ
was x = x.entry.now

abbrev pub is : Lent → List ℕ
is x = x.exit.now
