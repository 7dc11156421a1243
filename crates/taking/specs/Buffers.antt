-- The three work buffers as lists, and as a call that is lent them has them.
use Rattle.std.specs.Prelude.{List, ℕ}
use Rattle.std.specs.Borrow.{MutBor}
use Rattle.jobfile.specs.Lent.{Lent}
use Rattle.strands.specs.Memory.{Memory}

pub record Buffers : Type 0 where
  pub labels : List ℕ
  pub links : List ℕ
  pub places : List ℕ

-- the two that hold both orders
abbrev pub orders_in : Buffers → Memory
orders_in B = record { labels = B.labels; links = B.links }

abbrev pub buffers : MutBor (List ℕ) → MutBor (List ℕ) → MutBor (List ℕ) → Buffers
buffers labels links places = record { labels = labels.now; links = links.now; places = places.now }

-- when the call is made, and when it returns
abbrev pub before : Lent → Lent → Lent → Buffers
before labels links places = buffers labels.entry links.entry places.entry

abbrev pub after : Lent → Lent → Lent → Buffers
after labels links places = buffers labels.exit links.exit places.exit
