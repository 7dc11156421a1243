-- A call's table of refusals, and which row of it is given: of those that hold, the first in the call's order.
use Rattle.std.specs.Prelude.{ℕ, ◌≤◌, ◌<◌, ◌≡◌, ◌⊎◌, ◌↔◌, List, [], ◌∷◌}
use Rattle.trailer.specs.declared.fault.Fault.{Fault}
use Rattle.trailer.specs.Numbers.{number_of}

-- rows that are asked together: whether number n is a refusal of event m
abbrev pub Rows : Type 1
Rows = ℕ → ℕ → Type 0

-- a row that is of no event: "the event number for 8 to 12 (otherwise 0)"
abbrev pub row : ℕ → Type 0 → Rows
row number C n m = (n ≡ number) × (m ≡ 0) × C

-- none of the rows holds
abbrev pub Nowhere : Rows → Type 0
Nowhere rows = (n m : ℕ) → ¬ rows n m

-- "event by event", and of one event by number: row n holds of event m, none of an earlier event, none below n of the same event
pub record First (rows : Rows) (n m : ℕ) : Type 0 where
  pub holds : rows n m
  pub earliest : (n' m' : ℕ) → rows n' m' → m ≤ m'
  pub least : (n' : ℕ) → rows n' m → n ≤ n'

-- a call's rows in its order
abbrev pub Table : Type 1
Table = List Rows

-- "Given exactly if": the first that holds
abbrev pub Given : Table → ℕ → ℕ → Type 0
Given [] n m = ⊥
Given (rows ∷ table) n m = First rows n m ⊎ (Nowhere rows × Given table n m)

-- no row of the table holds
abbrev pub NoRow : Table → Type 0
NoRow [] = Unit {0}
NoRow (rows ∷ table) = Nowhere rows × NoRow table

-- An answer is exact by a table: it is the refusal of event m whose kind has number n exactly if the table gives these, and what a call
-- answers that is not refused exactly if no row holds. So a table that gives a number which no kind has fits no answer.
pub record Exact {A : Type 0} (table : Table) (taken : A) (refused : Fault → ℕ → A) (answer : A) : Type 0 where
  pub refusal : (n m : ℕ) → ((f : Fault) × (number_of f ≡ n) × (answer ≡ refused f m)) ↔ Given table n m
  pub none : (answer ≡ taken) ↔ NoRow table

-- The same of the paper's values of an answer, the number and the event of its refusal; number 0 is no refusal.
pub record ExactNumbers (table : Table) (number event : ℕ) : Type 0 where
  pub refusal : (n m : ℕ) → ((0 < n) × (number ≡ n) × (event ≡ m)) ↔ Given table n m
  pub none : (number ≡ 0) ↔ NoRow table
