-- What the theory of races reads of a trace: what each event does with which record, which events are parallel, the strand of each.
-- It knows no kind of event, no task and no label: any trace whose `par` is lawful will do.
use Rattle.std.specs.Prelude.{◌≡◌, Bool, false, ◌&&◌, ℕ, ◌≤◌, eqb}

-- an access of a class to a record, or none
pub data Act : Type 0 where
  other : Act
  access : (r c : ℕ) → Act

pub record Trace : Type 0 where
  pub act : ℕ → Act
  -- of events i ≤ j: i is parallel to j
  pub par : ℕ → ℕ → Bool
  pub strand : ℕ → ℕ

-- with c false: before is transitive; with c true: parallel is transitive along the trace (pseudotransitivity)
pub record Lawful (T : Trace) : Type 0 where
  pub self : (n : ℕ) → T.par n n ≡ false
  pub passes : (c : Bool) (i j k : ℕ) → i ≤ j → j ≤ k → T.par i j ≡ c → T.par j k ≡ c → T.par i k ≡ c

-- an access to record r
abbrev pub on_record : ℕ → Act → Bool
on_record r other = false
on_record r (access q c) = eqb q r

-- an access of class c to record r
abbrev pub is_of : ℕ → ℕ → Act → Bool
is_of r c other = false
is_of r c (access q d) = eqb q r && eqb d c

abbrev pub class_of : Act → ℕ
class_of other = 0
class_of (access r c) = c

abbrev pub record_of : Act → ℕ
record_of other = 0
record_of (access r c) = r
