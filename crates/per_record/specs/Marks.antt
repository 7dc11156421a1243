-- The marks of the records, which the call keeps for itself: of one that has raced, which event was the second and which of its places holds
-- the first; it is frozen from then on.
use Rattle.std.specs.Prelude.{◌≡◌, List, Bool, true, false, ℕ, zero, suc, ◌+◌, ◌*◌, ◌≤◌, ◌<◌, length, get_or, min, Option, None, Some, [], ◌∷◌, take}
use Rattle.std.specs.Option.{is_some}
use Rattle.std.specs.Int.{w32, to_le_bytes, from_le_bytes}
use Rattle.std.proofs.Math.Option
use Rattle.std.proofs.Math.Option.{none, some}
use Rattle.jobfile.specs.Events.{access_of, access_to}
use Rattle.jobfile.specs.Trace.{event_at}
use Rattle.jobfile.specs.declared.event.Event.{Event}
use Rattle.jobfile.specs.declared.event.Kind.{Kind}
use Rattle.jobfile.specs.declared.event.Kind.TheVariants.{Write, Read}
use Rattle.jobfile.specs.declared.event.Access.{Access}
use Rattle.races.specs.Places.{found_class}
use Rattle.races.specs.Records.{Pair, no_pair, pair, second_of}
use Rattle.races.specs.Mark.{rank, rules, event_trace}
use Rattle.per_record.specs.declared.Mark.{Mark}

-- record r has entry r; None if it has not raced
abbrev pub Marks : Type 0
Marks = List (Option Mark)

abbrev pub mark_in : Marks → ℕ → Option Mark
mark_in M r = get_or M r None

-- the kind whose rank it is: there are two classes
abbrev pub kind_of : ℕ → Kind
kind_of zero = Write
kind_of (suc class) = Read

-- a number below 2^24 as its three bytes, the low one first, and back
abbrev pub low_bytes : ℕ → List ℕ
low_bytes n = take 3 (to_le_bytes w32 n)

abbrev pub of_low_bytes : List ℕ → ℕ
of_low_bytes bytes = from_le_bytes w32 (get_or bytes 0 0 ∷ get_or bytes 1 0 ∷ get_or bytes 2 0 ∷ 0 ∷ [])

-- the mark for the class of the first and for the second
abbrev pub mark_of : ℕ → ℕ → Mark
mark_of class second = record { kind = kind_of class; second = low_bytes second }

-- the mark of record r, by its second and what that finds
module _ (ev : ℕ → Event) where
  abbrev pub mark_at : ℕ → Option.Option ℕ → Option Mark
  mark_at r none = None
  mark_at r (some j) = Some (mark_of (Option.get_or (found_class rules (event_trace ev) r j) 0) j)

  -- M holds the marks just before event i
  pub record Marked (i : ℕ) (M : Marks) : Type 0 where
    pub size : length M ≡ 4096
    pub marks : (r : ℕ) → r < 4096 → mark_in M r ≡ mark_at r (second_of rules (event_trace ev) r i)

-- an access of a record that is marked
abbrev pub of_marked : Marks → Option Access → Bool
of_marked M None = false
of_marked M (Some a) = is_some (mark_in M a.«record»)

-- event i is one
abbrev pub frozen_at : List ℕ → Marks → ℕ → Bool
frozen_at part M i = of_marked M (access_of (event_at part i))

-- the record of event i, if it has one, has an entry among the marks
abbrev pub HasMark : List ℕ → ℕ → Type 0
HasMark part i = (kind : Kind) (r : ℕ) → access_of (event_at part i) ≡ access_to kind r → r < 4096

-- the end of a stretch of 64 events, or k if that is nearer
abbrev pub stretch_end : ℕ → ℕ → ℕ
stretch_end from k = min k (from + 64)

-- r is the first event from `from` on that passes, or `end` if none does before that
pub record FirstFrom (test : ℕ → Bool) (from end r : ℕ) : Type 0 where
  pub onward : from ≤ r
  pub within : r ≤ end
  pub passed : (m : ℕ) → from ≤ m → m < r → test m ≡ false
  pub stops : r < end → test r ≡ true

-- the pair of record r that a mark of it and the places tell
abbrev pub pair_by : Option Mark → List ℕ → ℕ → Pair
pair_by None P r = no_pair
pair_by (Some m) P r = pair (get_or P (8192 * rank m.kind + r) 0) (of_low_bytes m.second)

abbrev pub pair_held : Marks → List ℕ → ℕ → Pair
pair_held M P r = pair_by (mark_in M r) P r
