-- What the places of a record hold, one for each class, and which of them an access finds.
use Rattle.std.specs.Prelude.{Bool, true, false, cond, ◌&&◌, ℕ, zero, suc}
use Rattle.std.proofs.Math.Option.{Option, none, some}
use Rattle.races.specs.Search.{least}
use Rattle.races.specs.Trace.{Trace, is_of, on_record, class_of}
use Rattle.races.specs.Rules.{Rules}

-- what a place holds passes; an empty place does not
abbrev pub holds : (ℕ → Bool) → Option ℕ → Bool
holds test none = false
holds test (some m) = test m

-- it holds something
abbrev pub given : Option ℕ → Bool
given none = false
given (some m) = true

-- "The first [..] stands; a later [one] takes its place exactly if the standing one is before it"; where the last one is kept, always
abbrev pub stood : Bool → (ℕ → Bool) → ℕ → Option ℕ → Option ℕ
stood latest parallel n none = some n
stood true parallel n (some s) = some n
stood false parallel n (some s) = cond (parallel s) (some s) (some n)

module _ (T : Trace) where
  -- m is parallel to event j
  abbrev pub par_to : ℕ → ℕ → Bool
  par_to j m = T.par m j

  -- what the place of a class of events holds just before event n
  unfoldable pub held_of : Bool → (ℕ → Bool) → ℕ → Option ℕ
  held_of latest class zero = none
  held_of latest class (suc n) = cond (class n) (stood latest (par_to n) n (held_of latest class n)) (held_of latest class n)

module _ (R : Rules) (T : Trace) where
  abbrev pub in_class : ℕ → ℕ → ℕ → Bool
  in_class r c n = is_of r c (T.act n)

  -- the place of class c of record r just before event n
  abbrev pub held : ℕ → ℕ → ℕ → Option ℕ
  held r c n = held_of T (R.latest c) (in_class r c) n

  -- event n conflicts with what the place of class c of record r holds, and that is parallel to it
  abbrev pub finds : ℕ → ℕ → ℕ → Bool
  finds r n c = R.clash c (class_of (T.act n)) && holds (par_to T n) (held r c n)

  -- the class that is named first
  abbrev pub found_class : ℕ → ℕ → Option ℕ
  found_class r n = least (finds r n) R.classes

  abbrev pub first_in : ℕ → ℕ → Option ℕ → Option ℕ
  first_in r n none = none
  first_in r n (some c) = held r c n

  -- the access that event n is to be named with, on record r
  unfoldable pub first_of : ℕ → ℕ → Option ℕ
  first_of r n = first_in r n (found_class r n)

  -- event n is an access of record r that finds something at its places
  unfoldable pub found : ℕ → ℕ → Bool
  found r n = on_record r (T.act n) && given (first_of r n)
