-- The race, by the definition.
use Rattle.std.specs.Prelude.{◌≡◌, Bool, true, false, ℕ, ◌<◌}
use Rattle.jobfile.specs.Events.{access_of}
use Rattle.jobfile.specs.Trace.{moves}
use Rattle.jobfile.specs.declared.event.Event.{Event}
use Rattle.jobfile.specs.declared.event.Kind.{Kind}
use Rattle.jobfile.specs.declared.event.Kind.TheVariants.{Write, Read}
use Rattle.jobfile.specs.Events.{access_to}
use Rattle.relation.specs.Parallel.{Parallel}

-- "two accesses [..], at least one a write"
abbrev pub conflict : Kind → Kind → Bool
conflict Write b = true
conflict Read Write = true
conflict Read Read = false

-- "A race: two accesses to one record, at least one a write, parallel."
pub record Race (ev : ℕ → Event) (m j : ℕ) : Type 0 where
  pub number : ℕ
  pub first_kind : Kind
  pub second_kind : Kind
  pub earlier : m < j
  pub first : access_of (ev m) ≡ access_to first_kind number
  pub second : access_of (ev j) ≡ access_to second_kind number
  pub clash : conflict first_kind second_kind ≡ true
  pub parallel : Parallel (moves ev) m j
