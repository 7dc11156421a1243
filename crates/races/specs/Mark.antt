-- What the mark `VJT1` says: the two kinds of access as classes, the rules of the places, where the lent buffer has them, and how a trace
-- of events is read.
use Rattle.std.specs.Prelude.{Bool, false, ◌||◌, ℕ, zero, suc, ◌+◌, ◌*◌, eqb}
use Rattle.jobfile.specs.Events.{access_of}
use Rattle.jobfile.specs.Trace.{moves}
use Rattle.jobfile.specs.declared.event.Event.{Event}
use Rattle.jobfile.specs.declared.event.Kind.{Kind}
use Rattle.jobfile.specs.declared.event.Kind.TheVariants.{Write, Read}
use Rattle.jobfile.specs.declared.event.Access.{Access}
use Rattle.std.specs.Prelude.{Option, None, Some}
use Rattle.relation.specs.Strand.{strand_at}
use Rattle.relation.specs.Walk.{par}
use Rattle.races.specs.Trace.{Act, other, access, Trace}
use Rattle.races.specs.Rules.{Rules}
use Rattle.races.specs.Entries.{Layout}

-- the order of naming: the last write, "otherwise the standing read"
abbrev pub rank : Kind → ℕ
rank Write = 0
rank Read = 1

abbrev pub act_of : Option Access → Act
act_of None = other
act_of (Some a) = access a.«record» (rank a.kind)

abbrev pub is_write : ℕ → Bool
is_write c = eqb c 0

-- two classes, write and read; "at least one a write"; the place of the writes holds the last one, that of the reads the standing one
abbrev pub rules : Rules
rules = record { classes = 2; clash = λ a b. is_write a || is_write b; latest = is_write }

-- "last write's event at r, its strand at 4,096 + r, standing read's event at 8,192 + r, its strand at 12,288 + r"
abbrev pub layout : Layout
layout = record { spot = λ r c. 8192 * c + r; gap = 4096; classes = 2 }

-- two answers of an engine, by class: whether the last write, and the standing read, is parallel
abbrev pub two : Bool → Bool → ℕ → Bool
two wrote stood zero = wrote
two wrote stood (suc zero) = stood
two wrote stood (suc (suc c)) = false

-- a trace of events
abbrev pub event_trace : (ℕ → Event) → Trace
event_trace ev = record { act = λ n. act_of (access_of (ev n)); par = par (moves ev); strand = strand_at (moves ev) }
