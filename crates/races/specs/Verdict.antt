-- What judging the first k events of a trace of events answers, and what each record's two places hold, computed: the code's contracts cite
-- these, and nobody needs to believe them. proofs/LastAndStanding.antt and proofs/Named.antt say what they are by the definition.
use Rattle.std.proofs.Math.Option.{Option}
use Rattle.std.specs.Prelude.{ℕ}
use Rattle.jobfile.specs.declared.event.Event.{Event}
use Rattle.jobfile.specs.declared.event.Kind.TheVariants.{Write, Read}
use Rattle.races.specs.Places.{held}
use Rattle.races.specs.Records.{Verdict, verdict_in, stop_in}
use Rattle.races.specs.Mark.{rank, rules, event_trace}

module _ (ev : ℕ → Event) where
  -- the places of record r just before event n
  abbrev pub last_write : ℕ → ℕ → Option ℕ
  last_write r n = held rules (event_trace ev) r (rank Write) n

  abbrev pub standing : ℕ → ℕ → Option ℕ
  standing r n = held rules (event_trace ev) r (rank Read) n

  -- the verdict of the first k events, and up to which event the buffers show them
  abbrev pub verdict : ℕ → Verdict
  verdict k = verdict_in rules (event_trace ev) k

  abbrev pub stop_at : ℕ → ℕ
  stop_at k = stop_in rules (event_trace ev) k
