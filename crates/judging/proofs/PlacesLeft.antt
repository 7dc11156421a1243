-- The places that a call of `judge` leaves: of each record of the job the last write and the standing read, by the definition, just before
-- the racing event, or after k events. Assumes nothing.
use mathlib.Core.List.{List}
use Prim.Native.Nat.{ℕ, ◌<◌}
use native.Mathlib.Omega.{arith}
use Rattle.jobfile.specs.File.{check_of, record_count}
use Rattle.races.proofs.Named.{Entries, stop_entries}
use Rattle.taking.specs.Buffers.{Buffers}
use Rattle.std.specs.Prelude.{Result}
use Rattle.jobfile.specs.declared.refusal.Refusal.{Refusal}
use Rattle.judging.specs.declared.Answer.{Answer}
use Rattle.judging.specs.Leaves.{shown_at}
use Rattle.judging.specs.Gives.{JudgeGives}
use Rattle.judging.specs.Terms.{events_in, Judgeable}
use Rattle.judging.proofs.Judged.{rooted}
use Rattle.judging.proofs.Reported.{fits_shows, fits_stop}

pub places_left : (file : List ℕ) (k : ℕ) (B₀ : Buffers) → Judgeable file k B₀ → (r : Result Answer Refusal) (B : Buffers) → JudgeGives file k B₀ r B
    → (q : ℕ) → q < record_count (check_of file) → Entries (events_in file) (shown_at k r) q B.places
places_left file k B₀ T r B F q h =
    rw (← fits_stop file k B₀ T r B F)
    (stop_entries (events_in file) k (record_count (check_of file)) B₀.places B.places (rooted file k B₀ T k (omega arith))
    (fits_shows file k B₀ T r B F).places q h)
