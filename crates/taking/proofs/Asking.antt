-- The labels tell the truth about the places of a record that has not raced: so an access of it may be judged, whatever other records have
-- met. Assumes nothing.
use mathlib.Core.Path.{◌≡◌, refl, ap, ◌∙◌}
use mathlib.Core.List.{List}
use mathlib.Core.Bool.{Bool}
use mathlib.Core.Option.{none}
use Prim.Native.Nat.{ℕ, zero, suc, ◌+◌, ◌*◌, ◌-◌, ◌≤◌, ◌<◌}
use native.Mathlib.Omega.{arith}
use lib.ListN.{length, get_or}
use lib.Dec.{ltb}
use borrow.Author.Tests.{lt-ltb, le-ltb}
use Rattle.jobfile.specs.Accepted.{RecordBelow}
use Rattle.jobfile.specs.Events.{access_of}
use Rattle.jobfile.specs.Trace.{event_at, moves}
use Rattle.jobfile.specs.declared.event.Kind.{Kind}
use Rattle.jobfile.specs.Events.{access_to}
use Rattle.relation.specs.Parallel.{Rooted}
use Rattle.relation.specs.Strand.{strand_at}
use Rattle.relation.proofs.Strand.{begun_some, begun_rises}
use Rattle.strands.specs.Memory.{OpenTasks}
use Rattle.strands.specs.declared.Now.{Now}
use Rattle.strands.proofs.States.{tells}
use Rattle.races.specs.Places.{holds, par_to, held}
use Rattle.races.specs.Records.{second_of}
use Rattle.races.specs.Entries.{HasPlace}
use Rattle.races.specs.Shown.{Arriving}
use Rattle.races.specs.Mark.{rank, act_of, rules, layout, two, event_trace}
use Rattle.races.proofs.Shown.{told_by}
use Rattle.races.proofs.Mark.{places_laid}
use Rattle.races.proofs.Events.{lawful, fit}
use Rattle.taking.specs.Buffers.{Buffers, orders_in}
use Rattle.taking.specs.Asking.{held_or, held_above}
use Rattle.taking.specs.Turns.{Run, Midway}

pub run_rooted : {part : List ℕ} {records k : ℕ} → Run part records k → (n : ℕ) → n ≤ k → Rooted (moves (event_at part)) n
run_rooted R n h m l = R.accepted.rooted m (omega (arith, R.within))

module _ {part : List ℕ} {records k : ℕ} {B₀ B : Buffers} {T : OpenTasks} {now : Now} {i : ℕ}
    (R : Run part records k) (next : i < k) (S : Midway part records B₀ B T now i) where
  -- the current strand, and that the strand of every event so far has a label
  strand_is : now.strands - 1 ≡ strand_at (moves (event_at part)) i
  strand_is = ap (λ (s : ℕ). s - 1) S.reached.strands

  labelled : (m : ℕ) → m ≤ i → strand_at (moves (event_at part)) m < 4096
  labelled m l =
      let mv = moves (event_at part) in
      omega (arith, begun_some mv m, begun_rises mv m i l, R.accepted.few i (omega (arith, R.within)))

  -- the record of an access is below the count
  pub on_its_record : (kind : Kind) (r : ℕ) → access_of (event_at part i) ≡ access_to kind r → r < records
  on_its_record kind r e = let b : RecordBelow records (access_to kind r) = rw e at (R.accepted.record_below i (omega (arith, R.within))) in b

  -- the current strand has a label
  pub current_labelled : now.strands - 1 < 4096
  current_labelled = omega (arith, strand_is, labelled i (omega arith))

  -- what asking a place answers
  asked : (r c : ℕ) → HasPlace layout records r c → second_of rules (event_trace (event_at part)) r i ≡ none
      → held_above B.labels B.places (8192 * c + r) (now.strands - 1)
      ≡ holds (par_to (event_trace (event_at part)) i) (held rules (event_trace (event_at part)) r c i)
  unfolding held_or
  asked r c here unraced =
      let L = B.labels in
      let s = now.strands - 1 in
      told_by rules (event_trace (event_at part)) layout records B₀.places (lawful (event_at part)) i B.places S.shown r c here unraced
      (λ held. ltb (get_or L (4096 + s) 0) (get_or L (4096 + held_or held s) 0))
      (le-ltb (get_or L (4096 + s) 0) (get_or L (4096 + s) 0) (omega arith))
      (λ m l.
      rw (lt-ltb (strand_at (moves (event_at part)) m) 4096 (labelled m (omega arith)), strand_is)
      (tells (moves (event_at part)) i (orders_in B₀) (orders_in B) T now S.reached (run_rooted R i (omega arith)) m (omega arith)))

  asked_both : (r : ℕ) → r < records → second_of rules (event_trace (event_at part)) r i ≡ none → (wrote stood : Bool)
      → wrote ≡ held_above B.labels B.places r (now.strands - 1) → stood ≡ held_above B.labels B.places (8192 + r) (now.strands - 1)
      → (c : ℕ) → c < 2 → two wrote stood c ≡ holds (par_to (event_trace (event_at part)) i) (held rules (event_trace (event_at part)) r c i)
  asked_both r h unraced wrote stood w s zero l =
      let e : 8192 * 0 + r ≡ r = omega arith in
      w ∙ (rw e at (asked r 0 (record { on_its_record = h; below = l }) unraced))
  asked_both r h unraced wrote stood w s (suc zero) l =
      let e : 8192 * 1 + r ≡ 8192 + r = omega arith in
      s ∙ (rw e at (asked r 1 (record { on_its_record = h; below = l }) unraced))
  asked_both r h unraced wrote stood w s (suc (suc c)) l = absurd (omega arith)

  -- so the next event, if it is an access to a record that has not raced, may be judged
  pub arriving : (kind : Kind) (r : ℕ) → access_of (event_at part i) ≡ access_to kind r → second_of rules (event_trace (event_at part)) r i ≡ none
      → (wrote stood : Bool) → wrote ≡ held_above B.labels B.places r (now.strands - 1) → stood ≡ held_above B.labels B.places (8192 + r) (now.strands - 1)
      → Arriving rules (event_trace (event_at part)) layout i records B₀.places B.places r (rank kind) i (now.strands - 1) (two wrote stood)
  arriving kind r e unraced wrote stood w s = record {
    facing = record {
      law = lawful (event_at part);
      fit = fit (event_at part);
      is_an_access = ap act_of e;
      unraced = unraced;
      tells = λ c l z. asked_both r (on_its_record kind r e) unraced wrote stood w s c l;
    };
    shown = S.shown;
    laid = places_laid records (length B.places) R.records_within S.places_room;
    on_its_record = on_its_record kind r e;
    number = refl;
    number_fits = omega (arith, R.within, R.small);
    strand_is = strand_is;
    strand_fits = omega (arith, labelled i (omega arith));
  }
