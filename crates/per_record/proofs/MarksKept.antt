-- The marks from event to event: they tell which records have raced, they stay while none does, and one more is set where one does. Assumes
-- nothing.
use mathlib.Core.Path.{◌≡◌, refl, sym, ap, ◌∙◌}
use mathlib.Core.Logic.{◌⊎◌, inl, inr, ◌≢◌}
use mathlib.Core.List.{List}
use mathlib.Core.Bool.{false≢true}
use mathlib.Core.Option.{Option, none, some}
use Prim.Native.Nat.{ℕ, suc, ◌<◌}
use native.Mathlib.Omega.{arith}
use lib.ListN.{set, replicate, length-set, length-replicate, get_or-replicate}
use lib.Seq.{get_or-set_same, get_or-set_other}
use Rattle.std.specs.Prelude.{Option as Maybe, None, Some}
use Rattle.std.specs.Option.{is_some}
use Rattle.jobfile.specs.Trace.{event_at}
use Rattle.jobfile.specs.declared.event.Event.{Event}
use Rattle.races.specs.Trace.{record_of}
use Rattle.races.specs.Records.{second_of}
use Rattle.races.specs.Mark.{act_of, rules, event_trace}
use Rattle.races.proofs.Places.{none_yet}
use Rattle.races.proofs.Accesses.{same_or_not}
use Rattle.taking.specs.Turns.{Still, Races, FirstFound}
use Rattle.taking.specs.declared.Found.{Found}
use Rattle.taking.proofs.Turned.{raced_second, raced_others}
use Rattle.per_record.specs.declared.Mark.{Mark}
use Rattle.per_record.specs.Marks.{Marks, mark_in, low_bytes, mark_at, Marked}
use Rattle.per_record.proofs.Marking.{kind_back}

-- before any event none is set
pub blank_marked : (ev : ℕ → Event) → Marked ev 0 (replicate 4096 None)
blank_marked ev = record {
  size = length-replicate {A = Maybe Mark} 4096 None;
  marks = λ r l. get_or-replicate {A = Maybe Mark} 4096 r None None l ∙ rw (none_yet rules (event_trace ev) r);
}

-- the marks tell which records have raced
module _ {ev : ℕ → Event} {i : ℕ} {M : Marks} (marks : Marked ev i M) (r : ℕ) (below : r < 4096) where
  pub unmarked_unraced : mark_in M r ≡ None → second_of rules (event_trace ev) r i ≡ none
  unmarked_unraced e = go (second_of rules (event_trace ev) r i) refl
    where
      go : (o : Option ℕ) → second_of rules (event_trace ev) r i ≡ o → o ≡ none
      go none f = refl
      go (some j) f = let m : mark_in M r ≡ mark_at ev r (some j) = rw f at (marks.marks r below) in absurd (false≢true (ap is_some (sym e ∙ m)))

  pub marked_raced : (m : Mark) → mark_in M r ≡ Some m → (j : ℕ) × (second_of rules (event_trace ev) r i ≡ some j)
  marked_raced m e = go (second_of rules (event_trace ev) r i) refl
    where
      go : (o : Option ℕ) → second_of rules (event_trace ev) r i ≡ o → (j : ℕ) × (o ≡ some j)
      go none f = let n : mark_in M r ≡ None = rw f at (marks.marks r below) in absurd (false≢true (ap is_some (sym n ∙ e)))
      go (some j) f = (j, refl)

-- no record has raced on the way: the marks are those before event n too
pub still_marked : (part : List ℕ) (i n : ℕ) (M : Marks) → Still part i n → Marked (event_at part) i M → Marked (event_at part) n M
still_marked part i n M still marks =
    record { size = marks.size; marks = λ r l. marks.marks r l ∙ ap (mark_at (event_at part) r) (sym (still r)) }

-- one has: it is marked
module _ {part : List ℕ} {n : ℕ} (W : Races part n) (found : Found) (F : FirstFound part n found) where
  pub its_number : found.«record» ≡ W.number
  its_number = F.record_is ∙ ap (λ a. record_of (act_of a)) W.is_an_access

  pub raced_marked : found.«record» < 4096 → (m : Mark) → m ≡ record { kind = found.kind; second = low_bytes n } → (M : Marks) → Marked (event_at part) n M
      → Marked (event_at part) (suc n) (set M found.«record» (Some m))
  raced_marked below m e M marks = record {
    size = length-set M found.«record» (Some m) ∙ marks.size;
    marks = λ r l. go r l (same_or_not r found.«record»);
  }
    where
      go : (r : ℕ) → r < 4096 → (r ≡ found.«record») ⊎ (r ≢ found.«record»)
          → mark_in (set M found.«record» (Some m)) r ≡ mark_at (event_at part) r (second_of rules (event_trace (event_at part)) r (suc n))
      go r l (inl z) =
          let here : second_of rules (event_trace (event_at part)) found.«record» (suc n) ≡ some n = rw its_number (raced_second part n W) in
          rw (z, get_or-set_same M found.«record» (Some m) None (omega (arith, marks.size)), here, F.class_is, kind_back found.kind, e) refl
      go r l (inr z) =
          get_or-set_other M found.«record» r (Some m) None z ∙ marks.marks r l
          ∙ ap (mark_at (event_at part) r) (sym (raced_others part n W r (λ y. z (y ∙ sym its_number))))
