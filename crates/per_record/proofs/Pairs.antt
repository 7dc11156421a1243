-- The pair that a record's mark and its places tell is the record's own. Assumes nothing.
use mathlib.Core.Path.{◌≡◌, refl, sym, ap, ◌∙◌}
use mathlib.Core.List.{List}
use mathlib.Core.Bool.{true, false≢true}
use mathlib.Core.Option.{Option, none, some}
use Prim.Native.Nat.{ℕ, zero, suc, ◌+◌, ◌*◌, ◌≤◌, ◌<◌}
use native.Mathlib.Omega.{arith}
use lib.ListN.{get_or}
use Rattle.std.specs.Prelude.{None, Some}
use Rattle.jobfile.specs.declared.event.Event.{Event}
use Rattle.jobfile.specs.declared.event.Kind.{Kind}
use Rattle.jobfile.specs.declared.event.Kind.TheVariants.{Write, Read}
use Rattle.races.specs.Places.{held, finds, found_class, first_of, given, found}
use Rattle.races.specs.Records.{raced, second_of, stop_of, pair_of}
use Rattle.races.specs.Shown.{Shown}
use Rattle.races.specs.Mark.{rank, rules, layout, event_trace}
use Rattle.races.proofs.Search.{Least, least_is}
use Rattle.races.proofs.Found.{found_parts, places_enough}
use Rattle.races.proofs.Events.{lawful, fit}
use Rattle.per_record.specs.Listed.{pair_in}
use Rattle.per_record.specs.Marks.{Marks, mark_in, mark_of, Marked, pair_held}
use Rattle.per_record.proofs.Marking.{kind_back, low_bytes_back}

-- the kind of a class
kind_of_class : (c : ℕ) → c < 2 → (kind : Kind) × (rank kind ≡ c)
kind_of_class zero l = (Write, refl)
kind_of_class (suc zero) l = (Read, refl)
kind_of_class (suc (suc c)) l = absurd (omega arith)

rank_below : (kind : Kind) → rank kind < 2
rank_below Write = omega arith
rank_below Read = omega arith

module _ (ev : ℕ → Event) (r k : ℕ) where
  -- what the second of the record's race finds: something, at a place of the kind that it names
  pub record Finds (j : ℕ) : Type 0 where
    pub within : j < k
    pub kind : Kind
    pub class : found_class rules (event_trace ev) r j ≡ some (rank kind)
    pub first : ℕ
    pub holds : held rules (event_trace ev) r (rank kind) j ≡ some first
    pub names : first_of rules (event_trace ev) r j ≡ some first

  finds_first : (j f : ℕ) → j < k → first_of rules (event_trace ev) r j ≡ some f → (o : Option ℕ) → found_class rules (event_trace ev) r j ≡ o
      → Least (finds rules (event_trace ev) r j) 2 o → Finds j
  unfolding first_of
  finds_first j f h e none o l = let x : ◌≡◌ {A = Option ℕ} none (some f) = rw o at e in absurd (false≢true (ap given x))
  finds_first j f h e (some c) o l =
      let w = kind_of_class c l.0 in
      record { within = h; kind = w.0; class = rw w.1 o; first = f; holds = rw w.1 (rw o at e); names = e }

  second_finds : (j : ℕ) → second_of rules (event_trace ev) r k ≡ some j → Finds j
  second_finds j e =
      let T = event_trace ev in
      let l : Least (raced rules T r) k (some j) = rw e at (least_is (raced rules T r) k) in
      let t : found rules T r j ≡ true = sym (places_enough rules T (lawful ev) (fit ev) r j l.2) ∙ l.1 in
      let f = (found_parts rules T r j t).1 in
      finds_first j f.0 l.0 f.1 (found_class rules T r j) refl (least_is (finds rules T r j) 2)

  module _ {records : ℕ} {M : Marks} {P₀ P : List ℕ} (marks : Marked ev k M) (shown : Shown rules (event_trace ev) layout k records P₀ P)
      (few : k ≤ 1000000) (below : r < records) (fit : records ≤ 4096) where
    held_none : second_of rules (event_trace ev) r k ≡ none → pair_held M P r ≡ pair_in ev k r
    unfolding pair_of
    held_none e = let m : mark_in M r ≡ None = marks.marks r (omega arith) ∙ rw e in rw (m, e) refl

    held_some : (j : ℕ) → second_of rules (event_trace ev) r k ≡ some j → pair_held M P r ≡ pair_in ev k r
    unfolding pair_of stop_of
    held_some j e =
        let F = second_finds j e in
        let m : mark_in M r ≡ Some (mark_of (rank F.kind) j) = marks.marks r (omega arith) ∙ rw (e, F.class) in
        let event : get_or P (8192 * rank F.kind + r) 0 ≡ F.first =
        shown.event r (rank F.kind) (record { on_its_record = below; below = rank_below F.kind }) ∙ rw (e, F.holds) in
        rw (m, kind_back F.kind, event, e, F.names, low_bytes_back j (omega (arith, F.within))) refl

    pub pair_held_lem : pair_held M P r ≡ pair_in ev k r
    pair_held_lem = go (second_of rules (event_trace ev) r k) refl
      where
        go : (o : Option ℕ) → second_of rules (event_trace ev) r k ≡ o → pair_held M P r ≡ pair_in ev k r
        go none e = held_none e
        go (some j) e = held_some j e
