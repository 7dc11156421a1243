-- A trace of events as the theory of races reads it: which access each act is, and that the trace is lawful, fits the rules and has the
-- parallel of the definition. Assumes nothing.
use mathlib.Core.Path.{◌≡◌, refl, sym, ap, ◌∙◌}
use mathlib.Core.Logic.{◌≢◌}
use mathlib.Core.Bool.{Bool, true, false, false≢true, ◌||◌}
use Prim.Native.Nat.{ℕ, ◌<◌}
use native.Mathlib.Omega.{arith}
use Rattle.jobfile.specs.Events.{access_of}
use Rattle.jobfile.specs.Trace.{moves}
use Rattle.jobfile.specs.declared.event.Event.{Event}
use Rattle.jobfile.specs.declared.event.Kind.{Kind}
use Rattle.jobfile.specs.declared.event.Kind.TheVariants.{Write, Read}
use Rattle.jobfile.specs.declared.event.Access.{Access}
use Rattle.std.specs.Prelude.{Option, None, Some}
use Rattle.jobfile.specs.Events.{access_to}
use Rattle.relation.specs.Parallel.{Parallel, Rooted}
use Rattle.relation.specs.Walk.{Walker}
use Rattle.relation.proofs.Agree.{walk_sound, walk_complete}
use Rattle.relation.proofs.Laws.{rooted_less}
use Rattle.relation.proofs.Walk.{walk_start, par_trans}
use Rattle.races.specs.Trace.{Act, other, access, Lawful, class_of, record_of}
use Rattle.races.specs.Rules.{Fit}
use Rattle.races.specs.Places.{in_class}
use Rattle.races.specs.Records.{Tied}
use Rattle.races.specs.Mark.{rank, act_of, is_write, rules, event_trace}
use Rattle.races.specs.Race.{conflict}
use Rattle.races.proofs.Found.{is_of_lem, of_is}
use Rattle.races.proofs.Mark.{last_clashes}

abbrev is_access : Act → Bool
is_access other = false
is_access (access r c) = true

-- which access a class of accesses is
pub access_of_lem : (a : Option Access) (r c : ℕ) → act_of a ≡ access r c → (kind : Kind) × (a ≡ access_to kind r) × (rank kind ≡ c)
access_of_lem None r c e = absurd (false≢true (ap is_access e))
access_of_lem (Some a) r c e = (a.kind, let z : a.«record» ≡ r = ap record_of e in rw z, ap class_of e)

rank_below : (kind : Kind) → rank kind < 2
rank_below Write = omega arith
rank_below Read = omega arith

rank_only : (a b : Kind) → rank a ≡ rank b → a ≡ b
rank_only Write Write e = refl
rank_only Write Read e = absurd (omega arith)
rank_only Read Write e = absurd (omega arith)
rank_only Read Read e = refl

-- "at least one a write", by kind and by class
pub clash_is : (a b : Kind) → (is_write (rank a) || is_write (rank b)) ≡ conflict a b
clash_is Write b = refl
clash_is Read Write = refl
clash_is Read Read = refl

module _ (ev : ℕ → Event) where
  -- what the theory assumes
  pub lawful : Lawful (event_trace ev)
  lawful = record { self = λ n. ap (λ (w : Walker). w.par) (walk_start (moves ev) n); passes = par_trans (moves ev) }

  pub fit : Fit rules (event_trace ev)
  fit = record {
    own = last_clashes;
    classed = λ n r c e. let w = access_of_lem (access_of (ev n)) r c e in rw w.2 at (rank_below w.0);
  }

  pub tied : (k : ℕ) → Rooted (moves ev) k → Tied (event_trace ev) (Parallel (moves ev)) k
  tied k root i j ij jk =
      let r = rooted_less (moves ev) j k (omega arith) root in
      (walk_complete (moves ev) i j r, walk_sound (moves ev) i j (omega arith) r)

  -- an access of a kind to a record, as the theory tests it
  pub of_kind : (kind : Kind) (r n : ℕ) → access_of (ev n) ≡ access_to kind r → in_class rules (event_trace ev) r (rank kind) n ≡ true
  of_kind kind r n e = rw e (of_is r (rank kind))

  pub kind_of : (kind : Kind) (r n : ℕ) → in_class rules (event_trace ev) r (rank kind) n ≡ true → access_of (ev n) ≡ access_to kind r
  kind_of kind r n t =
      let w = access_of_lem (access_of (ev n)) r (rank kind) (is_of_lem r (rank kind) (act_of (access_of (ev n))) t) in
      w.1 ∙ ap (λ (k : Kind). access_to k r) (rank_only w.0 kind w.2)

  pub not_kind : (kind : Kind) (r n : ℕ) → in_class rules (event_trace ev) r (rank kind) n ≡ false → access_of (ev n) ≢ access_to kind r
  not_kind kind r n f e = false≢true (sym f ∙ of_kind kind r n e)
