-- The demands themselves reject each idler, whatever its contract says: on 01's whole file, whose events 3 and 6 race on record 1. Assumes
-- nothing.
use mathlib.Core.Path.{◌≡◌, refl, sym, subst, ◌∙◌}
use mathlib.Core.Logic.{◌≢◌}
use mathlib.Core.List.{List}
use Prim.Native.Nat.{ℕ, ◌≤◌}
use native.Mathlib.Omega.{arith}
use lib.ListN.{replicate, get_or-replicate}
use Rattle.jobfile.specs.Coding.{event_of}
use Rattle.jobfile.specs.Trace.{event_at, tasks_at, begun_at}
use Rattle.jobfile.specs.Samples.{l4}
use Rattle.jobfile.specs.declared.refusal.Refusal.{Refusal}
use Rattle.jobfile.proofs.Checking.{accepted_part}
use Rattle.relation.specs.Walk.{opened, move_at, walk_for, walk}
use Rattle.orders.specs.Order.{back_in}
use Rattle.strands.specs.States.{count_at}
use Rattle.races.specs.Search.{any, least}
use Rattle.races.specs.Places.{held_of, first_of}
use Rattle.races.specs.Records.{race, races, raced, raced_any, verdict_in, stop_in}
use Rattle.races.specs.Named.{Named}
use Rattle.races.specs.Verdict.{verdict}
use Rattle.races.proofs.Named.{verdict_race}
use Rattle.taking.specs.Buffers.{Buffers}
use Rattle.std.specs.Prelude.{Result, Ok, Err}
use Rattle.jobfile.specs.declared.refusal.Refusal.{Refusal}
use Rattle.judging.specs.declared.Answer.{Answer}
use Rattle.judging.specs.Answers.{clean_of, race_of, judged_of, numbers_of}
use Rattle.judging.specs.Terms.{events_in, SaysClean, CountStep}
use Rattle.judging.proofs.WholeFile.{job, accepted, part, part_is}
use Rattle.judging.proofs.Demands.{Demand2, Demand3}

-- the race of 01's whole file
by_part : verdict (event_at part) 8 ≡ race 3 6 1
unfolding event_of event_at tasks_at begun_at opened move_at walk_for walk any least races raced held_of first_of raced_any verdict_in stop_in
by_part = refl

named : Named (events_in l4) 8 3 6 1
named =
    (verdict_race (events_in l4) 8 3 6 1 (accepted_part l4 job accepted).rooted).0
    (subst (λ p. verdict (event_at p) 8 ≡ race 3 6 1) (sym part_is) by_part)

-- "one that refuses everything"
pub refuses_everything : (r : Refusal) → ¬ Demand2 l4 8 (Err r)
refuses_everything r D = omega (arith, (D.named_answered 3 6 1 named).raced)

-- "or always says clean"
pub says_clean : (r : Result Answer Refusal) → SaysClean r → ¬ Demand2 l4 8 r
says_clean r C D = omega (arith, C.raced, (D.named_answered 3 6 1 named).raced)

-- "one that judges the first event and feigns the rest (both, since k is free)": its answer for 8 events is that for one
one_of_part : judged_of (event_at part) 1 ≡ clean_of 1 1 1
unfolding judged_of event_of event_at tasks_at begun_at count_at opened move_at walk_for walk any least races raced held_of first_of raced_any verdict_in stop_in
one_of_part = refl

one_judged : judged_of (events_in l4) 1 ≡ clean_of 1 1 1
one_judged = subst (λ p. judged_of (event_at p) 1 ≡ clean_of 1 1 1) (sym part_is) one_of_part

pub judges_the_first : (B : Buffers) → (¬ Demand2 l4 8 (Ok (judged_of (events_in l4) 1))) × (¬ Demand3 l4 8 (Ok (judged_of (events_in l4) 1)) B)
judges_the_first B = rw one_judged (
  says_clean (Ok (clean_of 1 1 1)) (record { taken = refl; raced = refl; first = refl; second = refl; number = refl }),
  λ D. omega (arith, D.strands, (accepted_part l4 job accepted).all),
)

-- one that judges every event, whatever k is: the race is not among the first 6
pub ignores_k : (s e h : ℕ) → ¬ Demand2 l4 6 (Ok (race_of 3 6 1 s e h))
ignores_k s e h D = omega (arith, (D.race_named 3 6 1 (record { raced = refl; first = refl; second = refl; number = refl })).within)

-- "one that stores nothing", of any file: no order begins in buffers that had no chain, such as zeros
pub stores_nothing : (file : List ℕ) (k : ℕ) (r : Result Answer Refusal) (B : Buffers) → back_in B.links 0 0 ≢ 65535 → ¬ Demand3 file k r B
stores_nothing file k r B n D = n D.english.backwards_end

pub zeros_left : (file : List ℕ) (k : ℕ) (r : Result Answer Refusal) (n : ℕ) (labels places : List ℕ) → 16384 ≤ n
    → ¬ Demand3 file k r (record { labels = labels; links = replicate n 0; places = places })
zeros_left file k r n labels places h = stores_nothing file k r _ (λ e. omega (arith, get_or-replicate {A = ℕ} n 4096 0 0 (omega arith)))

-- "one that invents its label counts (demand 3 ties the step from k - 1 to k events to labels that differ)": the labels and the strands of
-- two calls leave one number for each count
pub invents_counts : (r r' r'' : Result Answer Refusal) (L L' : List ℕ) → (numbers_of r').strands ≡ (numbers_of r'').strands → CountStep r r' L L' → CountStep r r'' L L'
    → ((numbers_of r').english ≡ (numbers_of r'').english) × ((numbers_of r').hebrew ≡ (numbers_of r'').hebrew)
invents_counts r r' r'' L L' e C D = (
  C.english ∙ rw e (sym D.english),
  C.hebrew ∙ rw e (sym D.hebrew),
)
