-- The answer of the question, by the facts that the code's tests leave. Assumes nothing.
use mathlib.Core.Path.{◌≡◌, refl, sym, ◌∙◌}
use mathlib.Core.Bool.{Bool, true, false, ◌&&◌, false≢true}
use mathlib.Core.List.{List}
use Prim.Native.Nat.{ℕ, ◌≤◌, ◌<◌}
use native.Mathlib.Omega.{arith}
use lib.Dec.{ltb}
use borrow.Author.Tests.{eq-eqb, ne_eqb, lt-ltb, le-ltb, ltb-true}
use Rattle.jobfile.specs.Refusals.{refusal_of}
use Rattle.jobfile.specs.declared.event.Event.{Event}
use Rattle.relation.specs.Between.{Stretch}
use Rattle.jobfile.specs.declared.event.Move.{Move}
use Rattle.std.specs.Prelude.{Ok, Err}
use Rattle.trailer.specs.declared.fault.Fault.TheVariants.{PastEvents, NotAccess}
use Rattle.jobfile.specs.Trace.{moves}
use Rattle.relation.specs.Question.{access_at, compare_of, asked_of}
use Rattle.relation.specs.Walk.{par}
use Rattle.relation.specs.declared.Related.TheVariants.{Same, Before, After, Parallel}

-- the events between two numbers below the count can be walked
pub stretch_between : (part : List ℕ) (count p q : ℕ) → Stretch part 0 count → p ≤ q → q < count → Stretch part p q
stretch_between part count p q w pq qc = record {
  order = pq;
  room = omega arith;
  few = omega arith;
  rooted = λ m l. w.rooted m (omega arith);
}

module _ (mv : ℕ → Move) (i j : ℕ) where
  pub compare_same : i ≡ j → compare_of mv i j ≡ Same
  unfolding compare_of
  compare_same e = rw (eq-eqb i j e)

  pub compare_parallel : i < j → par mv i j ≡ true → compare_of mv i j ≡ Parallel
  unfolding compare_of
  compare_parallel l t = rw (ne_eqb i j (λ e. omega arith), lt-ltb i j l, t)

  pub compare_before : i < j → par mv i j ≡ false → compare_of mv i j ≡ Before
  unfolding compare_of
  compare_before l f = rw (ne_eqb i j (λ e. omega arith), lt-ltb i j l, f)

  pub compare_parallel_back : j < i → par mv j i ≡ true → compare_of mv i j ≡ Parallel
  unfolding compare_of
  compare_parallel_back l t = rw (ne_eqb i j (λ e. omega arith), le-ltb i j (omega arith), t)

  pub compare_after : j < i → par mv j i ≡ false → compare_of mv i j ≡ After
  unfolding compare_of
  compare_after l f = rw (ne_eqb i j (λ e. omega arith), le-ltb i j (omega arith), f)

-- a test of two tests that are told
pub both_told : {a a' b b' r v : Bool} → a ≡ a' → b ≡ b' → r ≡ (a && b) → r ≡ v → (a' && b') ≡ v
both_told p q e f = rw (← p, ← q) (sym e ∙ f)

and_both : (a b : Bool) → (a && b) ≡ true → (a ≡ true) × (b ≡ true)
and_both true b e = (refl, e)
and_both false b e = absurd (false≢true e)

pub both_below : (count i j : ℕ) → (ltb i count && ltb j count) ≡ true → (i < count) × (j < count)
both_below count i j e =
    let b = and_both (ltb i count) (ltb j count) e in
    (ltb-true i count b.0, ltb-true j count b.1)

module _ (ev : ℕ → Event) (count i j : ℕ) where
  pub asked_over : (ltb i count && ltb j count) ≡ false → asked_of ev count i j ≡ Err (refusal_of PastEvents 0)
  unfolding asked_of
  asked_over e = rw e

  -- where both numbers are below the count, so that the code's tests of both events are those of the definition
  module _ (below : (ltb i count && ltb j count) ≡ true) where
    both_tested : ((ltb i count && access_at ev i) && (ltb j count && access_at ev j)) ≡ (access_at ev i && access_at ev j)
    both_tested = let b = and_both (ltb i count) (ltb j count) below in rw (b.0, b.1)

    pub asked_no_access : ((ltb i count && access_at ev i) && (ltb j count && access_at ev j)) ≡ false
        → asked_of ev count i j ≡ Err (refusal_of NotAccess 0)
    unfolding asked_of
    asked_no_access e = rw (below, sym both_tested ∙ e)

    pub asked_accesses : ((ltb i count && access_at ev i) && (ltb j count && access_at ev j)) ≡ true
        → asked_of ev count i j ≡ Ok (compare_of (moves ev) i j)
    unfolding asked_of
    asked_accesses e = rw (below, sym both_tested ∙ e)

  pub two_accesses : i < count → j < count → access_at ev i ≡ true → access_at ev j ≡ true → asked_of ev count i j ≡ Ok (compare_of (moves ev) i j)
  unfolding asked_of
  two_accesses l k a b = rw (lt-ltb i count l, lt-ltb j count k, a, b)
