-- Each record's pair in the words of the definition, and that no other pair fits. Assumes nothing.
use mathlib.Core.Path.{◌≡◌, refl, sym, ◌∙◌}
use mathlib.Core.Logic.{◌↔◌}
use mathlib.Core.Bool.{true, false≢true}
use mathlib.Core.Option.{Option, none, some}
use Prim.Native.Nat.{ℕ, ◌≤◌, ◌<◌}
use native.Mathlib.Omega.{arith}
use native.Mathlib.Decide.{dec_le}
use Rattle.std.proofs.lemmas.Bool.{false_from_ne_true}
use Rattle.races.specs.Trace.{Trace, Lawful}
use Rattle.races.specs.Rules.{Rules, Fit}
use Rattle.races.specs.Places.{in_class, finds, first_of, found}
use Rattle.races.specs.Records.{no_pair, pair, raced, second_of, pair_at, pair_of, RaceOn, FirstOn, PairOn, Tied}
use Rattle.races.proofs.Search.{Least, least_is, least_only}
use Rattle.races.proofs.Standing.{held_below}
use Rattle.races.proofs.Found.{Racing, raced_by, raced_finds, Finding, finds_parts, first_finding, finding_first, found_parts, found_racing, Quiet, places_enough}

module _ (R : Rules) (T : Trace) (law : Lawful T) (fit : Fit R T) (Par : ℕ → ℕ → Type 0) (k : ℕ) (tie : Tied T Par k) where
  racing_race : (r m j : ℕ) → m < j → j < k → Racing R T r m j → RaceOn R T Par r m j
  racing_race r m j l h P =
      record { a = P.a; b = P.b; earlier = l; first = P.first; second = P.second; clash = P.clash; parallel = (tie m j l h).1 P.parallel }

  race_racing : (r m j : ℕ) → j < k → RaceOn R T Par r m j → Racing R T r m j
  race_racing r m j h P =
      record { a = P.a; b = P.b; first = P.first; second = P.second; clash = P.clash; parallel = (tie m j P.earlier h).0 P.parallel }

  -- trying every pair decides whether an event races on the record with any earlier one
  pub raced_is : (r j : ℕ) → j < k → ((m : ℕ) × RaceOn R T Par r m j) ↔ (raced R T r j ≡ true)
  raced_is r j h = (
    λ P. raced_by R T r P.0 j P.1.earlier (race_racing r P.0 j h P.1),
    λ t. let w = raced_finds R T r j t in (w.0, racing_race r w.0 j w.1 h w.2),
  )

  abbrev pub RecordFree : ℕ → ℕ → Type 0
  RecordFree r j = (m n : ℕ) → n < j → ¬ RaceOn R T Par r m n

  pub free_quiet : (r j : ℕ) → j ≤ k → RecordFree r j → Quiet R T r j
  free_quiet r j h free n l = false_from_ne_true (raced R T r n) (λ t. let P = (raced_is r n (omega arith)).1 t in free P.0 n l P.1)

  quiet_free : (r j : ℕ) → j ≤ k → Quiet R T r j → RecordFree r j
  quiet_free r j h quiet m n l P = false≢true (sym (quiet n l) ∙ (raced_is r n (omega arith)).0 (m, P))

  -- two places, or as many as the rules have, are enough
  pub places_decide : (r j : ℕ) → j < k → RecordFree r j → ((m : ℕ) × RaceOn R T Par r m j) ↔ (found R T r j ≡ true)
  places_decide r j h free =
      let e = places_enough R T law fit r j (free_quiet r j (omega arith) free) in
      (λ P. sym e ∙ (raced_is r j h).0 P, λ t. (raced_is r j h).1 (e ∙ t))

  -- the rule of the first
  first_says : (r j i : ℕ) → j < k → Finding R T r j i → FirstOn R T Par r i j
  first_says r j i h F = record {
    class = F.class;
    below = F.below;
    clash = F.clash;
    holds = F.holds;
    smallest = λ d w l c e P.
        let b = held_below T law (in_class R T r d) (R.latest d) j w e in
        false≢true (sym (F.smaller d l) ∙ rw (c, e) ((tie w j b.0 h).0 P));
  }

  says_first : (r j i : ℕ) → j < k → T.par i j ≡ true → FirstOn R T Par r i j → Finding R T r j i
  says_first r j i h t F = record {
    class = F.class;
    below = F.below;
    clash = F.clash;
    holds = F.holds;
    parallel = t;
    smaller = λ d l. false_from_ne_true (finds R T r j d) (λ u.
        let p = finds_parts R T r j d u in
        let b = held_below T law (in_class R T r d) (R.latest d) j p.1.0 p.1.1 in
        F.smallest d p.1.0 l p.0 p.1.1 ((tie p.1.0 j b.0 h).1 p.1.2));
  }

  -- the least event that races has a first, and the two are the pair
  pub second_named : (r j : ℕ) → Least (raced R T r) k (some j) → (i : ℕ) × (first_of R T r j ≡ some i) × PairOn R T Par r k i j
  second_named r j l =
      let f : found R T r j ≡ true = sym (places_enough R T law fit r j l.2) ∙ l.1 in
      let p = found_parts R T r j f in
      let w = found_racing R T law r j p.1.0 p.0 p.1.1 in (
        p.1.0,
        p.1.1,
        record {
          within = l.0;
          is_race = racing_race r p.1.0 j w.0 l.0 w.1;
          earliest = quiet_free r j (omega arith) l.2;
          first = first_says r j p.1.0 l.0 (first_finding R T r j p.1.0 p.1.1);
        },
      )

  pub named_least : (r i j : ℕ) → PairOn R T Par r k i j → Least (raced R T r) k (some j)
  named_least r i j N = (N.within, (raced_is r j N.within).0 (i, N.is_race), free_quiet r j (omega (arith, N.within)) N.earliest)

  pub named_first : (r i j : ℕ) → PairOn R T Par r k i j → first_of R T r j ≡ some i
  named_first r i j N =
      finding_first R T r j i (says_first r j i N.within (race_racing r i j N.within N.is_race).parallel N.first)

  named_second : (r i j : ℕ) → PairOn R T Par r k i j → second_of R T r k ≡ some j
  named_second r i j N = least_only (raced R T r) k (second_of R T r k) (some j) (least_is (raced R T r) k) (named_least r i j N)

  named_pair : (r i j : ℕ) → PairOn R T Par r k i j → pair_of R T r k ≡ pair i j
  unfolding pair_of
  named_pair r i j N = rw (named_second r i j N, named_first r i j N)

  pair_named : (r i j : ℕ) (o : Option ℕ) → Least (raced R T r) k o → pair_at R T r o ≡ pair i j → PairOn R T Par r k i j
  pair_named r i j none l e = absurd (let z : ◌≡◌ {A = ℕ} 0 1 = cc in omega arith)
  pair_named r i j (some n) l e =
      let w = second_named r n l in
      let f : pair w.0 n ≡ pair i j = rw w.1 at e in
      let x : w.0 ≡ i = cc in
      let y : n ≡ j = cc in
      rw (x, y) at w.2

  -- a record has the pair that the rule names, and no other
  pub pair_is : (r i j : ℕ) → (pair_of R T r k ≡ pair i j) ↔ PairOn R T Par r k i j
  unfolding pair_of
  pair_is r i j = (pair_named r i j (second_of R T r k) (least_is (raced R T r) k), named_pair r i j)

  -- no second pair of a record fits
  pub pair_only : (r i j m n : ℕ) → PairOn R T Par r k i j → PairOn R T Par r k m n → (i ≡ m) × (j ≡ n)
  pair_only r i j m n N M =
      let e = named_pair r i j N in
      let f = named_pair r m n M in
      (cc, cc)

  clean_none : (r : ℕ) (o : Option ℕ) → pair_at R T r o ≡ no_pair → o ≡ none
  clean_none r none e = refl
  clean_none r (some j) e = absurd (let z : ◌≡◌ {A = ℕ} 0 1 = cc in omega arith)

  -- and none exactly if it has no race
  pub pair_none : (r : ℕ) → (pair_of R T r k ≡ no_pair) ↔ RecordFree r k
  unfolding pair_of
  pair_none r = (
    λ e. quiet_free r k (omega arith)
        (let l : Least (raced R T r) k none = rw (clean_none r (second_of R T r k) e) at (least_is (raced R T r) k) in l),
    λ free.
        let e : second_of R T r k ≡ none = least_only (raced R T r) k (second_of R T r k) none (least_is (raced R T r) k) (free_quiet r k (omega arith) free) in
        rw e,
  )

  -- a record that races is named, with no later second
  pub race_early : (r m n : ℕ) → n < k → RaceOn R T Par r m n → (i : ℕ) × (j : ℕ) × (j ≤ n) × PairOn R T Par r k i j
  race_early r m n h P = go (second_of R T r k) (least_is (raced R T r) k)
    where
      go : (o : Option ℕ) → Least (raced R T r) k o → (i : ℕ) × (j : ℕ) × (j ≤ n) × PairOn R T Par r k i j
      go none l = absurd (false≢true (sym (l n h) ∙ (raced_is r n h).0 (m, P)))
      go (some j) l = let w = second_named r j l in (w.0, j, early (dec_le j n), w.2)
        where
          early : Dec (j ≤ n) → j ≤ n
          early (yes g) = g
          early (no g) = absurd (false≢true (sym (l.2 n (omega arith)) ∙ (raced_is r n h).0 (m, P)))
