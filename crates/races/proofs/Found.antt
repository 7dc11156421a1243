-- A record's places are enough to find its race: while nothing has raced on the record, an access races exactly if it finds something at
-- the places, and what it finds is a race whatever came before. Other records are not asked. Assumes nothing.
use mathlib.Core.Path.{◌≡◌, refl, sym, ap, ◌∙◌}
use mathlib.Core.Bool.{true, false, false≢true, ◌&&◌, and-false}
use mathlib.Core.Option.{Option, none, some}
use Prim.Native.Nat.{ℕ, zero, suc, ◌<◌}
use lib.Dec.{eqb}
use borrow.Author.Tests.{eqb-true, eq-eqb}
use Rattle.std.proofs.lemmas.Bool.{and_parts, and_from, false_from_ne_true}
use Rattle.races.specs.Search.{or_here, least}
use Rattle.races.specs.Trace.{Act, other, access, Trace, Lawful, on_record, is_of, class_of}
use Rattle.races.specs.Rules.{Rules, Fit}
use Rattle.races.specs.Places.{holds, par_to, in_class, held, finds, found_class, first_in, first_of, given, found}
use Rattle.races.specs.Records.{races, raced, second_of}
use Rattle.races.proofs.Search.{true_together, any_finds, any_has, Least, least_is, least_only}
use Rattle.races.proofs.Standing.{holds_some, AllBefore, place_speaks, held_below}

-- which access it is
pub is_of_lem : (r c : ℕ) (a : Act) → is_of r c a ≡ true → a ≡ access r c
is_of_lem r c other t = absurd (false≢true t)
is_of_lem r c (access q d) t =
    let e : q ≡ r = eqb-true q r (and_parts (eqb q r) (eqb d c) t).0 in
    let f : d ≡ c = eqb-true d c (and_parts (eqb q r) (eqb d c) t).1 in
    rw (e, f)

pub of_is : (r c : ℕ) → is_of r c (access r c) ≡ true
of_is r c = and_from _ _ (eq-eqb r r refl) (eq-eqb c c refl)

on_is : (r : ℕ) (a : Act) → on_record r a ≡ true → (c : ℕ) × (a ≡ access r c)
on_is r other t = absurd (false≢true t)
on_is r (access q d) t = (d, let e : q ≡ r = eqb-true q r t in rw e)

module _ (R : Rules) (T : Trace) where
  -- a pair that races, as a test says it
  pub record Racing (r m j : ℕ) : Type 0 where
    pub a : ℕ
    pub b : ℕ
    pub first : T.act m ≡ access r a
    pub second : T.act j ≡ access r b
    pub clash : R.clash a b ≡ true
    pub parallel : T.par m j ≡ true

  races_is : (r m j : ℕ) → Racing r m j → races R T r m j ≡ true
  unfolding races
  races_is r m j P = rw (P.first, P.second, P.clash, P.parallel, eq-eqb r r refl)

  racing : (r m j a b : ℕ) → T.act m ≡ access r a → T.act j ≡ access r b → R.clash (class_of (T.act m)) (class_of (T.act j)) ≡ true
      → T.par m j ≡ true → Racing r m j
  racing r m j a b e f c t = record { a = a; b = b; first = e; second = f; clash = rw (e, f) at c; parallel = t }

  races_parts : (r m j : ℕ) → races R T r m j ≡ true → Racing r m j
  unfolding races
  races_parts r m j t =
      let om = on_record r (T.act m) in
      let oj = on_record r (T.act j) in
      let k = R.clash (class_of (T.act m)) (class_of (T.act j)) in
      let t1 = (and_parts om (oj && (k && T.par m j)) t).1 in
      let t2 = (and_parts oj (k && T.par m j) t1).1 in
      let x = on_is r (T.act m) (and_parts om (oj && (k && T.par m j)) t).0 in
      let y = on_is r (T.act j) (and_parts oj (k && T.par m j) t1).0 in
      racing r m j x.0 y.0 x.1 y.1 (and_parts k (T.par m j) t2).0 (and_parts k (T.par m j) t2).1

  pub raced_by : (r m j : ℕ) → m < j → Racing r m j → raced R T r j ≡ true
  unfolding raced
  raced_by r m j l P = any_has (λ m. races R T r m j) j m l (races_is r m j P)

  pub raced_finds : (r j : ℕ) → raced R T r j ≡ true → (m : ℕ) × (m < j) × Racing r m j
  unfolding raced
  raced_finds r j t = let w = any_finds (λ m. races R T r m j) j t in (w.0, w.1, races_parts r w.0 j w.2)

  -- what an access finds, class by class
  pub record Finding (r j i : ℕ) : Type 0 where
    pub class : ℕ
    pub below : class < R.classes
    pub clash : R.clash class (class_of (T.act j)) ≡ true
    pub holds : held R T r class j ≡ some i
    pub parallel : T.par i j ≡ true
    pub smaller : (d : ℕ) → d < class → finds R T r j d ≡ false

  pub finds_parts : (r j c : ℕ) → finds R T r j c ≡ true
      → (R.clash c (class_of (T.act j)) ≡ true) × ((i : ℕ) × (held R T r c j ≡ some i) × (T.par i j ≡ true))
  finds_parts r j c t =
      let k = R.clash c (class_of (T.act j)) in
      let h = holds (par_to T j) (held R T r c j) in
      ((and_parts k h t).0, holds_some (par_to T j) (held R T r c j) (and_parts k h t).1)

  first_of_lem : (r j i : ℕ) (o : Option ℕ) → Least (finds R T r j) R.classes o → first_in R T r j o ≡ some i → Finding r j i
  first_of_lem r j i none l e = absurd (false≢true (ap given e))
  first_of_lem r j i (some c) l e =
      let p = finds_parts r j c l.1 in
      record {
        class = c;
        below = l.0;
        clash = p.0;
        holds = e;
        parallel = let x : held R T r c j ≡ some i = e in rw x at (and_parts (R.clash c (class_of (T.act j))) (holds (par_to T j) (held R T r c j)) l.1).1;
        smaller = l.2;
      }

  pub first_finding : (r j i : ℕ) → first_of R T r j ≡ some i → Finding r j i
  unfolding first_of
  first_finding r j i e = first_of_lem r j i (found_class R T r j) (least_is (finds R T r j) R.classes) e

  pub finding_first : (r j i : ℕ) → Finding r j i → first_of R T r j ≡ some i
  unfolding first_of
  finding_first r j i F =
      let t : finds R T r j F.class ≡ true = and_from _ _ F.clash (rw F.holds F.parallel) in
      let e : found_class R T r j ≡ some F.class =
      least_only (finds R T r j) R.classes (found_class R T r j) (some F.class) (least_is (finds R T r j) R.classes)
      (F.below, t, F.smaller) in
      rw e F.holds

  -- some class finds something
  finds_given : (r j c : ℕ) (o : Option ℕ) → Least (finds R T r j) R.classes o → c < R.classes → finds R T r j c ≡ true
      → given (first_in R T r j o) ≡ true
  finds_given r j c none l h t = absurd (false≢true (sym (l c h) ∙ t))
  finds_given r j c (some d) l h t = let p = finds_parts r j d l.1 in rw p.1.1

  pub found_by : (r j b c : ℕ) → T.act j ≡ access r b → c < R.classes → finds R T r j c ≡ true → found R T r j ≡ true
  unfolding found first_of
  found_by r j b c e h t =
      let o : on_record r (T.act j) ≡ true = rw (e, eq-eqb r r refl) in
      and_from _ _ o (finds_given r j c (found_class R T r j) (least_is (finds R T r j) R.classes) h t)

  pub found_none : (r n : ℕ) → first_of R T r n ≡ none → found R T r n ≡ false
  unfolding found
  found_none r n e = rw e (and-false (on_record r (T.act n)))

  pub found_some : (r n b f : ℕ) → T.act n ≡ access r b → first_of R T r n ≡ some f → found R T r n ≡ true
  unfolding found
  found_some r n b f x e = rw (x, e, eq-eqb r r refl)

  -- an event that is no access finds nothing, on any record
  pub found_off : (r n : ℕ) → on_record r (T.act n) ≡ false → found R T r n ≡ false
  unfolding found
  found_off r n e = rw e

  given_some : (o : Option ℕ) → given o ≡ true → (i : ℕ) × (o ≡ some i)
  given_some none t = absurd (false≢true t)
  given_some (some i) t = (i, refl)

  -- an access that finds something: its class, and what it finds
  pub found_parts : (r j : ℕ) → found R T r j ≡ true → ((b : ℕ) × (T.act j ≡ access r b)) × ((i : ℕ) × (first_of R T r j ≡ some i))
  unfolding found
  found_parts r j t =
      let o = on_record r (T.act j) in
      let g = given (first_of R T r j) in
      (on_is r (T.act j) (and_parts o g t).0, given_some (first_of R T r j) (and_parts o g t).1)

  -- what is found is a race, whatever came before
  pub found_racing : Lawful T → (r j i : ℕ) → ((b : ℕ) × (T.act j ≡ access r b)) → first_of R T r j ≡ some i → (i < j) × Racing r i j
  found_racing law r j i b e =
      let F = first_finding r j i e in
      let h = held_below T law (in_class R T r F.class) (R.latest F.class) j i F.holds in (
        h.0,
        record {
          a = F.class;
          b = b.0;
          first = is_of_lem r F.class (T.act i) h.1;
          second = b.1;
          clash = rw b.1 at F.clash;
          parallel = F.parallel;
        },
      )

  -- nothing has raced on the record before j
  abbrev pub Quiet : ℕ → ℕ → Type 0
  Quiet r j = (n : ℕ) → n < j → raced R T r n ≡ false

  module _ (law : Lawful T) (fit : Fit R T) where
    found_raced : (r j : ℕ) → found R T r j ≡ true → raced R T r j ≡ true
    found_raced r j t =
        let p = found_parts r j t in
        let w = found_racing law r j p.1.0 p.0 p.1.1 in
        raced_by r p.1.0 j w.0 w.1

    -- then the accesses of a class whose last one is kept are before one another
    chain : (r c j : ℕ) → Quiet r j → R.latest c ≡ true → AllBefore T law (in_class R T r c) j
    chain r c j quiet t a b ab bj ca cb = false_from_ne_true (T.par a b) (λ p. false≢true (sym (quiet b bj) ∙ raced_by r a b ab (record {
      a = c;
      b = c;
      first = is_of_lem r c (T.act a) ca;
      second = is_of_lem r c (T.act b) cb;
      clash = fit.own c t;
      parallel = p;
    })))

    raced_found : (r j : ℕ) → Quiet r j → raced R T r j ≡ true → found R T r j ≡ true
    raced_found r j quiet t =
        let w = raced_finds r j t in
        let P = w.2 in
        let in_its_class : in_class R T r P.a w.0 ≡ true = rw P.first (of_is r P.a) in
        let hit = place_speaks T law (in_class R T r P.a) (R.latest P.a) j w.0 (chain r P.a j quiet) w.1 in_its_class P.parallel in
        let clash : R.clash P.a (class_of (T.act j)) ≡ true = rw P.second P.clash in
        found_by r j P.b P.a P.second (fit.classed w.0 r P.a P.first) (and_from _ _ clash hit)

    -- the places are enough
    pub places_enough : (r j : ℕ) → Quiet r j → raced R T r j ≡ found R T r j
    places_enough r j quiet = true_together (raced R T r j) (found R T r j) (raced_found r j quiet) (found_raced r j)

    pub none_quiet : (r i : ℕ) → second_of R T r i ≡ none → Quiet r i
    none_quiet r i e = let l : Least (raced R T r) i none = rw e at (least_is (raced R T r) i) in l

    second_step : (r k : ℕ) (o : Option ℕ) → second_of R T r k ≡ o → or_here o (raced R T r k) k ≡ or_here o (found R T r k) k
    second_step r k none e = rw (places_enough r k (none_quiet r k e))
    second_step r k (some j) e = refl

    -- a record's second is the earliest of its accesses that finds something at its places
    pub second_found : (r k : ℕ) → second_of R T r k ≡ least (found R T r) k
    unfolding least
    second_found r zero = refl
    second_found r (suc k) = second_step r k (second_of R T r k) refl ∙ ap (λ (o : Option ℕ). or_here o (found R T r k) k) (second_found r k)

    -- a scan's turn, for one record
    pub second_next : (r k : ℕ) → second_of R T r (suc k) ≡ or_here (second_of R T r k) (found R T r k) k
    unfolding least
    second_next r k = second_step r k (second_of R T r k) refl
