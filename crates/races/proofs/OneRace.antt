-- The one race of a trace: it is the earliest of the records' pairs, no other fits, and a run that has found nothing before event n goes on
-- or stops there. Assumes nothing.
use mathlib.Core.Path.{◌≡◌, refl, sym, ap, ◌∙◌}
use mathlib.Core.Logic.{◌↔◌}
use mathlib.Core.Bool.{true, false, false≢true}
use mathlib.Core.Option.{Option, none, some, get_or}
use Prim.Native.Nat.{ℕ, suc, ◌≤◌, ◌<◌}
use native.Mathlib.Omega.{arith}
use native.Mathlib.Decide.{dec_le}
use Rattle.std.proofs.lemmas.Bool.{false_from_ne_true}
use Rattle.races.specs.Search.{least}
use Rattle.races.specs.Trace.{access, Trace, Lawful, record_of}
use Rattle.races.specs.Rules.{Rules, Fit}
use Rattle.races.specs.Places.{first_of, found}
use Rattle.races.specs.Records.{clean, race, raced, second_of, PairOn, OneRace, raced_any, second_in, verdict_at, verdict_in, stop_in, Tied}
use Rattle.races.proofs.Search.{below, Least, least_is, least_only}
use Rattle.races.proofs.Found.{raced_finds, found_some, places_enough, none_quiet}
use Rattle.races.proofs.Records.{raced_is, RecordFree, free_quiet, second_named, named_least, named_first}

module _ (R : Rules) (T : Trace) where
  -- an event races on its own record or on none
  raced_own : (r j : ℕ) → raced R T r j ≡ true → raced_any R T j ≡ true
  unfolding raced_any
  raced_own r j t =
      let e : record_of (T.act j) ≡ r = ap record_of (raced_finds R T r j t).2.second in
      rw e t

  second_least : (k : ℕ) (o : Option ℕ) → Least (raced_any R T) k o → second_in R T k ≡ o
  second_least k o = least_only (raced_any R T) k (second_in R T k) o (least_is (raced_any R T) k)

  -- before any event there is no second
  pub none_second : second_in R T 0 ≡ none
  unfolding least
  none_second = refl

  -- nothing has raced: no record has
  pub all_unraced : (n : ℕ) → second_in R T n ≡ none → (r : ℕ) → second_of R T r n ≡ none
  all_unraced n e r =
      let l : Least (raced_any R T) n none = rw e at (least_is (raced_any R T) n) in
      least_only (raced R T r) n (second_of R T r n) none (least_is (raced R T r) n)
      (λ m h. false_from_ne_true (raced R T r m) (λ t. false≢true (sym (l m h) ∙ raced_own r m t)))

  -- and where no record has, nothing has
  pub none_together : (n : ℕ) → ((r : ℕ) → second_of R T r n ≡ none) → second_in R T n ≡ none
  unfolding raced_any
  none_together n each =
      second_least n none (λ m h.
      let own = record_of (T.act m) in
      let l : Least (raced R T own) n none = rw (each own) at (least_is (raced R T own) n) in
      l m h)

  -- no second: clean, and all k events are taken
  pub clean_all : (k : ℕ) → second_in R T k ≡ none → (verdict_in R T k ≡ clean) × (stop_in R T k ≡ k)
  unfolding verdict_in stop_in
  clean_all k e = (rw e, rw e)

  -- a second: the race named with it, and the events before it are taken
  pub race_at : (k j i r : ℕ) → second_in R T k ≡ some j → record_of (T.act j) ≡ r → first_of R T r j ≡ some i
      → (verdict_in R T k ≡ race i j r) × (stop_in R T k ≡ j)
  unfolding verdict_in stop_in
  race_at k j i r e own f = (rw (e, own, f), rw e)

  -- where judging k events stops, nothing has raced
  pub stop_quiet : (k : ℕ) → second_in R T (stop_in R T k) ≡ none
  unfolding stop_in
  stop_quiet k = by (second_in R T k) refl (least_is (raced_any R T) k)
    where
      by : (o : Option ℕ) → second_in R T k ≡ o → Least (raced_any R T) k o → second_in R T (get_or o k) ≡ none
      by none e l = e
      by (some j) e l = second_least j none l.2

  -- and that is within them
  pub stop_within : (k : ℕ) → stop_in R T k ≤ k
  unfolding stop_in
  stop_within k = by (second_in R T k) (least_is (raced_any R T) k)
    where
      by : (o : Option ℕ) → Least (raced_any R T) k o → get_or o k ≤ k
      by none l = omega arith
      by (some j) l = omega arith

  -- The turns of a run that has found nothing before event n.
  module _ (law : Lawful T) (fit : Fit R T) (n : ℕ) (e : second_in R T n ≡ none) where
    quiet_all : Least (raced_any R T) n none
    quiet_all = rw e at (least_is (raced_any R T) n)

    own_found : raced_any R T n ≡ found R T (record_of (T.act n)) n
    unfolding raced_any
    own_found =
        let own = record_of (T.act n) in
        places_enough R T law fit own n (none_quiet R T law fit own n (all_unraced n e own))

    -- nothing found: still none
    pub still_none : found R T (record_of (T.act n)) n ≡ false → second_in R T (suc n) ≡ none
    still_none f = second_least (suc n) none (below (λ m. raced_any R T m ≡ false) n quiet_all (own_found ∙ f))

    -- found: the answer for every k past this event
    pub stops_here : (r b f : ℕ) → T.act n ≡ access r b → first_of R T r n ≡ some f → (k : ℕ) → n < k
        → (verdict_in R T k ≡ race f n r) × (stop_in R T k ≡ n)
    stops_here r b f a x k h =
        let own : record_of (T.act n) ≡ r = ap record_of a in
        let t : raced_any R T n ≡ true = own_found ∙ rw own (found_some R T r n b f a x) in
        race_at k n f r (second_least k (some n) (h, t, quiet_all)) own x

module _ (R : Rules) (T : Trace) (law : Lawful T) (fit : Fit R T) (Par : ℕ → ℕ → Type 0) (k : ℕ) (tie : Tied T Par k) where
  -- no record's second is earlier than the trace's
  least_over : (j : ℕ) → Least (raced_any R T) k (some j) → (q m n : ℕ) → PairOn R T Par q k m n → j ≤ n
  least_over j l q m n N = go (dec_le j n)
    where
      go : Dec (j ≤ n) → j ≤ n
      go (yes h) = h
      go (no h) = absurd (false≢true (sym (l.2 n (omega arith)) ∙ raced_own R T q n (named_least R T law fit Par k tie q m n N).1))

  least_own : (j : ℕ) → Least (raced_any R T) k (some j) → Least (raced R T (record_of (T.act j))) k (some j)
  unfolding raced_any
  least_own j l =
      let own = record_of (T.act j) in
      (l.0, l.1, λ m h. false_from_ne_true (raced R T own m) (λ t. false≢true (sym (l.2 m h) ∙ raced_own R T own m t)))

  least_one_race : (j : ℕ) → Least (raced_any R T) k (some j)
      → (i : ℕ) × (first_of R T (record_of (T.act j)) j ≡ some i) × OneRace R T Par k i j (record_of (T.act j))
  least_one_race j l =
      let w = second_named R T law fit Par k tie (record_of (T.act j)) j (least_own j l) in
      (w.0, w.1, record { named = w.2; least = least_over j l })

  -- a raced event is not ahead of its record's second
  not_earlier : (q m j : ℕ) (o : Option ℕ) → Least (raced R T q) k o → m < k → ((a n : ℕ) → PairOn R T Par q k a n → j ≤ n) → m < j
      → raced R T q m ≡ false
  not_earlier q m j none l mk over h = l m mk
  not_earlier q m j (some n) l mk over h =
      let w = second_named R T law fit Par k tie q n l in
      l.2 m (omega (arith, over w.0 n w.2))

  one_race_least : (i j r : ℕ) → OneRace R T Par k i j r → Least (raced_any R T) k (some j)
  unfolding raced_any
  one_race_least i j r W =
      let l = named_least R T law fit Par k tie r i j W.named in (
        l.0,
        raced_own R T r j l.1,
        λ m h.
            let q = record_of (T.act m) in
            not_earlier q m j (second_of R T q k) (least_is (raced R T q) k) (omega (arith, l.0)) (W.least q) h,
      )

  one_race_verdict : (i j r : ℕ) → OneRace R T Par k i j r → verdict_in R T k ≡ race i j r
  one_race_verdict i j r W =
      (race_at R T k j i r (second_least R T k (some j) (one_race_least i j r W)) (ap record_of W.named.is_race.second)
      (named_first R T law fit Par k tie r i j W.named)).0

  verdict_one_race : (i j r : ℕ) (o : Option ℕ) → Least (raced_any R T) k o → verdict_at R T o ≡ race i j r → OneRace R T Par k i j r
  verdict_one_race i j r none l e = absurd (let z : ◌≡◌ {A = ℕ} 0 1 = cc in omega arith)
  verdict_one_race i j r (some n) l e =
      let w = least_one_race n l in
      let f : race w.0 n (record_of (T.act n)) ≡ race i j r = rw w.1 at e in
      let x : w.0 ≡ i = cc in
      let y : n ≡ j = cc in
      let z : record_of (T.act n) ≡ r = cc in
      let v : OneRace R T Par k w.0 n r = rw z at w.2 in
      rw (x, y) at v

  -- the verdict is a race exactly if that is the earliest of the records' pairs
  pub verdict_earliest : (i j r : ℕ) → (verdict_in R T k ≡ race i j r) ↔ OneRace R T Par k i j r
  unfolding verdict_in
  verdict_earliest i j r = (verdict_one_race i j r (second_in R T k) (least_is (raced_any R T) k), one_race_verdict i j r)

  -- no second one fits
  pub one_race_only : (i j r m n q : ℕ) → OneRace R T Par k i j r → OneRace R T Par k m n q → (i ≡ m) × (j ≡ n) × (r ≡ q)
  one_race_only i j r m n q N M =
      let e = one_race_verdict i j r N in
      let f = one_race_verdict m n q M in
      (cc, cc, cc)

  clean_none : (o : Option ℕ) → verdict_at R T o ≡ clean → o ≡ none
  clean_none none e = refl
  clean_none (some j) e = absurd (let z : ◌≡◌ {A = ℕ} 0 1 = cc in omega arith)

  -- and it is clean exactly if no record has a race
  pub verdict_none : (verdict_in R T k ≡ clean) ↔ ((r : ℕ) → RecordFree R T law fit Par k tie r k)
  unfolding verdict_in raced_any
  verdict_none = (
    λ e r m n h P.
        let l : Least (raced_any R T) k none = rw (clean_none (second_in R T k) e) at (least_is (raced_any R T) k) in
        false≢true (sym (l n h) ∙ raced_own R T r n ((raced_is R T law fit Par k tie r n h).0 (m, P))),
    λ free. (clean_all R T k (second_least R T k none (quiet_any free))).0,
  )
    where
      quiet_any : ((r : ℕ) → RecordFree R T law fit Par k tie r k) → Least (raced_any R T) k none
      quiet_any free n h = free_quiet R T law fit Par k tie (record_of (T.act n)) k (omega arith) (free (record_of (T.act n))) n h
