-- Each record's own pair in 01's words and in the theory of races: the computed pair is the one that the rule names within the record, a
-- record has one exactly if it has raced, and no other fits. Assumes nothing.
use mathlib.Core.Path.{◌≡◌, refl, sym, ap, ◌∙◌}
use mathlib.Core.Logic.{inl, inr, ◌↔◌, ◌≢◌}
use mathlib.Core.Bool.{true, ◌||◌}
use mathlib.Core.Option.{some}
use Prim.Native.Nat.{ℕ, zero, suc, ◌≤◌, ◌<◌}
use native.Mathlib.Omega.{arith}
use Rattle.jobfile.specs.Events.{access_of}
use Rattle.jobfile.specs.Trace.{moves}
use Rattle.jobfile.specs.declared.event.Event.{Event}
use Rattle.jobfile.specs.declared.event.Kind.{Kind}
use Rattle.jobfile.specs.declared.event.Kind.TheVariants.{Read}
use Rattle.jobfile.specs.Events.{access_to}
use Rattle.jobfile.proofs.Accesses.{same_access}
use Rattle.relation.specs.Parallel.{Parallel, Rooted}
use Rattle.relation.proofs.Laws.{rooted_less}
use Rattle.races.specs.Trace.{class_of}
use Rattle.races.specs.Places.{held}
use Rattle.races.specs.Records.{no_pair, pair, pair_of, RaceOn, FirstOn, PairOn}
use Rattle.races.specs.Mark.{rank, act_of, is_write, rules, event_trace}
use Rattle.races.specs.Race.{conflict, Race}
use Rattle.races.specs.Named.{First, NamedOn}
use Rattle.races.proofs.Records.{RecordFree, pair_is, pair_none, pair_only, race_early}
use Rattle.races.proofs.Events.{access_of_lem, clash_is, lawful, fit, tied}
use Rattle.races.proofs.LastAndStanding.{last_write_is, standing_is, standing_read}

module _ (ev : ℕ → Event) where
  -- a race is one of its record
  race_on : (m j r : ℕ) (P : Race ev m j) → P.number ≡ r → RaceOn rules (event_trace ev) (Parallel (moves ev)) r m j
  race_on m j r P on = record {
    a = rank P.first_kind;
    b = rank P.second_kind;
    earlier = P.earlier;
    first = ap act_of P.first ∙ rw on;
    second = ap act_of P.second ∙ rw on;
    clash = clash_is P.first_kind P.second_kind ∙ P.clash;
    parallel = P.parallel;
  }

  on_race : (m j r : ℕ) → RaceOn rules (event_trace ev) (Parallel (moves ev)) r m j → (P : Race ev m j) × (P.number ≡ r)
  on_race m j r P =
      let x = access_of_lem (access_of (ev m)) r P.a P.first in
      let y = access_of_lem (access_of (ev j)) r P.b P.second in (
        record {
          number = r;
          first_kind = x.0;
          second_kind = y.0;
          earlier = P.earlier;
          first = x.1;
          second = y.1;
          clash = sym (clash_is x.0 y.0) ∙ rw (x.2, y.2) P.clash;
          parallel = P.parallel;
        },
        refl,
      )

  -- no race on record r has its second before j
  abbrev pub RaceFreeOn : ℕ → ℕ → Type 0
  RaceFreeOn r j = (m n : ℕ) → n < j → (P : Race ev m n) → P.number ≢ r

  -- an access of a race on record r is one to r
  to_record : (n q r : ℕ) (kind : Kind) → access_of (ev n) ≡ access_to kind q → q ≡ r → access_of (ev n) ≡ access_to kind r
  to_record n q r kind a on = a ∙ ap (access_to kind) on

  -- two records never share a second
  pub second_one_record : (k i j r m q : ℕ) → NamedOn ev k i j r → NamedOn ev k m j q → r ≡ q
  second_one_record k i j r m q N M =
      let x = to_record j N.is_race.number r N.is_race.second_kind N.is_race.second N.on_its_record in
      let y = to_record j M.is_race.number q M.is_race.second_kind M.is_race.second M.on_its_record in
      (same_access N.is_race.second_kind M.is_race.second_kind r q (sym x ∙ y)).1

  module _ (k : ℕ) (root : Rooted (moves ev) k) where
    -- the rule of the first
    first_to : (i j r : ℕ) (P : Race ev i j) → P.number ≡ r → j < k → First ev i j r
        → FirstOn rules (event_trace ev) (Parallel (moves ev)) r i j
    first_to i j r P on jk (inl x) = record {
      class = 0;
      below = omega arith;
      clash = refl;
      holds = (last_write_is ev r j i).1 x.0;
      smallest = λ d w l c e Q. absurd (omega arith);
    }
    first_to i j r P on jk (inr x) =
        let reads = (same_access P.first_kind Read P.number r (sym P.first ∙ (standing_read ev r x.1).1)).0 in
        let clash : conflict Read P.second_kind ≡ true = rw reads at P.clash in
        let class : class_of (act_of (access_of (ev j))) ≡ rank P.second_kind = ap (λ a. class_of (act_of a)) P.second in
        record {
          class = 1;
          below = omega arith;
          clash = rw class (clash_is Read P.second_kind ∙ clash);
          holds = (standing_is ev r j i (rooted_less (moves ev) j k (omega arith) root)).1 x.1;
          smallest = λ d w l c e Q. let z : d ≡ 0 = omega arith in x.0 w ((last_write_is ev r j w).0 (rw z at e)) Q;
        }

    first_from : (i j r : ℕ) → Parallel (moves ev) i j → j < k → FirstOn rules (event_trace ev) (Parallel (moves ev)) r i j → First ev i j r
    first_from i j r P jk F = go F.class F.below F.holds F.smallest
      where
        go : (c : ℕ) → c < 2 → held rules (event_trace ev) r c j ≡ some i
            → ((d w : ℕ) → d < c → (is_write d || is_write (class_of (act_of (access_of (ev j))))) ≡ true → held rules (event_trace ev) r d j ≡ some w
            → ¬ Parallel (moves ev) w j)
            → First ev i j r
        go zero l h s = inl ((last_write_is ev r j i).0 h, P)
        go (suc zero) l h s =
            let up_to_j = rooted_less (moves ev) j k (omega arith) root in
            inr (λ w e. s 0 w (omega arith) refl ((last_write_is ev r j w).1 e), (standing_is ev r j i up_to_j).0 h)
        go (suc (suc c)) l h s = absurd (omega arith)

    on_from : (i j r : ℕ) → PairOn rules (event_trace ev) (Parallel (moves ev)) r k i j → NamedOn ev k i j r
    on_from i j r N =
        let w = on_race i j r N.is_race in
        record {
          within = N.within;
          is_race = w.0;
          on_its_record = w.1;
          earliest = λ m n l P on. N.earliest m n l (race_on m n r P on);
          first = first_from i j r N.is_race.parallel N.within N.first;
        }

    on_to : (i j r : ℕ) → NamedOn ev k i j r → PairOn rules (event_trace ev) (Parallel (moves ev)) r k i j
    on_to i j r N = record {
      within = N.within;
      is_race = race_on i j r N.is_race N.on_its_record;
      earliest = λ m n l P. let w = on_race m n r P in N.earliest m n l w.0 w.1;
      first = first_to i j r N.is_race N.on_its_record N.within N.first;
    }

    -- the pair that the rule names within a record is the record's pair
    pub named_on_is : (i j r : ℕ) → NamedOn ev k i j r ↔ PairOn rules (event_trace ev) (Parallel (moves ev)) r k i j
    named_on_is i j r = (on_to i j r, on_from i j r)

    -- that a record has no race, in 01's words and in the theory's
    pub race_free_is : (r : ℕ) → RaceFreeOn r k ↔ RecordFree rules (event_trace ev) (lawful ev) (fit ev) (Parallel (moves ev)) k (tied ev k root) r k
    race_free_is r = (
      λ free m n l P. let w = on_race m n r P in free m n l w.0 w.1,
      λ free m n l P on. free m n l (race_on m n r P on),
    )

    -- a record's computed pair is i and j exactly if the rule names these within the record
    pub pair_named : (i j r : ℕ) → (pair_of rules (event_trace ev) r k ≡ pair i j) ↔ NamedOn ev k i j r
    pair_named i j r =
        let v = pair_is rules (event_trace ev) (lawful ev) (fit ev) (Parallel (moves ev)) k (tied ev k root) r i j in
        (λ e. on_from i j r (v.0 e), λ N. v.1 (on_to i j r N))

    -- and there is none exactly if the first k events hold no race on the record
    pub pair_free : (r : ℕ) → (pair_of rules (event_trace ev) r k ≡ no_pair) ↔ RaceFreeOn r k
    pair_free r =
        let v = pair_none rules (event_trace ev) (lawful ev) (fit ev) (Parallel (moves ev)) k (tied ev k root) r in
        let free = race_free_is r in
        (λ e. free.1 (v.0 e), λ f. v.1 (free.0 f))

    -- no second pair of a record fits
    pub named_on_once : (i j m n r : ℕ) → NamedOn ev k i j r → NamedOn ev k m n r → (i ≡ m) × (j ≡ n)
    named_on_once i j m n r N M =
        pair_only rules (event_trace ev) (lawful ev) (fit ev) (Parallel (moves ev)) k (tied ev k root) r i j m n (on_to i j r N) (on_to m n r M)

    -- a record that races has a pair, with no later second
    pub raced_has_pair : (m n r : ℕ) → n < k → (P : Race ev m n) → P.number ≡ r → (i : ℕ) × (j : ℕ) × NamedOn ev k i j r × (j ≤ n)
    raced_has_pair m n r l P on =
        let w = race_early rules (event_trace ev) (lawful ev) (fit ev) (Parallel (moves ev)) k (tied ev k root) r m n l (race_on m n r P on) in
        (w.0, w.1, on_from w.0 w.1 r w.3, w.2)

    -- a computed pair is two events of the first k, the earlier one first, both accesses to the record
    pub second_below : (i j r : ℕ) → pair_of rules (event_trace ev) r k ≡ pair i j
        → (i < j) × (j < k) × ((a : Kind) × (access_of (ev i) ≡ access_to a r)) × ((b : Kind) × (access_of (ev j) ≡ access_to b r))
    second_below i j r e =
        let N = (pair_named i j r).0 e in
        let P = N.is_race in (
          P.earlier,
          N.within,
          (P.first_kind, to_record i P.number r P.first_kind P.first N.on_its_record),
          (P.second_kind, to_record j P.number r P.second_kind P.second N.on_its_record),
        )
