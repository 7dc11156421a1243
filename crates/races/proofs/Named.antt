-- 01's words and the theory of races: the named pair is that of the earliest record, the verdict names it and no other fits, it is the
-- record's own pair with the smallest second, and what the places show where judging stops. Assumes nothing.
use mathlib.Core.Path.{◌≡◌, refl, ap, ◌∙◌}
use mathlib.Core.Logic.{◌↔◌}
use mathlib.Core.List.{List}
use mathlib.Core.Option
use mathlib.Core.Option.{Option, none, some}
use Prim.Native.Nat.{ℕ, ◌+◌, ◌*◌, ◌≤◌, ◌<◌}
use native.Mathlib.Omega.{arith}
use native.Mathlib.Decide.{dec_le}
use lib.ListN.{get_or}
use Rattle.jobfile.specs.Trace.{moves}
use Rattle.jobfile.specs.declared.event.Event.{Event}
use Rattle.relation.specs.Parallel.{Parallel, Rooted}
use Rattle.relation.specs.Strand.{strand_at}
use Rattle.relation.proofs.Laws.{rooted_less}
use Rattle.races.specs.Records.{no_pair, pair, Verdict, clean, race, second_of, stop_of, pair_at, pair_of, second_in, verdict_at, verdict_in, stop_in, OneRace}
use Rattle.races.specs.Entries.{event_or, strand_or, HasPlace}
use Rattle.races.specs.Shown.{Shown}
use Rattle.races.specs.Mark.{rules, layout, event_trace}
use Rattle.races.specs.Race.{Race}
use Rattle.races.specs.Named.{LastWrite, Standing, Named, NamedOn, SmallestSecond}
use Rattle.races.specs.Verdict.{last_write, standing, verdict, stop_at}
use Rattle.races.proofs.Places.{stop_none}
use Rattle.races.proofs.OneRace.{all_unraced, stop_quiet, stop_within, verdict_earliest, verdict_none, one_race_only}
use Rattle.races.proofs.Events.{lawful, fit, tied}
use Rattle.races.proofs.LastAndStanding.{last_write_is, no_last_write, standing_is, no_standing}
use Rattle.races.proofs.NamedOn.{RaceFreeOn, named_on_is, race_free_is, pair_named, pair_free, raced_has_pair}

module _ (ev : ℕ → Event) where
  -- there is no race with its second before j
  abbrev pub RaceFree : ℕ → Type 0
  RaceFree j = (m n : ℕ) → n < j → ¬ Race ev m n

  module _ (k : ℕ) (root : Rooted (moves ev) k) where
    -- it is the record's own pair with the smallest second
    smallest_to : (i j r : ℕ) → Named ev k i j r → NamedOn ev k i j r × SmallestSecond ev k j
    smallest_to i j r N = (
      record { within = N.within; is_race = N.is_race; on_its_record = N.on_its_record; earliest = λ m n l P on. N.earliest m n l P; first = N.first },
      λ m n q M. go m n q M (dec_le j n),
    )
      where
        go : (m n q : ℕ) → NamedOn ev k m n q → Dec (j ≤ n) → j ≤ n
        go m n q M (yes h) = h
        go m n q M (no h) = absurd (N.earliest m n (omega arith) M.is_race)

    smallest_from : (i j r : ℕ) → NamedOn ev k i j r × SmallestSecond ev k j → Named ev k i j r
    smallest_from i j r (N, least) = record {
      within = N.within;
      is_race = N.is_race;
      on_its_record = N.on_its_record;
      earliest = λ m n l P.
          let w = raced_has_pair ev k root m n P.number (omega (arith, N.within)) P refl in
          absurd (omega (arith, w.3, least w.0 w.1 P.number w.2));
      first = N.first;
    }

    -- "the pair with the smallest second event"
    pub named_smallest : (i j r : ℕ) → Named ev k i j r ↔ (NamedOn ev k i j r × SmallestSecond ev k j)
    named_smallest i j r = (smallest_to i j r, smallest_from i j r)

    named_to : (i j r : ℕ) → Named ev k i j r → OneRace rules (event_trace ev) (Parallel (moves ev)) k i j r
    named_to i j r N =
        let w = smallest_to i j r N in
        record { named = (named_on_is ev k root i j r).0 w.0; least = λ q m n M. w.1 m n q ((named_on_is ev k root m n q).1 M) }

    named_from : (i j r : ℕ) → OneRace rules (event_trace ev) (Parallel (moves ev)) k i j r → Named ev k i j r
    named_from i j r W =
        smallest_from i j r ((named_on_is ev k root i j r).1 W.named, λ m n q M. W.least q m n ((named_on_is ev k root m n q).0 M))

    -- the pair that 01 names is the earliest of the records' pairs
    pub named_is : (i j r : ℕ) → Named ev k i j r ↔ OneRace rules (event_trace ev) (Parallel (moves ev)) k i j r
    named_is i j r = (named_to i j r, named_from i j r)

  -- the verdict is a race exactly if the pair is the one to be named
  pub verdict_race : (k i j r : ℕ) → Rooted (moves ev) k → (verdict ev k ≡ race i j r) ↔ Named ev k i j r
  verdict_race k i j r root =
      let v = verdict_earliest rules (event_trace ev) (lawful ev) (fit ev) (Parallel (moves ev)) k (tied ev k root) i j r in
      (λ e. named_from k root i j r (v.0 e), λ N. v.1 (named_to k root i j r N))

  -- no second pair fits
  pub named_only : (k i j r i' j' r' : ℕ) → Rooted (moves ev) k → Named ev k i j r → Named ev k i' j' r' → (i ≡ i') × (j ≡ j') × (r ≡ r')
  named_only k i j r i' j' r' root N M =
      one_race_only rules (event_trace ev) (lawful ev) (fit ev) (Parallel (moves ev)) k (tied ev k root) i j r i' j' r'
      (named_to k root i j r N) (named_to k root i' j' r' M)

  -- the verdict is clean exactly if there is no race
  pub verdict_clean : (k : ℕ) → Rooted (moves ev) k → (verdict ev k ≡ clean) ↔ RaceFree k
  verdict_clean k root =
      let v = verdict_none rules (event_trace ev) (lawful ev) (fit ev) (Parallel (moves ev)) k (tied ev k root) in (
        λ e m n l P. (race_free_is ev k root P.number).1 (v.0 e P.number) m n l P refl,
        λ free. v.1 (λ r. (race_free_is ev k root r).0 (λ m n l P on. free m n l P)),
      )

  -- "The one-race call stays and gives the pair with the smallest second event."
  pub verdict_smallest : (k i j r : ℕ) → Rooted (moves ev) k → (verdict ev k ≡ race i j r) ↔ (NamedOn ev k i j r × SmallestSecond ev k j)
  verdict_smallest k i j r root =
      let v = verdict_race k i j r root in
      (λ e. smallest_to k root i j r (v.0 e), λ N. v.1 (smallest_from k root i j r N))

  -- and it is clean exactly if no record has a pair
  pub verdict_no_pair : (k : ℕ) → Rooted (moves ev) k → (verdict ev k ≡ clean) ↔ ((i j r : ℕ) → ¬ NamedOn ev k i j r)
  verdict_no_pair k root =
      let v = verdict_clean k root in (
        λ e i j r N. v.0 e i j N.within N.is_race,
        λ free. v.1 (λ m n l P. let w = raced_has_pair ev k root m n P.number l P refl in free w.0 w.1 P.number w.2),
      )

  -- 01's four entries of record r, by the definition, just before event n: "last write's event at r, its strand at 4,096 + r, standing
  -- read's event at 8,192 + r, its strand at 12,288 + r; 4,294,967,295 is none, for an event and its strand alike"
  pub record Entries (n r : ℕ) (P : List ℕ) : Type 0 where
    pub written : (w : ℕ) → LastWrite ev r n w → (get_or P r 0 ≡ w) × (get_or P (4096 + r) 0 ≡ strand_at (moves ev) w)
    pub unwritten : ((w : ℕ) → ¬ LastWrite ev r n w) → (get_or P r 0 ≡ 4294967295) × (get_or P (4096 + r) 0 ≡ 4294967295)
    pub read : (s : ℕ) → Standing ev r n s → (get_or P (8192 + r) 0 ≡ s) × (get_or P (12288 + r) 0 ≡ strand_at (moves ev) s)
    pub unread : ((s : ℕ) → ¬ Standing ev r n s) → (get_or P (8192 + r) 0 ≡ 4294967295) × (get_or P (12288 + r) 0 ≡ 4294967295)

  -- the places show them as they were at the record's own stop
  shown_entries : (m n records : ℕ) (P₀ P : List ℕ) → Rooted (moves ev) n → Shown rules (event_trace ev) layout m records P₀ P
      → (r : ℕ) → r < records → stop_of rules (event_trace ev) r m ≡ n → Entries n r P
  shown_entries m n records P₀ P root S r l stop =
      let wrote : HasPlace layout records r 0 = record { on_its_record = l; below = omega arith } in
      let stands : HasPlace layout records r 1 = record { on_its_record = l; below = omega arith } in
      let w : 8192 * 0 + r ≡ r = omega arith in
      let ws : 8192 * 0 + r + 4096 ≡ 4096 + r = omega arith in
      let s : 8192 * 1 + r ≡ 8192 + r = omega arith in
      let ss : 8192 * 1 + r + 4096 ≡ 12288 + r = omega arith in
      let write : get_or P r 0 ≡ event_or (last_write ev r n) = (rw w at (S.event r 0 wrote)) ∙ rw stop in
      let write_strand : get_or P (4096 + r) 0 ≡ strand_or (strand_at (moves ev)) (last_write ev r n) = (rw ws at (S.its_strand r 0 wrote)) ∙ rw stop in
      let read : get_or P (8192 + r) 0 ≡ event_or (standing ev r n) = (rw s at (S.event r 1 stands)) ∙ rw stop in
      let read_strand : get_or P (12288 + r) 0 ≡ strand_or (strand_at (moves ev)) (standing ev r n) = (rw ss at (S.its_strand r 1 stands)) ∙ rw stop in
      record {
        written = λ m W. let z = (last_write_is ev r n m).1 W in (write ∙ ap event_or z, write_strand ∙ ap (strand_or (strand_at (moves ev))) z);
        unwritten = λ f. let z = (no_last_write ev r n).1 f in (write ∙ ap event_or z, write_strand ∙ ap (strand_or (strand_at (moves ev))) z);
        read = λ m D. let z = (standing_is ev r n m root).1 D in (read ∙ ap event_or z, read_strand ∙ ap (strand_or (strand_at (moves ev))) z);
        unread = λ f. let z = (no_standing ev r n root).1 f in (read ∙ ap event_or z, read_strand ∙ ap (strand_or (strand_at (moves ev))) z);
      }

  -- up to where the places of a record that has a pair, or none, follow
  pair_stop : (k r i j : ℕ) → pair_of rules (event_trace ev) r k ≡ pair i j → stop_of rules (event_trace ev) r k ≡ j
  unfolding pair_of stop_of
  pair_stop k r i j = by (second_of rules (event_trace ev) r k)
    where
      by : (o : Option ℕ) → pair_at rules (event_trace ev) r o ≡ pair i j → Option.get_or o k ≡ j
      by none e = absurd (let z : ◌≡◌ {A = ℕ} 0 1 = cc in omega arith)
      by (some n) e = cc

  no_pair_stop : (k r : ℕ) → pair_of rules (event_trace ev) r k ≡ no_pair → stop_of rules (event_trace ev) r k ≡ k
  unfolding pair_of stop_of
  no_pair_stop k r = by (second_of rules (event_trace ev) r k)
    where
      by : (o : Option ℕ) → pair_at rules (event_trace ev) r o ≡ no_pair → Option.get_or o k ≡ k
      by none e = refl
      by (some n) e = absurd (let z : ◌≡◌ {A = ℕ} 0 1 = cc in omega arith)

  -- judging stops at the racing event, or after k events
  abbrev stop_by : ℕ → Verdict → ℕ
  stop_by k clean = k
  stop_by k (race i j r) = j

  stop_by_lem : (k : ℕ) (o : Option ℕ) (v : Verdict) → verdict_at rules (event_trace ev) o ≡ v → Option.get_or o k ≡ stop_by k v
  stop_by_lem k none v e = rw (← e)
  stop_by_lem k (some j) v e = rw (← e)

  pub stop_race : (k i j r : ℕ) → verdict ev k ≡ race i j r → stop_at ev k ≡ j
  unfolding verdict_in stop_in
  stop_race k i j r v = stop_by_lem k (second_in rules (event_trace ev) k) (race i j r) v

  pub stop_clean : (k : ℕ) → verdict ev k ≡ clean → stop_at ev k ≡ k
  unfolding verdict_in stop_in
  stop_clean k v = stop_by_lem k (second_in rules (event_trace ev) k) clean v

  -- where judging k events stops, nothing has raced: so the buffer shows the last write and the standing read of every record
  pub stop_entries : (k records : ℕ) (P₀ P : List ℕ) → Rooted (moves ev) k → Shown rules (event_trace ev) layout (stop_at ev k) records P₀ P
      → (r : ℕ) → r < records → Entries (stop_at ev k) r P
  stop_entries k records P₀ P root S r l =
      let n = stop_at ev k in
      shown_entries n n records P₀ P (rooted_less (moves ev) n k (stop_within rules (event_trace ev) k) root) S r l
      (stop_none rules (event_trace ev) r n (all_unraced rules (event_trace ev) n (stop_quiet rules (event_trace ev) k) r))

  -- "A record's places freeze at its race": past every race they show what they held just before the second of the record's own, and those
  -- of a record that has none what they hold behind all k events
  pub frozen_entries : (k records : ℕ) (P₀ P : List ℕ) → Rooted (moves ev) k → Shown rules (event_trace ev) layout k records P₀ P
      → (r : ℕ) → r < records → (i j : ℕ) → NamedOn ev k i j r → Entries j r P
  frozen_entries k records P₀ P root S r l i j N =
      shown_entries k j records P₀ P (rooted_less (moves ev) j k (omega (arith, N.within)) root) S r l
      (pair_stop k r i j ((pair_named ev k root i j r).1 N))

  pub following_entries : (k records : ℕ) (P₀ P : List ℕ) → Rooted (moves ev) k → Shown rules (event_trace ev) layout k records P₀ P
      → (r : ℕ) → r < records → RaceFreeOn ev r k → Entries k r P
  following_entries k records P₀ P root S r l free = shown_entries k k records P₀ P root S r l (no_pair_stop k r ((pair_free ev k root r).1 free))
