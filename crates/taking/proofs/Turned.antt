-- One event of the run: an access that finds something is the second of its record's race, any other one goes into a place, and an event
-- that is no access is behind once its strand has begun. Assumes nothing.
use mathlib.Core.Path.{◌≡◌, refl, sym, ap, ◌∙◌}
use mathlib.Core.Logic.{◌⊎◌, inl, inr, ◌≢◌}
use mathlib.Core.List.{List}
use mathlib.Core.Bool.{Bool, true, false, false≢true}
use mathlib.Core.Option.{none, some}
use Prim.Native.Nat.{ℕ, suc, ◌+◌, ◌-◌, ◌≤◌, ◌<◌}
use native.Mathlib.Omega.{arith}
use lib.ListN.{get_or}
use borrow.Author.Tests.{le-ltb}
use Rattle.jobfile.specs.Events.{access_of, move_of}
use Rattle.jobfile.specs.Trace.{event_at, moves}
use Rattle.jobfile.specs.declared.event.Event.{Event}
use Rattle.jobfile.specs.declared.event.Kind.{Kind}
use Rattle.jobfile.specs.declared.event.Kind.TheVariants.{Write, Read}
use Rattle.jobfile.specs.declared.event.Move.{Move}
use Rattle.jobfile.specs.declared.event.Move.TheVariants.{Stays}
use Rattle.std.specs.Prelude.{None, Some}
use Rattle.jobfile.specs.Events.{access_to}
use Rattle.jobfile.proofs.Accesses.{access_stays}
use Rattle.relation.proofs.Strand.{begun_some}
use Rattle.strands.specs.Memory.{OpenTasks}
use Rattle.strands.specs.TasksAfter.{tasks_after}
use Rattle.strands.specs.Reached.{Takes, Ready, Advances}
use Rattle.strands.specs.declared.Now.{Now}
use Rattle.strands.proofs.Events.{nothing_advances}
use Rattle.races.specs.Trace.{Trace, on_record}
use Rattle.races.specs.Places.{found_class, first_of}
use Rattle.races.specs.Records.{second_of}
use Rattle.races.specs.Shown.{Shown, NamesNone, Facing, Accessible, Accessed}
use Rattle.races.specs.Mark.{rank, act_of, rules, layout, two, event_trace}
use Rattle.races.proofs.Places.{elsewhere_second}
use Rattle.races.proofs.Accesses.{same_or_not, names_class, names_first, names_none}
use Rattle.races.proofs.Shown.{shown_other, shown_frozen, shown_racing, second_raced, second_clean, second_frozen, second_elsewhere}
use Rattle.races.proofs.Mark.{none_told, read_none, last_write_named, standing_read_named}
use Rattle.races.proofs.Events.{lawful, fit}
use Rattle.std.specs.Prelude.{None, Some}
use Rattle.taking.specs.Buffers.{Buffers, orders_in}
use Rattle.taking.specs.Asking.{held_or, label_above, held_above, clashing_of}
use Rattle.taking.specs.Turns.{Run, Midway, Still, Races, Turnable, Turns}
use Rattle.taking.proofs.Asking.{run_rooted, on_its_record, current_labelled, arriving}

-- the buffers with other places, and with other orders
abbrev pub placed : Buffers → List ℕ → Buffers
placed B P = record { labels = B.labels; links = B.links; places = P }

abbrev pub moved : Buffers → List ℕ → List ℕ → Buffers
moved B L K = record { labels = L; links = K; places = B.places }

-- event i may be taken
pub taken : {part : List ℕ} {records k i : ℕ} → Run part records k → i < k → Takes (moves (event_at part)) i (move_of (event_at part i))
taken {i = i} R h = record {
  next = refl;
  rooted = run_rooted R (suc i) h;
  shallow = R.accepted.shallow (suc i) (omega (arith, R.within));
  few = R.accepted.few (suc i) (omega (arith, R.within));
}

-- One event further, whatever has raced so far.
module _ {part : List ℕ} {records k : ℕ} {B₀ B : Buffers} {T : OpenTasks} {now : Now} {i : ℕ}
    (R : Run part records k) (behind : i < k) (S : Midway part records B₀ B T now i) where
  -- an access does not move: the state of the strands is that behind it
  access_midway : (kind : Kind) (r : ℕ) → access_of (event_at part i) ≡ access_to kind r → (P' : List ℕ)
      → Shown rules (event_trace (event_at part)) layout (suc i) records B₀.places P' → Midway part records B₀ (placed B P') T now (suc i)
  access_midway kind r e P' shown = record {
    reached = (nothing_advances (orders_in B) T now Stays T (refl, refl, refl, refl)).behind (moves (event_at part)) i (orders_in B₀) S.reached
        (rw (access_stays (event_at part i) kind r e) at (taken R behind));
    shown = shown;
    places_room = omega (arith, shown.size, S.shown.size, S.places_room);
  }

  -- an access of a record that has raced is left alone
  pub frozen_midway : (kind : Kind) (r j : ℕ) → access_of (event_at part i) ≡ access_to kind r → second_of rules (event_trace (event_at part)) r i ≡ some j
      → Midway part records B₀ B T now (suc i)
  frozen_midway kind r j e raced =
      let ev = event_at part in
      access_midway kind r e B.places
      (shown_frozen rules (event_trace ev) layout records B₀.places (lawful ev) (fit ev) i B.places S.shown r (rank kind) j (ap act_of e) raced)

  -- the second of a race changes nothing
  pub raced_midway : Races part i → Midway part records B₀ B T now (suc i)
  raced_midway W =
      let ev = event_at part in
      access_midway W.kind W.number W.is_an_access B.places
      (shown_racing (lawful ev) (fit ev) (ap act_of W.is_an_access) W.unraced W.first W.names S.shown)

  -- an event that is no access
  move_midway : access_of (event_at part i) ≡ None → (L' K' : List ℕ) (T' : OpenTasks) (next : Now)
      → Advances (orders_in B) T now (move_of (event_at part i)) (record { labels = L'; links = K' }) T' next → Midway part records B₀ (moved B L' K') T' next (suc i)
  move_midway e L' K' T' next advances =
      let ev = event_at part in
      record {
        reached = advances.behind (moves ev) i (orders_in B₀) S.reached (taken R behind);
        shown = shown_other rules (event_trace ev) layout records B₀.places (lawful ev) (fit ev) i B.places S.shown (ap act_of e);
        places_room = S.places_room;
      }

-- The seconds of all records one event further.
module _ (part : List ℕ) (i : ℕ) where
  abbrev trace : Trace
  trace = event_trace (event_at part)

  -- an access of record r: that of r, and those of all others
  seconds : (kind : Kind) (r : ℕ) → access_of (event_at part i) ≡ access_to kind r → second_of rules trace r (suc i) ≡ second_of rules trace r i → Still part i (suc i)
  seconds kind r e own q = by (same_or_not q r)
    where
      by : (q ≡ r) ⊎ (q ≢ r) → second_of rules trace q (suc i) ≡ second_of rules trace q i
      by (inl z) = rw z own
      by (inr z) = second_elsewhere rules trace (lawful (event_at part)) (fit (event_at part)) i r (rank kind) (ap act_of e) q z

  pub frozen_still : (kind : Kind) (r j : ℕ) → access_of (event_at part i) ≡ access_to kind r → second_of rules trace r i ≡ some j → Still part i (suc i)
  frozen_still kind r j e raced =
      seconds kind r e (second_frozen rules trace (lawful (event_at part)) (fit (event_at part)) i r (rank kind) (ap act_of e) j raced ∙ sym raced)

  clean_still : (kind : Kind) (r : ℕ) → access_of (event_at part i) ≡ access_to kind r → second_of rules trace r i ≡ none → first_of rules trace r i ≡ none
      → Still part i (suc i)
  clean_still kind r e unraced f =
      seconds kind r e (second_clean rules trace (lawful (event_at part)) (fit (event_at part)) i r (rank kind) (ap act_of e) unraced f ∙ sym unraced)

  move_still : access_of (event_at part i) ≡ None → Still part i (suc i)
  move_still e q = elsewhere_second rules trace (lawful (event_at part)) (fit (event_at part)) q i (ap (λ a. on_record q (act_of a)) e)

  -- the second of a race: of its record it is the second, and no other record has raced there
  pub raced_second : (W : Races part i) → second_of rules trace W.number (suc i) ≡ some i
  raced_second W =
      second_raced rules trace (lawful (event_at part)) (fit (event_at part)) i W.number (rank W.kind) (ap act_of W.is_an_access) W.unraced
      W.first W.names

  pub raced_others : (W : Races part i) → (q : ℕ) → q ≢ W.number → second_of rules trace q (suc i) ≡ second_of rules trace q i
  raced_others W =
      second_elsewhere rules trace (lawful (event_at part)) (fit (event_at part)) i W.number (rank W.kind) (ap act_of W.is_an_access)

-- An access of a record that has not raced, by what the labels tell of both places: which place is named, if any.
module _ {part : List ℕ} {records k : ℕ} {B₀ B : Buffers} {T : OpenTasks} {now : Now} {i : ℕ}
    (R : Run part records k) (next : i < k) (S : Midway part records B₀ B T now i) (r : ℕ)
    (unraced : second_of rules (event_trace (event_at part)) r i ≡ none) where
  abbrev told : ℕ → Bool
  told at = held_above B.labels B.places at (now.strands - 1)

  facing : (kind : Kind) → access_of (event_at part i) ≡ access_to kind r → (wrote stood : Bool) → wrote ≡ told r → stood ≡ told (8192 + r)
      → Facing rules (event_trace (event_at part)) i r (rank kind) (two wrote stood)
  facing kind e wrote stood w s = (arriving R next S kind r e unraced wrote stood w s).facing

  -- the last write is parallel: it is named, whatever stands
  pub written_class : (kind : Kind) → access_of (event_at part i) ≡ access_to kind r → true ≡ told r
      → found_class rules (event_trace (event_at part)) r i ≡ some 0
  written_class kind e w = names_class (facing kind e true (told (8192 + r)) w refl) 0 (last_write_named (rank kind) (told (8192 + r)))

  written_races : (kind : Kind) → access_of (event_at part i) ≡ access_to kind r → true ≡ told r → Races part i
  written_races kind e w =
      let f = names_first (facing kind e true (told (8192 + r)) w refl) 0 (last_write_named (rank kind) (told (8192 + r))) in
      record { kind = kind; number = r; is_an_access = e; unraced = unraced; first = f.0; names = f.2 }

  -- only the standing read is, and this is a write
  pub read_class : access_of (event_at part i) ≡ access_to Write r → false ≡ told r → true ≡ told (8192 + r)
      → found_class rules (event_trace (event_at part)) r i ≡ some 1
  read_class e w s = names_class (facing Write e false true w s) 1 standing_read_named

  read_races : access_of (event_at part i) ≡ access_to Write r → false ≡ told r → true ≡ told (8192 + r) → Races part i
  read_races e w s =
      let f = names_first (facing Write e false true w s) 1 standing_read_named in
      record { kind = Write; number = r; is_an_access = e; unraced = unraced; first = f.0; names = f.2 }

  -- neither names anything
  pub nothing_first : (kind : Kind) (stood : Bool) → access_of (event_at part i) ≡ access_to kind r → false ≡ told r → stood ≡ told (8192 + r)
      → NamesNone rules (rank kind) (two false stood) → first_of rules (event_trace (event_at part)) r i ≡ none
  nothing_first kind stood e w s n = names_none (facing kind e false stood w s) n

-- asked with its own strand, a place names nothing
own_label : (L : List ℕ) (strand : ℕ) → true ≡ label_above L strand strand → ⊥
own_label L strand t = false≢true (sym (le-ltb (get_or L (4096 + strand) 0) (get_or L (4096 + strand) 0) (omega arith)) ∙ sym t)

-- what the next event asks, and what it gives; e is the event that was read
module _ {part : List ℕ} {i : ℕ} {B : Buffers} {T : OpenTasks} {now : Now} (A : Turnable part i B T now)
    (e : Event) (same : e ≡ event_at part i) where
  pub some_strands : 1 ≤ now.strands
  some_strands = omega (arith, A.midway.reached.strands, begun_some (moves (event_at part)) i)

  pub strand_below : now.strands - 1 < 4096
  strand_below = current_labelled A.run A.next A.midway

  -- an access to record r
  module _ (kind : Kind) (r : ℕ) (to : access_of e ≡ access_to kind r) where
    to_record : access_of (event_at part i) ≡ access_to kind r
    to_record = rw (← same) to

    pub record_below : r < 4096
    record_below = omega (arith, on_its_record A.run A.next A.midway kind r to_record, A.run.records_within)

    -- an access leaves the open tasks
    tasks_stay : T ≡ tasks_after (move_of (event_at part i)) now.strands now.top T
    tasks_stay = rw (access_stays (event_at part i) kind r to_record)

    -- the last write is parallel
    pub turns_written : true ≡ held_above B.labels B.places r (now.strands - 1) → Turns part i B T now B T None
    turns_written w = record {
      turned = λ records k B₀ R h S F. (refl, written_races R h S r (F kind r to_record) kind to_record w);
      tasks_are = tasks_stay;
    }

    module _ (w : false ≡ held_above B.labels B.places r (now.strands - 1)) where
      -- the standing read is, and this is a write
      pub turns_read : true ≡ label_above B.labels (now.strands - 1) (clashing_of kind (held_or (get_or B.places (8192 + r + 4096) 0) (now.strands - 1)) (now.strands - 1))
          → Turns part i B T now B T None
      turns_read s = record {
        turned = λ records k B₀ R h S F. (refl, by kind to_record s R h S (F kind r to_record));
        tasks_are = tasks_stay;
      }
        where
          by : (kind : Kind) → access_of (event_at part i) ≡ access_to kind r
              → true ≡ label_above B.labels (now.strands - 1) (clashing_of kind (held_or (get_or B.places (8192 + r + 4096) 0) (now.strands - 1)) (now.strands - 1))
              → {records k : ℕ} {B₀ : Buffers} → Run part records k → i < k → Midway part records B₀ B T now i
              → second_of rules (event_trace (event_at part)) r i ≡ none → Races part i
          by Write e s R h S unraced = read_races R h S r unraced e w s
          by Read e s R h S unraced = absurd (own_label B.labels (now.strands - 1) s)

      -- neither: it goes into its place
      module _ (stood : Bool) (s : stood ≡ held_above B.labels B.places (8192 + r) (now.strands - 1))
          (f : false ≡ label_above B.labels (now.strands - 1) (clashing_of kind (held_or (get_or B.places (8192 + r + 4096) 0) (now.strands - 1)) (now.strands - 1))) where
        pub names_nothing : NamesNone rules (rank kind) (two false stood)
        names_nothing = by kind stood s f
          where
            by : (kind : Kind) (stood : Bool) → stood ≡ held_above B.labels B.places (8192 + r) (now.strands - 1)
                → false ≡ label_above B.labels (now.strands - 1) (clashing_of kind (held_or (get_or B.places (8192 + r + 4096) 0) (now.strands - 1)) (now.strands - 1))
                → NamesNone rules (rank kind) (two false stood)
            by Write false s f = none_told 0
            by Write true s f = absurd (false≢true (f ∙ sym s))
            by Read stood s f = read_none stood

        pub accessible : Accessible rules layout (two false stood) B.places r (rank kind) i (now.strands - 1)
        accessible = record {
          T = event_trace (event_at part);
          n = i;
          records = A.records;
          P₀ = A.B₀.places;
          arriving = arriving A.run A.next A.midway kind r to_record (A.fresh kind r to_record) false stood w s;
        }

        pub turns_accessed : (P' : List ℕ) → Accessed rules layout (two false stood) B.places r (rank kind) i (now.strands - 1) P'
            → Turns part i B T now (placed B P') T (Some now)
        turns_accessed P' accessed = record {
          turned = λ records k B₀ R h S F.
              let unraced = F kind r to_record in (
                access_midway R h S kind r to_record P'
                    (accessed (event_trace (event_at part)) i records B₀.places (arriving R h S kind r to_record unraced false stood w s)),
                clean_still part i kind r to_record unraced (nothing_first R h S r unraced kind stood to_record w s names_nothing),
              );
          tasks_are = tasks_stay;
        }

  -- an event that is no access, and its move
  module _ (to : access_of e ≡ None) (m : Move) (is : m ≡ move_of e) where
    no_access : access_of (event_at part i) ≡ None
    no_access = rw (← same) to

    its_move : m ≡ move_of (event_at part i)
    its_move = is ∙ ap move_of same

    pub ready : Ready (orders_in B) T now m
    ready = record {
      mv = moves (event_at part);
      n = i;
      M₀ = orders_in A.B₀;
      reached = A.midway.reached;
      takes = rw its_move (taken A.run A.next);
    }

    pub turns_moved : (L' K' : List ℕ) (T' : OpenTasks) (next : Now) → Advances (orders_in B) T now m (record { labels = L'; links = K' }) T' next
        → Turns part i B T now (moved B L' K') T' (Some next)
    turns_moved L' K' T' next advances =
        let A = rw its_move at advances in
        record {
          turned = λ records k B₀ R h S F. (move_midway R h S no_access L' K' T' next A, move_still part i no_access);
          tasks_are = A.tasks_are;
        }
