-- No second answer and no second contents fit the contracts of `take`, of `until_race` and of `find`. Assumes nothing.
use mathlib.Core.Path.{◌≡◌, sym, ap, ◌∙◌}
use mathlib.Core.List.{List}
use mathlib.Core.Bool.{false≢true}
use mathlib.Core.Option.{none, some, get_or}
use Prim.Native.Nat.{ℕ, suc, ◌≤◌}
use native.Mathlib.Omega.{arith}
use native.Mathlib.Decide.{dec_le}
use Rattle.jobfile.specs.Trace.{event_at, moves}
use Rattle.relation.specs.Parallel.{Rooted}
use Rattle.strands.specs.Memory.{OpenTasks}
use Rattle.strands.specs.declared.Now.{Now}
use Rattle.strands.proofs.OneContents.{SameNumbers, reached_memory, reached_numbers}
use Rattle.races.specs.Places.{given}
use Rattle.races.specs.Mark.{rank, rules, layout, event_trace}
use Rattle.races.specs.Records.{raced}
use Rattle.races.proofs.Search.{least_kept}
use Rattle.races.proofs.Shown.{shown_unique}
use Rattle.std.specs.Prelude.{Option, None, Some}
use Rattle.taking.specs.declared.Reach.{Reach}
use Rattle.taking.specs.declared.Found.{Found}
use Rattle.taking.specs.Buffers.{Buffers, orders_in}
use Rattle.taking.specs.Turns.{Midway, Still, Races, Turnable, Turned, Turns, Runnable, Went, Reaches, FirstFound}
use Rattle.taking.proofs.Asking.{run_rooted}
use Rattle.taking.proofs.Turned.{raced_second}

-- buffers whose three lists are the same are the same
pub buffers_once : (B B' : Buffers) → orders_in B ≡ orders_in B' → B.places ≡ B'.places → B ≡ B'
buffers_once B B' o p = listed (ap (λ M. M.labels) o) (ap (λ M. M.links) o) p
  where
    listed : {L L' K K' P P' : List ℕ} → L ≡ L' → K ≡ K' → P ≡ P'
        → ◌≡◌ {A = Buffers} (record { labels = L; links = K; places = P }) (record { labels = L'; links = K'; places = P' })
    listed l k p = rw (l, k, p)

-- what two turns say alike: a race both, or the same numbers
abbrev pub SameTurn : Option Now → Option Now → Type 0
SameTurn (Some next) (Some next') = SameNumbers next next'
SameTurn None None = Unit {0}
SameTurn (Some next) None = ⊥
SameTurn None (Some next) = ⊥

module _ {part : List ℕ} {records : ℕ} {B₀ B B' : Buffers} {T T' : OpenTasks} {now now' : Now} {i : ℕ} (root : Rooted (moves (event_at part)) i)
    (S : Midway part records B₀ B T now i) (S' : Midway part records B₀ B' T' now' i) where
  midway_once : B ≡ B'
  midway_once =
      buffers_once B B' (reached_memory root S.reached S'.reached)
      (shown_unique rules (event_trace (event_at part)) layout records B₀.places i B.places B'.places S.shown S'.shown)

-- no record has raced at event i, and one has
not_both : (part : List ℕ) (i : ℕ) → Still part i (suc i) → Races part i → ⊥
not_both part i still W =
    let z : some i ≡ none = sym (raced_second part i W) ∙ still W.number ∙ W.unraced in
    false≢true (sym (ap given z))

-- what `take` gives, where it may be called
pub taken_once : (part : List ℕ) (i : ℕ) (B : Buffers) (T : OpenTasks) (now : Now) (B' B'' : Buffers) (T' T'' : OpenTasks) (turn turn' : Option Now)
    → Turnable part i B T now → Turns part i B T now B' T' turn → Turns part i B T now B'' T'' turn'
    → (B' ≡ B'') × (T' ≡ T'') × SameTurn turn turn'
taken_once part i B T now B' B'' T' T'' turn turn' A X Y =
    let same =
    by turn turn' (X.turned A.records A.k A.B₀ A.run A.next A.midway A.fresh)
    (Y.turned A.records A.k A.B₀ A.run A.next A.midway A.fresh) in
    (same.0, X.tasks_are ∙ sym Y.tasks_are, same.1)
  where
    by : (t t' : Option Now) → Turned part i A.records A.B₀ B B' T' t → Turned part i A.records A.B₀ B B'' T'' t' → (B' ≡ B'') × SameTurn t t'
    by (Some next) (Some next') U W =
        let root = run_rooted A.run (suc i) A.next in
        (midway_once root U.0 W.0, reached_numbers root U.0.reached W.0.reached)
    by None None U W = (U.0 ∙ sym W.0, tt)
    by (Some next) None U W = absurd (not_both part i U.1 W.1)
    by None (Some next) U W = absurd (not_both part i W.1 U.1)

-- how far two runs go alike, and their numbers
abbrev pub SameReach : Reach → Reach → Type 0
SameReach a b = (a.at ≡ b.at) × SameNumbers a.state b.state

-- a run does not go past an event that races: its record would have raced there
no_further : (part : List ℕ) (from i n : ℕ) → Still part from i → Still part from n → suc i ≤ n → Races part i → ⊥
no_further part from i n a b l W =
    let tr = event_trace (event_at part) in
    let raced = least_kept (raced rules tr W.number) (suc i) n i l (raced_second part i W) in
    let z : some i ≡ none = sym raced ∙ b W.number ∙ sym (a W.number) ∙ W.unraced in
    false≢true (sym (ap given z))

as_far : {part : List ℕ} {from to records : ℕ} {B₀ B' B'' : Buffers} {T' T'' : OpenTasks} {reach reach' : Reach}
    → Went part from to records B₀ B' T' reach → Went part from to records B₀ B'' T'' reach' → reach.at ≡ reach'.at
as_far {part = part} {from = from} {reach = reach} {reach' = reach'} u v = by (dec_le (suc reach.at) reach'.at) (dec_le (suc reach'.at) reach.at)
  where
    by : Dec (suc reach.at ≤ reach'.at) → Dec (suc reach'.at ≤ reach.at) → reach.at ≡ reach'.at
    by (yes l) y = absurd (no_further part from reach.at reach'.at u.still v.still l (u.races (omega (arith, v.within))))
    by (no x) (yes l) = absurd (no_further part from reach'.at reach.at v.still u.still l (v.races (omega (arith, u.within))))
    by (no x) (no y) = omega arith

-- what `until_race` gives, where it may be called
pub reached_once : (part : List ℕ) (from to : ℕ) (B : Buffers) (T : OpenTasks) (now : Now) (B' B'' : Buffers) (T' T'' : OpenTasks) (reach reach' : Reach)
    → Runnable part from to B T now → Reaches part from to B T now B' T' reach → Reaches part from to B T now B'' T'' reach'
    → (B' ≡ B'') × (T' ≡ T'') × SameReach reach reach'
reached_once part from to B T now B' B'' T' T'' reach reach' A X Y =
    let u = X.went A.records A.k A.B₀ A.runs in
    let v = Y.went A.records A.k A.B₀ A.runs in
    let e : reach.at ≡ reach'.at = as_far u v in
    let root = run_rooted A.runs.run reach.at (omega (arith, u.within, A.runs.within)) in
    let there : Midway part A.records A.B₀ B'' T'' reach'.state reach.at = rw e v.midway in
    (midway_once root u.midway there, X.tasks_are ∙ rw e (sym Y.tasks_are), (e, reached_numbers root u.midway.reached there.reached))

-- what `find` gives
pub found_once : (part : List ℕ) (i : ℕ) (found found' : Found) → FirstFound part i found → FirstFound part i found'
    → (found.«record» ≡ found'.«record») × (rank found.kind ≡ rank found'.kind)
found_once part i found found' F G =
    let same : found.«record» ≡ found'.«record» = F.record_is ∙ sym G.record_is in
    let z : some (rank found.kind) ≡ some (rank found'.kind) = sym F.class_is ∙ rw same G.class_is in
    (same, ap (λ o. get_or o 0) z)
