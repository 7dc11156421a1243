-- A run from event to event: what stands before each, and that no record has raced on the way. Assumes nothing.
use mathlib.Core.Path.{◌≡◌, refl, ◌∙◌}
use mathlib.Core.List.{List}
use Prim.Native.Nat.{ℕ, suc, ◌+◌, ◌-◌, ◌≤◌, ◌<◌}
use native.Mathlib.Omega.{arith}
use Rattle.jobfile.specs.Events.{move_of}
use Rattle.jobfile.specs.Trace.{event_at, moves, depth_at}
use Rattle.jobfile.proofs.Accesses.{access_stays}
use Rattle.strands.specs.Memory.{OpenTasks}
use Rattle.strands.specs.TasksAfter.{tasks_after}
use Rattle.strands.specs.declared.Now.{Now}
use Rattle.strands.proofs.Advanced.{place_deep}
use Rattle.taking.specs.Buffers.{Buffers, orders_in}
use Rattle.taking.specs.Turns.{Midway, Still, Fresh, Races, Turnable, Turns, Runs, Runnable, tasks_over, Reaches}
use Rattle.std.specs.Prelude.{None, Some}
use Rattle.taking.proofs.Turned.{taken}

-- before event i of such a run
module _ {part : List ℕ} {from to records k : ℕ} {B₀ B B' : Buffers} {T T' : OpenTasks} {now next : Now} {i : ℕ}
    (R : Runs part from to records k B₀ B T now) (onward : from ≤ i) (before : i < to) (S : Midway part records B₀ B' T' next i) (still : Still part from i) where
  pub within_run : i < k
  within_run = omega (arith, R.within)

  -- its record has not raced
  pub fresh_there : Fresh part i i
  fresh_there kind r e = still r ∙ R.fresh i onward before kind r e

  pub turnable : Turnable part i B' T' next
  turnable = record { records = records; k = k; B₀ = B₀; run = R.run; next = within_run; midway = S; fresh = fresh_there }

  -- the open tasks' array one event on
  pub tasks_on : (T'' T₀ : OpenTasks) → T'' ≡ tasks_after (move_of (event_at part i)) next.strands next.top T'
      → T' ≡ tasks_over (moves (event_at part)) from (i - from) T₀ → T'' ≡ tasks_over (moves (event_at part)) from (suc i - from) T₀
  unfolding tasks_over
  tasks_on T'' T₀ e f =
      let mv = moves (event_at part) in
      let there : from + (i - from) ≡ i = omega (arith, onward) in
      let on : suc i - from ≡ suc (i - from) = omega (arith, onward) in
      let top : next.top ≡ depth_at mv i - 1 = omega (arith, place_deep mv i (orders_in B₀) (orders_in B') T' next _ S.reached (taken R.run within_run)) in
      e ∙ rw (on, there, ← f, S.reached.strands, top) refl

-- before any of the events
pub tasks_none : (part : List ℕ) (from : ℕ) (T : OpenTasks) → T ≡ tasks_over (moves (event_at part)) from (from - from) T
unfolding tasks_over
tasks_none part from T = let z : from - from ≡ 0 = omega arith in rw z

-- What stands before event i of every such run.
abbrev pub Stands : List ℕ → ℕ → ℕ → Buffers → OpenTasks → Now → Buffers → OpenTasks → Now → ℕ → Type 0
Stands part from to B T now B' T' next i =
    (records k : ℕ) (B₀ : Buffers) → Runs part from to records k B₀ B T now → Midway part records B₀ B' T' next i × Still part from i

module _ {part : List ℕ} {from to : ℕ} {B B' : Buffers} {T T' : OpenTasks} {now next : Now} {i : ℕ} (A : Runnable part from to B T now)
    (onward : from ≤ i) (stands : Stands part from to B T now B' T' next i) (over : T' ≡ tasks_over (moves (event_at part)) from (i - from) T) where
  -- past all of them
  pub ends_all : i ≤ to → to ≤ i → Reaches part from to B T now B' T' (record { at = i; state = next })
  ends_all within past = record {
    went = λ records k B₀ R.
        let s = stands records k B₀ R in
        record { onward = onward; within = within; midway = s.0; still = s.1; races = λ l. absurd (omega arith) };
    tasks_are = over;
  }

  module _ (before : i < to) where
    its_turn : Turnable part i B' T' next
    its_turn = let s = stands A.records A.k A.B₀ A.runs in turnable A.runs onward before s.0 s.1

    -- event i races
    pub ends_race : {B'' : Buffers} {T'' : OpenTasks} → Turns part i B' T' next B'' T'' None → Reaches part from to B T now B'' T'' (record { at = i; state = next })
    ends_race {T'' = T''} turns = record {
      went = λ records k B₀ R.
          let s = stands records k B₀ R in
          let t = turns.turned records k B₀ R.run (within_run R onward before s.0 s.1) s.0 (fresh_there R onward before s.0 s.1) in
          record { onward = onward; within = omega arith; midway = rw (t.0, left) s.0; still = s.1; races = λ l. t.1 };
      tasks_are = left ∙ over;
    }
      where
        raced : Races part i
        raced = (turns.turned its_turn.records its_turn.k its_turn.B₀ its_turn.run its_turn.next its_turn.midway its_turn.fresh).1

        left : T'' ≡ T'
        left = turns.tasks_are ∙ rw (access_stays (event_at part i) raced.kind raced.number raced.is_an_access)

    -- it does not
    pub goes_on : {B'' : Buffers} {T'' : OpenTasks} (more : Now) → Turns part i B' T' next B'' T'' (Some more)
        → Stands part from to B T now B'' T'' more (suc i) × (T'' ≡ tasks_over (moves (event_at part)) from (suc i - from) T)
    goes_on {T'' = T''} more turns = (
      λ records k B₀ R.
          let s = stands records k B₀ R in
          let t = turns.turned records k B₀ R.run (within_run R onward before s.0 s.1) s.0 (fresh_there R onward before s.0 s.1) in
          (t.0, λ r. t.1 r ∙ s.1 r),
      tasks_on A.runs onward before (stands A.records A.k A.B₀ A.runs).0 (stands A.records A.k A.B₀ A.runs).1 T'' T turns.tasks_are over,
    )
