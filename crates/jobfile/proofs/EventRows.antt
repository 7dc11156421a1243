-- Rows 8 to 12 at one event: decoding is exact, and an event goes on where no row holds and stops by the least that does. Assumes nothing.
use Prim.Native.Nat.{ℕ, suc, ◌+◌, ◌≤◌, ◌<◌}
use mathlib.Core.Path.{◌≡◌, refl, subst}
use mathlib.Core.Logic.{inl, inr, ◌↔◌}
use mathlib.Core.List.{List, [], ◌∷◌}
use mathlib.Core.Bool.{Bool, true, false, cond}
use lib.ListN.{length}
use lib.Dec.{eqb, ltb}
use native.Mathlib.Decide.{dec_le}
use native.Mathlib.Omega.{arith}
use borrow.Author.Tests.{eqb-true, eqb-false, ltb-true, ltb-false}
use Rattle.jobfile.specs.declared.event.Event.{Event}
use Rattle.jobfile.specs.declared.event.Event.TheVariants.{Spawn, End, Sync, Read, Write}
use Rattle.jobfile.specs.declared.event.Move.{Move}
use Rattle.jobfile.specs.declared.event.Move.TheVariants.{Opens, Closes, Joins, Stays}
use Rattle.jobfile.specs.Events.{move_of}
use Rattle.std.specs.Prelude.{None, Some, Result, Ok, Err}
use Rattle.trailer.specs.declared.fault.Fault.{Fault}
use Rattle.trailer.specs.declared.fault.Fault.TheVariants.{NoEvent, Record, RootEnded, TooDeep, TooManyStrands}
use Rattle.trailer.specs.Numbers.{number_of}
use Rattle.jobfile.specs.Coding.{event_of}
use Rattle.jobfile.specs.Trace.{event_in, tasks_next, begins}
use Rattle.jobfile.specs.Tasks.{Next, go, stop, unless, record_fault, task_fault, move_on, step_on, step_of}
use Rattle.jobfile.specs.Rows.{Malformed, Coded, AtEvent, row_8, row_9, row_10, row_11, row_12}

-- an event of these fields is well formed
well_formed : (kind second number : ℕ) → 1 ≤ kind → kind ≤ 5 → second ≡ 0 → (kind ≤ 3 → number ≡ 0) → ¬ Malformed kind second number
well_formed kind second number a b c d (inl f) = f (a, b)
well_formed kind second number a b c d (inr (inl f)) = f c
well_formed kind second number a b c d (inr (inr f)) = f.2 (d f.1)

-- what four bytes are read as
abbrev pub Seen : ℕ → ℕ → ℕ → Result Event Fault → Type 0
Seen kind second number (Ok e) = Coded kind second number e
Seen kind second number (Err f) = (f ≡ NoEvent) × Malformed kind second number

module _ (kind second number : ℕ) where
  pub formed : (e : Event) → Coded kind second number e → ¬ Malformed kind second number
  formed Spawn (k, s, z) = well_formed kind second number (omega arith) (omega arith) s (λ l. z)
  formed End (k, s, z) = well_formed kind second number (omega arith) (omega arith) s (λ l. z)
  formed Sync (k, s, z) = well_formed kind second number (omega arith) (omega arith) s (λ l. z)
  formed (Read r) (k, s, z) = well_formed kind second number (omega arith) (omega arith) s (λ l. absurd (omega arith))
  formed (Write r) (k, s, z) = well_formed kind second number (omega arith) (omega arith) s (λ l. absurd (omega arith))

  pub seen : Seen kind second number (event_of kind second number)
  unfolding event_of
  seen =
      by (eqb kind 0) refl (ltb 5 kind) refl (eqb second 0) refl (eqb kind 4) refl (eqb kind 5) refl (eqb number 0) refl (eqb kind 1) refl
      (eqb kind 2) refl
    where
      by : (a : Bool) → eqb kind 0 ≡ a → (b : Bool) → ltb 5 kind ≡ b → (c : Bool) → eqb second 0 ≡ c → (d : Bool) → eqb kind 4 ≡ d
          → (e : Bool) → eqb kind 5 ≡ e → (f : Bool) → eqb number 0 ≡ f → (g : Bool) → eqb kind 1 ≡ g → (h : Bool) → eqb kind 2 ≡ h
          → Seen kind second number
          (cond a (Err NoEvent)
          (cond b (Err NoEvent)
          (cond c
          (cond d (Ok (Read number)) (cond e (Ok (Write number)) (cond f (cond g (Ok Spawn) (cond h (Ok End) (Ok Sync))) (Err NoEvent))))
          (Err NoEvent))))
      by true p b q c r d s e t f u g v h w = (refl, inl (λ k. omega (arith, eqb-true kind 0 p)))
      by false p true q c r d s e t f u g v h w = (refl, inl (λ k. omega (arith, ltb-true 5 kind q)))
      by false p false q false r d s e t f u g v h w = (refl, inr (inl (eqb-false second 0 r)))
      by false p false q true r true s e t f u g v h w = (eqb-true kind 4 s, eqb-true second 0 r, refl)
      by false p false q true r false s true t f u g v h w = (eqb-true kind 5 t, eqb-true second 0 r, refl)
      by false p false q true r false s false t false u g v h w =
          let l = ltb-false 5 kind q in
          let i : 1 ≤ kind = omega (arith, eqb-false kind 0 p) in
          (refl, inr (inr (i, omega (arith, eqb-false kind 4 s, eqb-false kind 5 t), eqb-false number 0 u)))
      by false p false q true r false s false t true u true v h w = (eqb-true kind 1 v, eqb-true second 0 r, eqb-true number 0 u)
      by false p false q true r false s false t true u false v true w = (eqb-true kind 2 w, eqb-true second 0 r, eqb-true number 0 u)
      by false p false q true r false s false t true u false v false w =
          let l = ltb-false 5 kind q in
          let i : 1 ≤ kind = omega (arith, eqb-false kind 0 p) in
          (omega (arith, eqb-false kind 1 v, eqb-false kind 2 w, eqb-false kind 4 s, eqb-false kind 5 t), eqb-true second 0 r, eqb-true number 0 u)

  coded_is : (e : Event) → Coded kind second number e → event_of kind second number ≡ Ok e
  unfolding event_of
  coded_is Spawn (k, s, z) = rw (k, s, z)
  coded_is End (k, s, z) = rw (k, s, z)
  coded_is Sync (k, s, z) = rw (k, s, z)
  coded_is (Read r) (k, s, z) = rw (k, s, z)
  coded_is (Write r) (k, s, z) = rw (k, s, z)

  malformed_is : (d : Result Event Fault) → Seen kind second number d → Malformed kind second number → d ≡ Err NoEvent
  malformed_is (Ok e) c m = absurd (formed e c m)
  malformed_is (Err f) (e, c) m = rw e

  -- Decoding is exact, for every three fields.
  pub decoded_event : (e : Event) → (event_of kind second number ≡ Ok e) ↔ Coded kind second number e
  decoded_event e = (λ q. subst (Seen kind second number) q seen, coded_is e)

  pub decoded_refusal : (f : Fault) → (event_of kind second number ≡ Err f) ↔ ((f ≡ NoEvent) × Malformed kind second number)
  decoded_refusal f = (λ q. subst (Seen kind second number) q seen, λ c. rw c.0 (malformed_is (event_of kind second number) seen c.1))

begins_small : (m : Move) (tasks : List Bool) → begins m tasks ≤ 1
begins_small Opens tasks = omega arith
begins_small Closes tasks = omega arith
begins_small Joins [] = omega arith
begins_small Joins (false ∷ tasks) = omega arith
begins_small Joins (true ∷ tasks) = omega arith
begins_small Stays tasks = omega arith

opened : (tasks : List Bool) → 1 ≤ length tasks → length (tasks_next Opens tasks) ≡ suc (length tasks)
opened [] h = absurd (omega arith)
opened (t ∷ ts) h = refl

closed : (tasks : List Bool) → 1 ≤ length tasks → suc (length (tasks_next Closes tasks)) ≡ length tasks
closed [] h = absurd (omega arith)
closed (t ∷ ts) h = refl

joined : (tasks : List Bool) → 1 ≤ length tasks → length (tasks_next Joins tasks) ≡ length tasks
joined [] h = absurd (omega arith)
joined (t ∷ ts) h = refl

-- what each row of an event says
module _ {records kind second number depth before after : ℕ} where
  says_8 : AtEvent records kind second number depth before after 8 → Malformed kind second number
  says_8 (row_8 c) = c

  says_9 : AtEvent records kind second number depth before after 9 → records ≤ number
  says_9 (row_9 c) = c

  says_10 : AtEvent records kind second number depth before after 10 → (kind ≡ 2) × (depth ≡ 1)
  says_10 (row_10 c d) = (c, d)

  says_11 : AtEvent records kind second number depth before after 11 → (kind ≡ 1) × (depth ≡ 64)
  says_11 (row_11 c d) = (c, d)

  says_12 : AtEvent records kind second number depth before after 12 → (before ≡ 4096) × (after ≡ 4097)
  says_12 (row_12 c d) = (c, d)

  pub in_range : {k : ℕ} → AtEvent records kind second number depth before after k → (8 ≤ k) × (k ≤ 12)
  in_range (row_8 c) = (omega arith, omega arith)
  in_range (row_9 c) = (omega arith, omega arith)
  in_range (row_10 c d) = (omega arith, omega arith)
  in_range (row_11 c d) = (omega arith, omega arith)
  in_range (row_12 c d) = (omega arith, omega arith)

-- one event: its fields, and the open tasks and the strands before it
module _ (records kind second number : ℕ) (tasks : List Bool) (strands : ℕ) where
  -- the rows of the event, where it does m
  abbrev At : Move → ℕ → Type 0
  At m k = AtEvent records kind second number (length tasks) strands (strands + begins m tasks) k

  -- no row below k holds
  abbrev From : Move → ℕ → Type 0
  From m k = (n : ℕ) → At m n → k ≤ n

  past : (m : Move) (k : ℕ) → From m k → ¬ At m k → From m (suc k)
  past m k l f n r = by (dec_le n k) (l n r)
    where
      by : Dec (n ≤ k) → k ≤ n → suc k ≤ n
      by (yes h) g = let e : k ≡ n = omega arith in absurd (f (rw e r))
      by (no h) g = omega arith

  -- what the event leads to: on where no row holds, or to the least that does
  abbrev pub LeadsOn : Move → Next → Type 0
  LeadsOn m (go us n) =
      (us ≡ tasks_next m tasks) × (n ≡ strands + begins m tasks) × (1 ≤ length us) × (length us ≤ 64) × (n ≤ 4096) × ((k : ℕ) → ¬ At m k)
  LeadsOn m (stop f) = At m (number_of f) × From m (number_of f)

  module _ (root : 1 ≤ length tasks) (shallow : length tasks ≤ 64) (few : strands ≤ 4096) where
    module _ (event : ¬ Malformed kind second number) where
      from_9 : (m : Move) → From m 9
      from_9 m = past m 8 (λ n r. (in_range r).0) (λ r. event (says_8 r))

      module _ (below : number < records) where
        from_10 : (m : Move) → From m 10
        from_10 m = past m 9 (from_9 m) (λ r. omega (arith, says_9 r))

        -- past rows 10 and 11
        strand_begins : (m : Move) → ¬ At m 10 → ¬ At m 11 → (1 ≤ length (tasks_next m tasks)) × (length (tasks_next m tasks) ≤ 64)
            → LeadsOn m (cond (ltb 4096 (strands + begins m tasks)) (stop TooManyStrands) (go (tasks_next m tasks) (strands + begins m tasks)))
        strand_begins m no_10 no_11 d = by (ltb 4096 (strands + begins m tasks)) refl
          where
            from_12 : From m 12
            from_12 = past m 11 (past m 10 (from_10 m) no_10) no_11

            by : (b : Bool) → ltb 4096 (strands + begins m tasks) ≡ b
                → LeadsOn m (cond b (stop TooManyStrands) (go (tasks_next m tasks) (strands + begins m tasks)))
            by true q =
                let l = ltb-true 4096 (strands + begins m tasks) q in
                let s = begins_small m tasks in
                (row_12 (omega arith) (omega arith), from_12)
            by false q =
                let l = ltb-false 4096 (strands + begins m tasks) q in
                (refl, refl, d.0, d.1, l, λ k r. omega (arith, past m 12 from_12 (λ t. omega (arith, says_12 t)) k r, in_range r))

        opens : kind ≡ 1 → LeadsOn Opens (move_on tasks strands Opens)
        unfolding move_on task_fault
        opens k = by (ltb (length tasks) 64) refl
          where
            no_10 : ¬ At Opens 10
            no_10 r = omega (arith, says_10 r)

            by : (b : Bool) → ltb (length tasks) 64 ≡ b
                → LeadsOn Opens
                (unless (cond b None (Some TooDeep))
                (cond (ltb 4096 (strands + 1)) (stop TooManyStrands) (go (tasks_next Opens tasks) (strands + 1))))
            by true q =
                let l = ltb-true (length tasks) 64 q in
                let o = opened tasks root in
                strand_begins Opens no_10 (λ r. omega (arith, says_11 r)) (omega arith, omega arith)
            by false q = let l = ltb-false (length tasks) 64 q in (row_11 k (omega arith), past Opens 10 (from_10 Opens) no_10)

        closes : kind ≡ 2 → LeadsOn Closes (move_on tasks strands Closes)
        unfolding move_on task_fault
        closes k = by (ltb 1 (length tasks)) refl
          where
            by : (b : Bool) → ltb 1 (length tasks) ≡ b
                → LeadsOn Closes
                (unless (cond b None (Some RootEnded))
                (cond (ltb 4096 (strands + 1)) (stop TooManyStrands) (go (tasks_next Closes tasks) (strands + 1))))
            by true q =
                let l = ltb-true 1 (length tasks) q in
                let o = closed tasks root in
                strand_begins Closes (λ r. omega (arith, says_10 r)) (λ r. omega (arith, says_11 r)) (omega arith, omega arith)
            by false q = let l = ltb-false 1 (length tasks) q in (row_10 k (omega arith), from_10 Closes)

        joins : kind ≡ 3 → LeadsOn Joins (move_on tasks strands Joins)
        unfolding move_on task_fault
        joins k =
            let o = joined tasks root in
            strand_begins Joins (λ r. omega (arith, says_10 r)) (λ r. omega (arith, says_11 r)) (omega arith, omega arith)

        stays : 4 ≤ kind → LeadsOn Stays (move_on tasks strands Stays)
        unfolding move_on task_fault
        stays k = strand_begins Stays (λ r. omega (arith, says_10 r)) (λ r. omega (arith, says_11 r)) (root, shallow)

      accesses : (r : ℕ) → 4 ≤ kind → number ≡ r
          → LeadsOn Stays (unless (cond (ltb r records) None (Some Record)) (move_on tasks strands Stays))
      accesses r k e = by (ltb r records) refl
        where
          by : (b : Bool) → ltb r records ≡ b → LeadsOn Stays (unless (cond b None (Some Record)) (move_on tasks strands Stays))
          by true q = let l = ltb-true r records q in stays (omega arith) k
          by false q = let l = ltb-false r records q in (row_9 (omega arith), from_9 Stays)

      stepped : 0 < records → (e : Event) → Coded kind second number e → LeadsOn (move_of e) (step_on records tasks strands e)
      unfolding step_on record_fault
      stepped some Spawn (k, s, z) = opens (omega arith) k
      stepped some End (k, s, z) = closes (omega arith) k
      stepped some Sync (k, s, z) = joins (omega arith) k
      stepped some (Read r) (k, s, z) = accesses r (omega arith) z
      stepped some (Write r) (k, s, z) = accesses r (omega arith) z

    pub leads_on : 0 < records → (d : Result Event Fault) → Seen kind second number d → LeadsOn (move_of (event_in d)) (step_of records tasks strands d)
    leads_on some (Ok e) c = stepped (formed kind second number e c) some e c
    leads_on some (Err f) (e, c) = rw e (row_8 c, λ n r. omega (arith, in_range r))
