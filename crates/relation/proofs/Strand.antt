-- Strands compare as accesses in them would. From its beginning on a strand goes over reads, writes and syncs with nothing to join. These
-- leave a walker as it is: at a sync with nothing to join a walker at height 0 says before already, since a task that makes its start
-- parallel is one to join. Assumes nothing.
use mathlib.Core.Path.{◌≡◌, refl, sym, ap, ◌∙◌}
use mathlib.Core.Logic.{◌⊎◌, inl, inr}
use mathlib.Core.Bool.{Bool, true, false, false≢true}
use mathlib.Core.List.{List, [], ◌∷◌}
use Prim.Native.Nat.{ℕ, zero, suc, ◌≤◌, ◌<◌}
use native.Mathlib.Omega.{arith}
use native.Mathlib.Decide.{dec_le}
use borrow.Author.Tests.{lt-ltb, le-ltb}
use lib.ListN.{length, get_or}
use Rattle.jobfile.specs.Trace.{tasks_next, begins, tasks_at, begun_at}
use Rattle.jobfile.specs.declared.event.Move.{Move}
use Rattle.jobfile.specs.declared.event.Move.TheVariants.{Opens, Closes, Joins, Stays}
use Rattle.relation.specs.Parallel.{Rooted}
use Rattle.relation.specs.Strand.{strand_at, birth}
use Rattle.relation.specs.Walk.{Walker, moved, start, spawned, move_at, walk, par}
use Rattle.relation.proofs.Walk.{from, walk_start, walk_step}

-- an event begins one strand or none
pub begins_cases : (x : Move) (tasks : List Bool) → (begins x tasks ≡ 0) ⊎ (begins x tasks ≡ 1)
begins_cases Opens tasks = inr refl
begins_cases Closes tasks = inr refl
begins_cases Joins [] = inl refl
begins_cases Joins (false ∷ tasks) = inl refl
begins_cases Joins (true ∷ tasks) = inr refl
begins_cases Stays tasks = inl refl

-- each of these tasks has spawned tasks that are not yet joined
abbrev AllWait : List Bool → Type 0
AllWait [] = Unit {0}
AllWait (waiting ∷ tasks) = (waiting ≡ true) × AllWait tasks

-- each open task but the current one has: it has spawned the one under it
abbrev ParentsWait : List Bool → Type 0
ParentsWait [] = Unit {0}
ParentsWait (waiting ∷ tasks) = AllWait tasks

parents_wait_next : (x : Move) (tasks : List Bool) → ParentsWait tasks → ParentsWait (tasks_next x tasks)
parents_wait_next Opens [] h = tt
parents_wait_next Opens (w ∷ tasks) h = (refl, h)
parents_wait_next Closes [] h = tt
parents_wait_next Closes (w ∷ []) h = tt
parents_wait_next Closes (w ∷ v ∷ tasks) h = h.1
parents_wait_next Joins [] h = tt
parents_wait_next Joins (w ∷ tasks) h = h
parents_wait_next Stays tasks h = h

-- where a walker says parallel, the task at its height waits
abbrev Waits : List Bool → ℕ → Bool → Type 0
Waits tasks h b = b ≡ true → get_or tasks h false ≡ true

waits_next : (x : Move) (k : Bool) (tasks : List Bool) (h : ℕ) (b : Bool) → ParentsWait tasks → 1 ≤ length (tasks_next x tasks)
    → Waits tasks h b → Waits (tasks_next x tasks) (moved x k h b).height (moved x k h b).par
waits_next Opens k [] h b ps r w t = absurd (false≢true (w t))
waits_next Opens k (v ∷ tasks) zero b ps r w t = refl
waits_next Opens k (v ∷ tasks) (suc h) b ps r w t = w t
waits_next Closes k [] h b ps r w t = absurd (omega arith)
waits_next Closes k (v ∷ []) h b ps r w t = absurd (omega arith)
waits_next Closes k (v ∷ u ∷ tasks) zero b ps r w t = ps.0
waits_next Closes k (v ∷ u ∷ tasks) (suc h) b ps r w t = w t
waits_next Joins k [] h b ps r w t = absurd (omega arith)
waits_next Joins k (v ∷ tasks) zero b ps r w t = absurd (false≢true t)
waits_next Joins k (v ∷ tasks) (suc h) b ps r w t = w t
waits_next Stays k tasks h b ps r w t = w t

-- a walker stays where it is over an event that begins no strand
walker_stays : (x : Move) (k : Bool) (tasks : List Bool) (h : ℕ) (b : Bool) → begins x tasks ≡ 0 → Waits tasks h b
    → moved x k h b ≡ record { height = h; par = b }
walker_stays Opens k tasks h b e w = absurd (omega arith)
walker_stays Closes k tasks h b e w = absurd (omega arith)
walker_stays Joins k tasks zero false e w = refl
walker_stays Joins k [] zero true e w = absurd (false≢true (w refl))
walker_stays Joins k (false ∷ tasks) zero true e w = absurd (false≢true (w refl))
walker_stays Joins k (true ∷ tasks) zero true e w = absurd (omega arith)
walker_stays Joins k tasks (suc h) b e w = refl
walker_stays Stays k tasks h b e w = refl

module _ (mv : ℕ → Move) where
  pub begun_some : (n : ℕ) → 1 ≤ begun_at mv n
  unfolding begun_at
  begun_some zero = omega arith
  begun_some (suc n) = omega (arith, begun_some n)

  -- strands do not grow fewer
  pub begun_rises : (m n : ℕ) → m ≤ n → begun_at mv m ≤ begun_at mv n
  unfolding begun_at
  begun_rises m n le = from (λ (k : ℕ). begun_at mv m ≤ begun_at mv k) m (omega arith) (λ k mk ih. omega arith) n le

  start_stays : (n : ℕ) → begins (mv n) (tasks_at mv n) ≡ 0 → move_at mv n start ≡ start
  unfolding move_at
  start_stays n e = walker_stays (mv n) (spawned mv n) (tasks_at mv n) 0 false e (λ t. absurd (false≢true t))

  -- a strand that has begun keeps its beginning
  pub birth_old : (n s : ℕ) → s < begun_at mv n → birth mv (suc n) s ≡ birth mv n s
  unfolding birth
  birth_old n s l = rw (lt-ltb s (begun_at mv n) l)

  -- a strand that event n begins begins at position n + 1
  pub birth_new : (n s : ℕ) → begun_at mv n ≤ s → birth mv (suc n) s ≡ suc n
  unfolding birth
  birth_new n s l = rw (le-ltb s (begun_at mv n) l)

  -- at p the walker from the beginning of p's strand has not left its start
  record Begun (p b : ℕ) : Type 0 where
    early : b ≤ p
    still : walk mv b p ≡ start

  begun_next : (n : ℕ) → (begins (mv n) (tasks_at mv n) ≡ 0) ⊎ (begins (mv n) (tasks_at mv n) ≡ 1)
      → Begun n (birth mv n (strand_at mv n)) → Begun (suc n) (birth mv (suc n) (strand_at mv (suc n)))
  unfolding begun_at
  begun_next n (inl e) B =
      let same : strand_at mv (suc n) ≡ strand_at mv n = omega arith in
      rw (same, birth_old n (strand_at mv n) (omega (arith, begun_some n)))
      (record {
        early = omega (arith, B.early);
        still = walk_step mv (birth mv n (strand_at mv n)) n B.early ∙ ap (move_at mv n) B.still
            ∙ start_stays n e;
      })
  begun_next n (inr e) B =
      rw (birth_new n (strand_at mv (suc n)) (omega arith)) (record { early = omega arith; still = walk_start mv (suc n) })

  begun : (p : ℕ) → Begun p (birth mv p (strand_at mv p))
  unfolding birth
  begun zero = record { early = omega arith; still = walk_start mv 0 }
  begun (suc n) = begun_next n (begins_cases (mv n) (tasks_at mv n)) (begun n)

  -- two walkers that have met go on together
  pub walk_together : (b p : ℕ) → b ≤ p → walk mv b p ≡ start → (q : ℕ) → p ≤ q → walk mv b q ≡ walk mv p q
  walk_together b p le met =
      from (λ (n : ℕ). walk mv b n ≡ walk mv p n) p (met ∙ sym (walk_start mv p))
      (λ n pn ih. walk_step mv b n (omega arith) ∙ ap (move_at mv n) ih ∙ sym (walk_step mv p n pn))

  -- the earlier access compares as its strand does
  pub strand_stands : (p q : ℕ) → p ≤ q → Rooted mv p → par mv (birth mv p (strand_at mv p)) q ≡ par mv p q
  strand_stands p q pq rooted =
      let B = begun p in
      ap (λ (w : Walker). w.par) (walk_together (birth mv p (strand_at mv p)) p B.early B.still q pq)

  parents_wait : (n : ℕ) → ParentsWait (tasks_at mv n)
  unfolding tasks_at
  parents_wait zero = tt
  parents_wait (suc n) = parents_wait_next (mv n) (tasks_at mv n) (parents_wait n)

  waits : (p q : ℕ) → p ≤ q → Rooted mv q → Waits (tasks_at mv q) (walk mv p q).height (walk mv p q).par
  unfolding move_at tasks_at
  waits p q pq rooted =
      from (λ (n : ℕ). n ≤ q → Waits (tasks_at mv n) (walk mv p n).height (walk mv p n).par) p
      (λ l. rw walk_start (λ t. absurd (false≢true t)))
      (λ n pn ih l. rw (walk_step mv p n pn) (waits_next (mv n) (spawned mv n) (tasks_at mv n) (walk mv p n).height (walk mv p n).par
      (parents_wait n) (rooted (suc n) l) (ih (omega arith))))
      q pq (omega arith)

  walk_stays : (p n : ℕ) → p ≤ n → Rooted mv n → begins (mv n) (tasks_at mv n) ≡ 0 → walk mv p (suc n) ≡ walk mv p n
  unfolding move_at
  walk_stays p n pn rooted e =
      walk_step mv p n pn
      ∙ walker_stays (mv n) (spawned mv n) (tasks_at mv n) (walk mv p n).height (walk mv p n).par e (waits p n pn rooted)

  stands_next : (p n : ℕ) → Rooted mv n → (begins (mv n) (tasks_at mv n) ≡ 0) ⊎ (begins (mv n) (tasks_at mv n) ≡ 1)
      → (p ≤ birth mv n (strand_at mv n) → walk mv p (birth mv n (strand_at mv n)) ≡ walk mv p n)
      → p ≤ birth mv (suc n) (strand_at mv (suc n)) → walk mv p (birth mv (suc n) (strand_at mv (suc n))) ≡ walk mv p (suc n)
  unfolding begun_at
  stands_next p n rooted (inl e) ih le =
      let same : strand_at mv (suc n) ≡ strand_at mv n = omega arith in
      let old = birth_old n (strand_at mv n) (omega (arith, begun_some n)) in
      let le' : p ≤ birth mv n (strand_at mv n) = rw (same, old) at le in
      rw (same, old) (ih le' ∙ sym (walk_stays p n (omega (arith, (begun n).early)) rooted e))
  stands_next p n rooted (inr e) ih le = rw (birth_new n (strand_at mv (suc n)) (omega arith))

  walk_stands : (p q : ℕ) → Rooted mv q → p ≤ birth mv q (strand_at mv q) → walk mv p (birth mv q (strand_at mv q)) ≡ walk mv p q
  unfolding birth
  walk_stands p zero rooted le = refl
  walk_stands p (suc n) rooted le =
      stands_next p n (λ m l. rooted m (omega arith)) (begins_cases (mv n) (tasks_at mv n)) (walk_stands p n (λ m l. rooted m (omega arith))) le

  -- the later access compares as its strand does
  pub later_strand_stands : (p q : ℕ) → Rooted mv q → p ≤ birth mv q (strand_at mv q)
      → par mv p (birth mv q (strand_at mv q)) ≡ par mv p q
  later_strand_stands p q rooted le = ap (λ (w : Walker). w.par) (walk_stands p q rooted le)

  -- a strand is the current one where it begins
  pub birth_current : (n s : ℕ) → s < begun_at mv n → strand_at mv (birth mv n s) ≡ s
  unfolding birth begun_at
  birth_current zero s l = omega arith
  birth_current (suc n) s l = go (dec_le (suc s) (begun_at mv n)) (begins_cases (mv n) (tasks_at mv n)) (λ old. birth_current n s old)
    where
      go : Dec (s < begun_at mv n) → (begins (mv n) (tasks_at mv n) ≡ 0) ⊎ (begins (mv n) (tasks_at mv n) ≡ 1)
          → (s < begun_at mv n → strand_at mv (birth mv n s) ≡ s) → strand_at mv (birth mv (suc n) s) ≡ s
      go (yes old) k ih = rw (birth_old n s old) (ih old)
      go (no new) (inl e) ih = absurd (omega arith)
      go (no new) (inr e) ih = rw (birth_new n s (omega arith)) (omega arith)

  -- and nowhere before
  pub birth_first : (n s : ℕ) → s < begun_at mv n → (m : ℕ) → m < birth mv n s → strand_at mv m < s
  unfolding birth
  birth_first zero s l m h = absurd (omega arith)
  birth_first (suc n) s l m h = go (dec_le (suc s) (begun_at mv n)) (λ old. birth_first n s old m)
    where
      go : Dec (s < begun_at mv n) → (s < begun_at mv n → m < birth mv n s → strand_at mv m < s) → strand_at mv m < s
      go (yes old) ih = ih old (rw (birth_old n s old) at h)
      go (no new) ih =
          let behind : m < suc n = rw (birth_new n s (omega arith)) at h in
          omega (arith, begun_some m, begun_rises m n (omega arith))

  pub birth_early : (n s : ℕ) → birth mv n s ≤ n
  unfolding birth
  birth_early zero s = omega arith
  birth_early (suc n) s = go (dec_le (suc s) (begun_at mv n)) (birth_early n s)
    where
      go : Dec (s < begun_at mv n) → birth mv n s ≤ n → birth mv (suc n) s ≤ suc n
      go (yes old) ih = rw (birth_old n s old) (omega arith)
      go (no new) ih = rw (birth_new n s (omega arith)) (omega arith)

  -- a later strand begins behind every access of an earlier one
  pub birth_later : (p q : ℕ) → strand_at mv p < strand_at mv q → p < birth mv q (strand_at mv q)
  birth_later p q l = go (dec_le (suc p) (birth mv q (strand_at mv q)))
    where
      go : Dec (p < birth mv q (strand_at mv q)) → p < birth mv q (strand_at mv q)
      go (yes h) = h
      go (no h) =
          absurd (omega (
            arith,
            begun_rises (birth mv q (strand_at mv q)) p (omega arith),
            birth_current q (strand_at mv q) (omega (arith, begun_some q)),
          ))

  -- two accesses of two strands compare as the strands do where they begin
  pub strands_compare : (p q : ℕ) → p ≤ q → Rooted mv q → strand_at mv p < strand_at mv q
      → par mv (birth mv p (strand_at mv p)) (birth mv q (strand_at mv q)) ≡ par mv p q
  strands_compare p q pq rooted l =
      let later : p < birth mv q (strand_at mv q) = birth_later p q l in
      strand_stands p (birth mv q (strand_at mv q)) (omega arith) (λ m k. rooted m (omega arith))
      ∙ later_strand_stands p q rooted (omega arith)

  -- accesses of one strand are one before the other
  pub one_strand : (p q : ℕ) → p ≤ q → strand_at mv p ≡ strand_at mv q → par mv p q ≡ false
  unfolding begun_at
  one_strand p q pq same =
      ap (λ (w : Walker). w.par)
      (from (λ (n : ℕ). n ≤ q → walk mv p n ≡ start) p (λ l. walk_start mv p)
      (λ n pn ih l.
      walk_step mv p n pn ∙ ap (move_at mv n) (ih (omega arith))
      ∙ start_stays n (omega (arith, begun_some p, begun_some q, begun_rises p n pn, begun_rises (suc n) q l)))
      q pq (omega arith))
