-- Parallel by the definition is what the walk computes.
-- The events that opened the open tasks say, at an end, which task it closes; from them the walk's answer true gets its spawn and its
-- end. The other way round the walker, at the end of the task that the definition names, stands at height 0 and turns true, and no
-- event of the parent turns it back. Assumes nothing.
use mathlib.Core.Path.{◌≡◌, refl, sym, ◌∙◌, subst}
use mathlib.Core.Logic.{⊎_elim, ◌≢◌, ◌↔◌}
use mathlib.Core.Bool.{Bool, true, false, false≢true}
use mathlib.Core.List.{List, [], ◌∷◌}
use Prim.Native.Nat.{ℕ, zero, suc, ◌+◌, ◌-◌, ◌≤◌, ◌<◌}
use native.Mathlib.Omega.{arith}
use native.Mathlib.Decide.{dec_le}
use Rattle.jobfile.specs.Trace.{depth_at, tasks_at}
use Rattle.jobfile.specs.declared.event.Move.{Move}
use Rattle.jobfile.specs.declared.event.Move.TheVariants.{Opens, Closes, Joins, Stays}
use Rattle.relation.specs.Parallel.{By, Parallel, Rooted}
use Rattle.relation.specs.Walk.{is_spawn, restack, head_or, moved, opened, spawned, move_at, walk, par}
use Rattle.relation.proofs.Depth.{bump, depth_at_lem, last_or}
use Rattle.relation.proofs.Walk.{from, walk_start, walk_step, par_step}

is_spawn_lem : (x : Move) → is_spawn x ≡ true → x ≡ Opens
is_spawn_lem Opens t = refl
is_spawn_lem Closes t = absurd (false≢true t)
is_spawn_lem Joins t = absurd (false≢true t)
is_spawn_lem Stays t = absurd (false≢true t)

-- an event that is no sync and no end
abbrev Quiet : Move → Type 0
Quiet Opens = Unit {0}
Quiet Closes = ⊥
Quiet Joins = ⊥
Quiet Stays = Unit {0}

quiet_event : (x y : Move) → y ≡ x → Quiet x → (y ≢ Joins) × (y ≢ Closes)
quiet_event x y e t = (λ z. subst Quiet (sym e ∙ z) t, λ z. subst Quiet (sym e ∙ z) t)

module _ (mv : ℕ → Move) where
  -- event s opened a task that is open just before event n, and whose own events are at depth d
  record Opened (n d s : ℕ) : Type 0 where
    below : s < n
    level : d ≡ suc (depth_at mv s)
    over : (m : ℕ) → s < m → m ≤ n → depth_at mv s < depth_at mv m

  abbrev AllOpened : ℕ → ℕ → List ℕ → Type 0
  AllOpened n d [] = d ≡ 1
  AllOpened n d (s ∷ os) = Opened n d s × AllOpened n (depth_at mv s) os

  all_keep : (n d : ℕ) (os : List ℕ) → d ≤ depth_at mv (suc n) → AllOpened n d os → AllOpened (suc n) d os
  all_keep n d [] le o = o
  all_keep n d (s ∷ os) le o = (first, all_keep n (depth_at mv s) os (omega arith) o.1)
    where
      first : Opened (suc n) d s
      first = record {
        below = omega arith;
        level = o.0.level;
        over = λ m sm mn. ⊎_elim (λ (l : m ≤ n). o.0.over m sm l) (λ (e : m ≡ suc n). rw e (omega arith)) (last_or m n mn);
      }

  all_push : (n : ℕ) (os : List ℕ) → depth_at mv (suc n) ≡ suc (depth_at mv n) → AllOpened n (depth_at mv n) os
      → AllOpened (suc n) (suc (depth_at mv n)) (n ∷ os)
  all_push n os d o = (first, all_keep n (depth_at mv n) os (omega arith) o)
    where
      first : Opened (suc n) (suc (depth_at mv n)) n
      first = record {
        below = omega arith;
        level = refl;
        over = λ m nm mn. let e : m ≡ suc n = omega arith in rw e (omega arith);
      }

  all_pop : (n : ℕ) (os : List ℕ) → depth_at mv (suc n) ≡ depth_at mv n - 1 → 1 ≤ depth_at mv (suc n) → AllOpened n (depth_at mv n) os
      → AllOpened (suc n) (depth_at mv n - 1) (restack Closes n os)
  all_pop n [] d w o = omega arith
  all_pop n (s ∷ os) d w o =
      let e : depth_at mv n - 1 ≡ depth_at mv s = omega (arith, o.0.level) in
      rw e (all_keep n (depth_at mv s) os (omega arith) o.1)

  all_next : (n : ℕ) (x : Move) (os : List ℕ) → mv n ≡ x → 1 ≤ depth_at mv (suc n) → AllOpened n (depth_at mv n) os
      → AllOpened (suc n) (bump x (depth_at mv n)) (restack x n os)
  all_next n Opens os e w o = all_push n os (depth_at_lem mv n Opens e) o
  all_next n Closes os e w o = all_pop n os (depth_at_lem mv n Closes e) w o
  all_next n Joins os e w o = all_keep n (depth_at mv n) os (omega (arith, depth_at_lem mv n Joins e)) o
  all_next n Stays os e w o = all_keep n (depth_at mv n) os (omega (arith, depth_at_lem mv n Stays e)) o

  all_opened : (n : ℕ) → Rooted mv n → AllOpened n (depth_at mv n) (opened mv n)
  unfolding opened tasks_at
  all_opened zero rooted = refl
  all_opened (suc n) rooted =
      rw (depth_at_lem mv n (mv n) refl)
      (all_next n (mv n) (opened mv n) refl (rooted (suc n) (omega arith)) (all_opened n (λ m l. rooted m (omega arith))))

  -- where no event has opened a task that is still open, only the root is open
  pub only_root : (n : ℕ) → Rooted mv n → opened mv n ≡ [] → depth_at mv n ≡ 1
  only_root n rooted e = rw e at (all_opened n rooted)

  -- what holds of a walker from p at q: `level` is the depth of the innermost task that is still open and contained p, and `low` a
  -- position where that task was current
  record Walked (p q h : ℕ) (b : Bool) : Type 0 where
    level : ℕ
    under : level + h ≡ depth_at mv q
    above : (m : ℕ) → p ≤ m → m ≤ q → level ≤ depth_at mv m
    low : ℕ
    p≤low : p ≤ low
    low≤q : low ≤ q
    at_low : depth_at mv low ≡ level
    sound : b ≡ true → (s : ℕ) × (e : ℕ) × By mv p q s e × (depth_at mv s ≡ level)

  -- a task goes on to make p parallel over an event that is no sync and no end of its parent
  by_keep : (p q s e : ℕ) → By mv p q s e → (depth_at mv q ≡ depth_at mv s → (mv q ≢ Joins) × (mv q ≢ Closes)) → By mv p (suc q) s e
  by_keep p q s e B f = record {
    s<p = B.s<p;
    p≤e = B.p≤e;
    e<q = omega arith;
    at_s = B.at_s;
    at_e = B.at_e;
    level = B.level;
    inside = B.inside;
    quiet = λ m em mq d.
        ⊎_elim (λ (l : suc m ≤ q). B.quiet m em l d) (λ (l : suc m ≡ suc q). let z : m ≡ q = omega arith in rw z (f (rw z at d)))
        (last_or (suc m) q mq);
  }

  -- any event but a sync or an end at height 0
  walked_keep : (p q h h' : ℕ) (b : Bool) → p ≤ q → (w : Walked p q h b) → w.level + h' ≡ depth_at mv (suc q)
      → (depth_at mv q ≡ w.level → (mv q ≢ Joins) × (mv q ≢ Closes)) → Walked p (suc q) h' b
  walked_keep p q h h' b pq w d f = record {
    level = w.level;
    under = d;
    above = λ m pm mq. ⊎_elim (λ (l : m ≤ q). w.above m pm l) (λ (e : m ≡ suc q). rw e (omega arith)) (last_or m q mq);
    low = w.low;
    p≤low = w.p≤low;
    low≤q = omega arith;
    at_low = w.at_low;
    sound = λ t. let P = w.sound t in (P.0, P.1, by_keep p q P.0 P.1 P.2 (λ z. f (z ∙ P.3)), P.3);
  }

  -- a sync at height 0
  walked_sync : (p q : ℕ) (b : Bool) → p ≤ q → (w : Walked p q 0 b) → depth_at mv (suc q) ≡ depth_at mv q → Walked p (suc q) 0 false
  walked_sync p q b pq w d = record {
    level = w.level;
    under = w.under ∙ sym d;
    above = λ m pm mq. ⊎_elim (λ (l : m ≤ q). w.above m pm l) (λ (e : m ≡ suc q). rw e (omega arith)) (last_or m q mq);
    low = w.low;
    p≤low = w.p≤low;
    low≤q = omega arith;
    at_low = w.at_low;
    sound = λ t. absurd (false≢true t);
  }

  -- an end at height 0, of the task that event s opened
  walked_end : (p q s : ℕ) (b : Bool) → p ≤ q → (w : Walked p q 0 b) → mv q ≡ Closes → depth_at mv (suc q) ≡ depth_at mv q - 1
      → Opened q (depth_at mv q) s → Walked p (suc q) 0 (is_spawn (mv s))
  walked_end p q s b pq w x d o = record {
    level = depth_at mv (suc q);
    under = omega arith;
    above = λ m pm mq. ⊎_elim (λ (l : m ≤ q). omega (arith, w.above m pm l)) (λ (e : m ≡ suc q). rw e (omega arith)) (last_or m q mq);
    low = suc q;
    p≤low = omega arith;
    low≤q = omega arith;
    at_low = refl;
    sound = λ t. (s, q, by t, omega (arith, o.level));
  }
    where
      early : Dec (p ≤ s) → s < p
      early (yes ps) = absurd (omega (arith, w.above s ps (omega arith)))
      early (no ps) = omega arith

      by : is_spawn (mv s) ≡ true → By mv p (suc q) s q
      by t = record {
        s<p = early (dec_le p s);
        p≤e = pq;
        e<q = omega arith;
        at_s = is_spawn_lem (mv s) t;
        at_e = x;
        level = o.level;
        inside = λ m sm mq. o.over m sm (omega arith);
        quiet = λ m em mq z. absurd (omega arith);
      }

  -- whether the current task was spawned, by the events that opened the open tasks
  abbrev spawned_by : List ℕ → Bool
  spawned_by os = is_spawn (mv (head_or os 0))

  walked_step : (p q h : ℕ) (b : Bool) (x : Move) (os : List ℕ) → mv q ≡ x → p ≤ q → 1 ≤ depth_at mv (suc q)
      → AllOpened q (depth_at mv q) os → Walked p q h b
      → Walked p (suc q) (moved x (spawned_by os) h b).height (moved x (spawned_by os) h b).par
  walked_step p q h b Opens os e pq r o w =
      walked_keep p q h (suc h) b pq w (omega (arith, depth_at_lem mv q Opens e, w.under)) (λ z. quiet_event Opens (mv q) e tt)
  walked_step p q zero b Closes [] e pq r o w = absurd (omega (arith, depth_at_lem mv q Closes e, o))
  walked_step p q zero b Closes (s ∷ os) e pq r o w = walked_end p q s b pq w e (depth_at_lem mv q Closes e) o.0
  walked_step p q (suc h) b Closes os e pq r o w =
      walked_keep p q (suc h) h b pq w (omega (arith, depth_at_lem mv q Closes e, w.under)) (λ z. absurd (omega arith))
  walked_step p q zero b Joins os e pq r o w = walked_sync p q b pq w (depth_at_lem mv q Joins e)
  walked_step p q (suc h) b Joins os e pq r o w =
      walked_keep p q (suc h) (suc h) b pq w (omega (arith, depth_at_lem mv q Joins e)) (λ z. absurd (omega arith))
  walked_step p q h b Stays os e pq r o w =
      walked_keep p q h h b pq w (omega (arith, depth_at_lem mv q Stays e)) (λ z. quiet_event Stays (mv q) e tt)

  walked_start : (p : ℕ) → Walked p p 0 false
  walked_start p = record {
    level = depth_at mv p;
    under = omega arith;
    above = λ m pm mp. let e : m ≡ p = omega arith in rw e (omega arith);
    low = p;
    p≤low = omega arith;
    low≤q = omega arith;
    at_low = refl;
    sound = λ t. absurd (false≢true t);
  }

  walked : (p q : ℕ) → p ≤ q → Rooted mv q → Walked p q (walk mv p q).height (walk mv p q).par
  unfolding move_at
  walked p q pq rooted =
      from (λ (n : ℕ). Rooted mv n → Walked p n (walk mv p n).height (walk mv p n).par) p
      (λ z. rw walk_start (walked_start p))
      (λ n pn ih z. rw (walk_step mv p n pn) (next n pn z (ih (λ m l. z m (omega arith)))))
      q pq rooted
    where
      next : (n : ℕ) → p ≤ n → Rooted mv (suc n) → Walked p n (walk mv p n).height (walk mv p n).par
          → Walked p (suc n) (move_at mv n (walk mv p n)).height (move_at mv n (walk mv p n)).par
      next n pn z w =
          walked_step p n (walk mv p n).height (walk mv p n).par (mv n) (opened mv n) refl pn (z (suc n) (omega arith))
          (all_opened n (λ m l. z m (omega arith))) w

  -- from the walk to the definition
  pub walk_sound : (p q : ℕ) → p ≤ q → Rooted mv q → par mv p q ≡ true → Parallel mv p q
  walk_sound p q pq rooted t = let P = (walked p q pq rooted).sound t in (P.0, P.1, P.2)

  -- the event that opened the task that e closes
  opener : (p q s e : ℕ) → Rooted mv q → By mv p q s e → (os : List ℕ) → AllOpened e (depth_at mv e) os → head_or os 0 ≡ s
  opener p q s e rooted B [] o = absurd (omega (arith, o, B.level, rooted s (omega arith)))
  opener p q s e rooted B (s' ∷ os) o = go (dec_le (suc s) s') (dec_le (suc s') s)
    where
      go : Dec (s < s') → Dec (s' < s) → s' ≡ s
      go (yes l) k = absurd (omega (arith, B.inside s' l o.0.below, B.level, o.0.level))
      go (no l) (yes k) = absurd (omega (arith, o.0.over s k (omega (arith, B.s<p, B.p≤e)), B.level, o.0.level))
      go (no l) (no k) = omega arith

  -- at the end of the task the walker says parallel
  by_end : (p q s e : ℕ) → Rooted mv q → By mv p q s e → par mv p (suc e) ≡ true
  unfolding move_at
  by_end p q s e rooted B = par_step mv p e B.p≤e ∙ go (walk mv p e).height (walk mv p e).par (low (dec_le (suc w.low) e))
    where
      w : Walked p e (walk mv p e).height (walk mv p e).par
      w = walked p e B.p≤e (λ m l. rooted m (omega (arith, B.e<q)))

      low : Dec (w.low < e) → (walk mv p e).height ≡ 0
      low (yes l) = omega (arith, B.inside w.low (omega (arith, B.s<p, w.p≤low)) l, w.at_low, w.under, B.level)
      low (no l) = let z : w.low ≡ e = omega (arith, w.low≤q) in omega (arith, rw z at w.at_low, w.under)

      head : head_or (opened mv e) 0 ≡ s
      head = opener p q s e rooted B (opened mv e) (all_opened e (λ m l. rooted m (omega (arith, B.e<q))))

      go : (h : ℕ) (b : Bool) → h ≡ 0 → (moved (mv e) (spawned mv e) h b).par ≡ true
      go h b z = rw (z, B.at_e, head, B.at_s)

  -- one event later it still does
  by_step : (s n h : ℕ) (b : Bool) (x : Move) (k : Bool) → mv n ≡ x → b ≡ true → depth_at mv s ≤ depth_at mv n
      → (h ≡ 0 → depth_at mv n ≡ depth_at mv s) → (depth_at mv n ≡ depth_at mv s → (mv n ≢ Joins) × (mv n ≢ Closes))
      → ((moved x k h b).par ≡ true) × (depth_at mv s ≤ depth_at mv (suc n))
  by_step s n h b Opens k e t d z f = (t, omega (arith, depth_at_lem mv n Opens e))
  by_step s n zero b Closes k e t d z f = absurd ((f (z refl)).1 e)
  by_step s n (suc h) b Closes k e t d z f = (t, go (dec_le (suc (depth_at mv s)) (depth_at mv n)))
    where
      go : Dec (depth_at mv s < depth_at mv n) → depth_at mv s ≤ depth_at mv (suc n)
      go (yes l) = omega (arith, depth_at_lem mv n Closes e)
      go (no l) = absurd ((f (omega arith)).1 e)
  by_step s n zero b Joins k e t d z f = absurd ((f (z refl)).0 e)
  by_step s n (suc h) b Joins k e t d z f = (t, omega (arith, depth_at_lem mv n Joins e))
  by_step s n h b Stays k e t d z f = (t, omega (arith, depth_at_lem mv n Stays e))

  by_later : (p q s e : ℕ) → Rooted mv q → By mv p q s e → (n : ℕ) → suc e ≤ n → n ≤ q
      → (par mv p n ≡ true) × (depth_at mv s ≤ depth_at mv n)
  unfolding move_at
  by_later p q s e rooted B =
      from (λ (n : ℕ). n ≤ q → (par mv p n ≡ true) × (depth_at mv s ≤ depth_at mv n)) (suc e)
      (λ l. (by_end p q s e rooted B, omega (arith, depth_at_lem mv e Closes B.at_e, B.level)))
      (λ n en ih nq. next n en nq (ih (omega arith)))
    where
      next : (n : ℕ) → e < n → n < q → (par mv p n ≡ true) × (depth_at mv s ≤ depth_at mv n)
          → (par mv p (suc n) ≡ true) × (depth_at mv s ≤ depth_at mv (suc n))
      next n en nq ih =
          let pn : p ≤ n = omega (arith, B.p≤e) in
          let w = walked p n pn (λ m l. rooted m (omega arith)) in
          let r = by_step s n (walk mv p n).height (walk mv p n).par (mv n) (spawned mv n) refl ih.0 ih.1
          (λ z. omega (arith, w.above (suc e) (omega (arith, B.p≤e)) en, w.under, ih.1, depth_at_lem mv e Closes B.at_e, B.level))
          (λ z. B.quiet n en nq z) in
          (par_step mv p n pn ∙ r.0, r.1)

  -- from the definition to the walk
  pub walk_complete : (p q : ℕ) → Rooted mv q → Parallel mv p q → par mv p q ≡ true
  walk_complete p q rooted P = (by_later p q P.0 P.1 rooted P.2 q P.2.e<q (omega arith)).0

  -- the walk decides the definition
  pub walk_is : (p q : ℕ) → p ≤ q → Rooted mv q → Parallel mv p q ↔ (par mv p q ≡ true)
  walk_is p q pq rooted = (walk_complete p q rooted, walk_sound p q pq rooted)
