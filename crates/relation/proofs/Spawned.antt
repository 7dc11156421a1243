-- Only a spawn opens a task, so every task that an end closes was spawned. Assumes nothing.
use mathlib.Core.Path.{◌≡◌, refl, sym, ◌∙◌}
use mathlib.Core.Bool.{true}
use mathlib.Core.List.{List, [], ◌∷◌}
use Prim.Native.Nat.{ℕ, zero, suc, ◌+◌, ◌≤◌}
use native.Mathlib.Omega.{arith}
use native.Mathlib.Numerals.{add-one}
use Rattle.jobfile.specs.Trace.{depth_at}
use Rattle.jobfile.specs.declared.event.Move.{Move}
use Rattle.jobfile.specs.declared.event.Move.TheVariants.{Opens, Closes, Joins, Stays}
use Rattle.relation.specs.Parallel.{Rooted}
use Rattle.relation.specs.Walk.{is_spawn, restack, head_or, Walker, moved, move, opened, spawned, move_at, walk}
use Rattle.relation.proofs.Agree.{only_root}
use Rattle.relation.proofs.Depth.{depth_at_lem}
use Rattle.relation.proofs.Walk.{walk_step}

module _ (mv : ℕ → Move) where
  abbrev AllSpawned : List ℕ → Type 0
  AllSpawned [] = Unit {0}
  AllSpawned (s ∷ os) = (mv s ≡ Opens) × AllSpawned os

  all_spawned_next : (x : Move) (n : ℕ) (os : List ℕ) → mv n ≡ x → AllSpawned os → AllSpawned (restack x n os)
  all_spawned_next Opens n os e a = (e, a)
  all_spawned_next Closes n [] e a = tt
  all_spawned_next Closes n (s ∷ os) e a = a.1
  all_spawned_next Joins n os e a = a
  all_spawned_next Stays n os e a = a

  all_spawned : (n : ℕ) → AllSpawned (opened mv n)
  unfolding opened
  all_spawned zero = tt
  all_spawned (suc n) = all_spawned_next (mv n) n (opened mv n) refl (all_spawned n)

  -- a task that is not the root was spawned
  pub spawned_deep : (n : ℕ) → Rooted mv n → 2 ≤ depth_at mv n → spawned mv n ≡ true
  spawned_deep n rooted deep = go (opened mv n) (all_spawned n) (only_root mv n rooted)
    where
      go : (os : List ℕ) → AllSpawned os → (os ≡ [] → depth_at mv n ≡ 1) → is_spawn (mv (head_or os 0)) ≡ true
      go [] a f = absurd (omega (arith, f refl))
      go (s ∷ os) a f = rw a.0

  -- the move of event n, with nothing to look up
  pub move_at_lem : (n : ℕ) (w : Walker) → Rooted mv (suc n) → move_at mv n w ≡ move (mv n) true w
  unfolding move_at
  move_at_lem n w rooted = go (mv n) refl
    where
      go : (x : Move) → mv n ≡ x → move x (spawned mv n) w ≡ move x true w
      go Opens e = refl
      go Closes e =
          rw (spawned_deep n (λ m l. rooted m (omega arith)) (omega (arith, depth_at_lem mv n Closes e, rooted (suc n) (omega arith))))
      go Joins e = go_join w.height
        where
          go_join : (h : ℕ) → moved Joins (spawned mv n) h w.par ≡ moved Joins true h w.par
          go_join zero = refl
          go_join (suc h) = refl
      go Stays e = refl

  pub walk_next : (p n : ℕ) (x : Move) (w w' : Walker) → p ≤ n → Rooted mv (suc n) → w ≡ walk mv p n → x ≡ mv n
      → w' ≡ move x true w → w' ≡ walk mv p (n + 1)
  walk_next p n x w w' pn rooted here at step =
      step ∙ rw (here, at, add-one n) (sym (walk_step mv p n pn ∙ move_at_lem n (walk mv p n) rooted))
