-- Two walkers side by side: before is transitive, and so is parallel, by one law. Assumes nothing.
use mathlib.Core.Path.{◌≡◌, refl, ap, ◌∙◌}
use mathlib.Core.Logic.{◌⊎◌, inl, inr}
use mathlib.Core.Bool.{Bool}
use Prim.Native.Nat.{ℕ, zero, suc, ◌+◌, ◌-◌, ◌≤◌}
use native.Mathlib.Omega.{arith}
use native.Mathlib.Nat.{not-suc-le-zero, add-zero, add-suc}
use Rattle.jobfile.specs.declared.event.Move.{Move}
use Rattle.jobfile.specs.declared.event.Move.TheVariants.{Opens, Closes, Joins, Stays}
use Rattle.relation.specs.Walk.{Walker, moved, move, start, spawned, move_at, walk_for, walk, par}

-- either the outer walker still has the answer c and stands at least as high, or the two have merged
abbrev Inv : Bool → Walker → Walker → Type 0
Inv c x y = ((y.height ≤ x.height) × (x.par ≡ c)) ⊎ (x ≡ y)

inv_end : (c : Bool) (x y : Walker) → Inv c x y → y.par ≡ c → x.par ≡ c
inv_end c x y (inl g) e = g.1
inv_end c x y (inr m) e = ap (λ (s : Walker). s.par) m ∙ e

inv_step : (c : Bool) (m : Move) (b : Bool) (hi : ℕ) (pi : Bool) (hj : ℕ) (pj : Bool) → hj ≤ hi → pi ≡ c → Inv c (moved m b hi pi) (moved m b hj pj)
inv_step c Opens b hi pi hj pj g e = inl (omega arith, e)
inv_step c Closes b zero pi zero pj g e = inr refl
inv_step c Closes b zero pi (suc hj) pj g e = absurd (not-suc-le-zero g)
inv_step c Closes b (suc hi) pi zero pj g e = inl (omega arith, e)
inv_step c Closes b (suc hi) pi (suc hj) pj g e = inl (omega arith, e)
inv_step c Joins b zero pi zero pj g e = inr refl
inv_step c Joins b zero pi (suc hj) pj g e = absurd (not-suc-le-zero g)
inv_step c Joins b (suc hi) pi zero pj g e = inl (omega arith, e)
inv_step c Joins b (suc hi) pi (suc hj) pj g e = inl (omega arith, e)
inv_step c Stays b hi pi hj pj g e = inl (g, e)

inv_next : (c : Bool) (m : Move) (b : Bool) (x y : Walker) → Inv c x y → Inv c (move m b x) (move m b y)
inv_next c m b x y (inl g) = inv_step c m b x.height x.par y.height y.par g.0 g.1
inv_next c m b x y (inr e) = inr (ap (move m b) e)

-- induction from j upwards
pub from : (P : ℕ → Type 0) (j : ℕ) → P j → ((n : ℕ) → j ≤ n → P n → P (suc n)) → (k : ℕ) → j ≤ k → P k
from P j base next k le = rw (← fits) (go (k - j))
  where
    fits : j + (k - j) ≡ k
    fits = omega arith

    go : (n : ℕ) → P (j + n)
    go zero = rw add-zero base
    go (suc n) = rw add-suc (next (j + n) (omega arith) (go n))

module _ (mv : ℕ → Move) where
  pub walk_start : (p : ℕ) → walk mv p p ≡ start
  unfolding walk walk_for
  walk_start p = let z : p - p ≡ 0 = omega arith in rw z

  pub walk_step : (p q : ℕ) → p ≤ q → walk mv p (suc q) ≡ move_at mv q (walk mv p q)
  unfolding walk walk_for
  walk_step p q le =
      let z : suc q - p ≡ suc (q - p) = omega arith in
      let y : p + (q - p) ≡ q = omega arith in
      rw (z, y)

  pub par_step : (p q : ℕ) → p ≤ q → par mv p (suc q) ≡ (move_at mv q (walk mv p q)).par
  par_step p q le = ap (λ (s : Walker). s.par) (walk_step p q le)

  side_by_side : (c : Bool) (i j : ℕ) → i ≤ j → par mv i j ≡ c → (k : ℕ) → j ≤ k → Inv c (walk mv i k) (walk mv j k)
  unfolding move_at
  side_by_side c i j ij e = from (λ (k : ℕ). Inv c (walk mv i k) (walk mv j k)) j
      (rw walk_start (inl (omega arith, e)))
      (λ n jn ih. rw (walk_step i n (omega arith), walk_step j n jn) (inv_next c (mv n) (spawned mv n) (walk mv i n) (walk mv j n) ih))

  -- with c = false before is transitive, with c = true parallel is
  pub par_trans : (c : Bool) (i j k : ℕ) → i ≤ j → j ≤ k → par mv i j ≡ c → par mv j k ≡ c → par mv i k ≡ c
  par_trans c i j k ij jk e f = inv_end c (walk mv i k) (walk mv j k) (side_by_side c i j ij e k jk) f
