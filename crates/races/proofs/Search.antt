-- What the searches below a number find. Assumes nothing.
use mathlib.Core.Path.{◌≡◌, refl, sym, ◌∙◌}
use mathlib.Core.Bool.{Bool, true, false, false≢true, ◌||◌}
use mathlib.Core.Option.{Option, none, some}
use Prim.Native.Nat.{ℕ, zero, suc, ◌≤◌, ◌<◌}
use native.Mathlib.Omega.{arith}
use native.Mathlib.Decide.{dec_le}
use Rattle.races.specs.Search.{any, or_here, least}

-- one more number below n
pub below : (P : ℕ → Type 0) (n : ℕ) → ((m : ℕ) → m < n → P m) → P n → (m : ℕ) → m < suc n → P m
below P n f z m l = go (dec_le (suc m) n)
  where
    go : Dec (m < n) → P m
    go (yes k) = f m k
    go (no k) = let e : m ≡ n = omega arith in rw e z

-- two tests that are true together are equal
pub true_together : (a b : Bool) → (a ≡ true → b ≡ true) → (b ≡ true → a ≡ true) → a ≡ b
true_together true b to from = sym (to refl)
true_together false true to from = from refl
true_together false false to from = refl

module _ (test : ℕ → Bool) where
  any_step : (n : ℕ) (b c : Bool) → test n ≡ b → (c ≡ true → (m : ℕ) × (m < n) × (test m ≡ true)) → (b || c) ≡ true
      → (m : ℕ) × (m < suc n) × (test m ≡ true)
  any_step n true c e ih t = (n, omega arith, e)
  any_step n false c e ih t = let w = ih t in (w.0, omega (arith, w.1), w.2)

  pub any_finds : (n : ℕ) → any test n ≡ true → (m : ℕ) × (m < n) × (test m ≡ true)
  unfolding any
  any_finds zero t = absurd (false≢true t)
  any_finds (suc n) t = any_step n (test n) (any test n) refl (any_finds n) t

  any_keeps : (n : ℕ) (b c : Bool) → test n ≡ b → c ≡ true → (b || c) ≡ true
  any_keeps n true c e t = refl
  any_keeps n false c e t = t

  pub any_has : (n m : ℕ) → m < n → test m ≡ true → any test n ≡ true
  unfolding any
  any_has zero m l t = absurd (omega arith)
  any_has (suc n) m l t = go (dec_le (suc m) n) (λ k. any_has n m k t)
    where
      go : Dec (m < n) → (m < n → any test n ≡ true) → (test n || any test n) ≡ true
      go (yes k) ih = any_keeps n (test n) (any test n) refl (ih k)
      go (no k) ih = let e : m ≡ n = omega arith in let h : test n ≡ true = rw e at t in rw h

  -- what it means that o is the least number below n that passes
  abbrev pub Least : ℕ → Option ℕ → Type 0
  Least n none = (m : ℕ) → m < n → test m ≡ false
  Least n (some j) = (j < n) × (test j ≡ true) × ((m : ℕ) → m < j → test m ≡ false)

  -- one that is found is the least further on too
  found_stays : (n j : ℕ) → Least n (some j) → Least (suc n) (some j)
  found_stays n j l = (omega arith, l.1, l.2)

  least_step : (n : ℕ) (o : Option ℕ) (b : Bool) → test n ≡ b → Least n o → Least (suc n) (or_here o b n)
  least_step n none true e l = (omega arith, e, l)
  least_step n none false e l = below (λ m. test m ≡ false) n l e
  least_step n (some j) true e l = found_stays n j l
  least_step n (some j) false e l = found_stays n j l

  pub least_is : (n : ℕ) → Least n (least test n)
  unfolding least
  least_is zero = λ m l. absurd (omega arith)
  least_is (suc n) = least_step n (least test n) (test n) refl (least_is n)

  -- there is one least number at most
  pub least_only : (n : ℕ) (o p : Option ℕ) → Least n o → Least n p → o ≡ p
  least_only n none none f g = refl
  least_only n none (some j) f g = absurd (false≢true (sym (f j g.0) ∙ g.1))
  least_only n (some j) none f g = absurd (false≢true (sym (g j f.0) ∙ f.1))
  least_only n (some i) (some j) f g = go (dec_le i j) (dec_le j i)
    where
      go : Dec (i ≤ j) → Dec (j ≤ i) → ◌≡◌ {A = Option ℕ} (some i) (some j)
      go (yes a) (yes b) = let e : i ≡ j = omega arith in rw e
      go (yes a) (no b) = absurd (false≢true (sym (g.2 i (omega arith)) ∙ f.1))
      go (no a) b = absurd (false≢true (sym (f.2 j (omega arith)) ∙ g.1))

  -- the least below a number is the least below any greater one
  pub least_kept : (m n j : ℕ) → m ≤ n → least test m ≡ some j → least test n ≡ some j
  least_kept m n j h e =
      let l : Least m (some j) = rw e at (least_is m) in
      least_only n (least test n) (some j) (least_is n) (omega (arith, l.0), l.1, l.2)
