-- THE LAW of places: if some earlier access of a class is parallel to event j, then so is what the class's place holds just before j.
--
-- Of every m of the class ahead of j: m is before what is held (or is it), or what is held is earlier than m and parallel to it. In the
-- first case before + parallel, in the second the transitivity of parallel along the trace makes it parallel to j. Where the place holds
-- the standing access no race-freeness is asked; where it holds the last one, those of the class must be before one another.
-- Assumes nothing.
use mathlib.Core.Path.{◌≡◌, refl, sym, ◌∙◌}
use mathlib.Core.Logic.{◌⊎◌, inl, inr}
use mathlib.Core.Bool.{Bool, true, false, cond, false≢true, true≢false}
use mathlib.Core.Option.{Option, none, some}
use Prim.Native.Nat.{ℕ, zero, suc, ◌≤◌, ◌<◌}
use native.Mathlib.Omega.{arith}
use Rattle.races.specs.Trace.{Trace, Lawful}
use Rattle.races.specs.Places.{holds, stood, par_to, held_of}
use Rattle.races.proofs.Search.{below}

-- what a place holds, if that passes
pub holds_some : (test : ℕ → Bool) (o : Option ℕ) → holds test o ≡ true → (m : ℕ) × (o ≡ some m) × (test m ≡ true)
holds_some test none t = absurd (false≢true t)
holds_some test (some m) t = (m, refl, t)

module _ (T : Trace) (law : Lawful T) where
  -- m is before k and parallel to j, so k is parallel to j
  chained : (m k j : ℕ) (c : Bool) → m ≤ k → k ≤ j → T.par m k ≡ false → T.par m j ≡ true → T.par k j ≡ c → T.par k j ≡ true
  chained m k j true mk kj f t e = e
  chained m k j false mk kj f t e = absurd (true≢false (sym t ∙ law.passes false m k j mk kj f e))

  module _ (class : ℕ → Bool) where
    -- those of the class are before one another
    abbrev pub AllBefore : ℕ → Type 0
    AllBefore n = (a b : ℕ) → a < b → b < n → class a ≡ true → class b ≡ true → T.par a b ≡ false

    -- m is before s, or s is parallel to m
    abbrev Near : ℕ → ℕ → Type 0
    Near s m = ((m ≤ s) × (T.par m s ≡ false)) ⊎ ((s ≤ m) × (T.par s m ≡ true))

    abbrev Speaks : ℕ → Option ℕ → Type 0
    Speaks n none = (m : ℕ) → m < n → class m ≡ false
    Speaks n (some s) = (s < n) × (class s ≡ true) × ((m : ℕ) → m < n → class m ≡ true → Near s m)

    -- event n comes to stand: every earlier one of the class is before it
    comes : (n : ℕ) → class n ≡ true → ((m : ℕ) → m < n → class m ≡ true → T.par m n ≡ false) → Speaks (suc n) (some n)
    comes n e f = (
      omega arith,
      e,
      below (λ m. class m ≡ true → Near n m) n (λ m mn z. inl (omega arith, f m mn z)) (λ z. inl (omega arith, law.self n)),
    )

    speaks_some : (n s : ℕ) (b : Bool) → T.par s n ≡ b → class n ≡ true → Speaks n (some s) → Speaks (suc n) (cond b (some s) (some n))
    speaks_some n s true t e l = (omega arith, l.1, below (λ m. class m ≡ true → Near s m) n l.2 (λ z. inr (omega arith, t)))
    speaks_some n s false t e l = comes n e (λ m mn z. was m mn (l.2 m mn z) (T.par m n) refl)
      where
        was : (m : ℕ) → m < n → Near s m → (c : Bool) → T.par m n ≡ c → T.par m n ≡ false
        was m mn (inl k) c y = law.passes false m s n k.0 (omega arith) k.1 t
        was m mn (inr k) true y = absurd (true≢false (sym (law.passes true s m n k.0 (omega arith) k.1 y) ∙ t))
        was m mn (inr k) false y = y

    speaks_step : (n : ℕ) (latest b : Bool) (o : Option ℕ) → (latest ≡ true → AllBefore (suc n)) → class n ≡ b → Speaks n o
        → Speaks (suc n) (cond b (stood latest (par_to T n) n o) o)
    speaks_step n latest true none chain e l = comes n e (λ m mn z. absurd (false≢true (sym (l m mn) ∙ z)))
    speaks_step n true true (some s) chain e l = comes n e (λ m mn z. chain refl m n mn (omega arith) z e)
    speaks_step n false true (some s) chain e l = speaks_some n s (T.par s n) refl e l
    speaks_step n latest false none chain e l = below (λ m. class m ≡ false) n l e
    speaks_step n latest false (some s) chain e l =
        (omega arith, l.1, below (λ m. class m ≡ true → Near s m) n l.2 (λ z. absurd (false≢true (sym e ∙ z))))

    held_speaks : (latest : Bool) (n : ℕ) → (latest ≡ true → AllBefore n) → Speaks n (held_of T latest class n)
    unfolding held_of
    held_speaks latest zero chain = λ m l. absurd (omega arith)
    held_speaks latest (suc n) chain =
        speaks_step n latest (class n) (held_of T latest class n) chain refl
        (held_speaks latest n (λ t a b ab bn ca cb. chain t a b ab (omega arith) ca cb))

    speaks_hit : (j m : ℕ) (o : Option ℕ) → Speaks j o → m < j → class m ≡ true → T.par m j ≡ true → holds (par_to T j) o ≡ true
    speaks_hit j m none l mj e t = absurd (false≢true (sym (l m mj) ∙ e))
    speaks_hit j m (some s) l mj e t = go (l.2 m mj e)
      where
        go : Near s m → T.par s j ≡ true
        go (inl k) = chained m s j (T.par s j) k.0 (omega arith) k.1 t refl
        go (inr k) = law.passes true s m j k.0 (omega arith) k.1 t

    -- THE LAW
    pub standing_speaks : (j m : ℕ) → m < j → class m ≡ true → T.par m j ≡ true → holds (par_to T j) (held_of T false class j) ≡ true
    standing_speaks j m = speaks_hit j m (held_of T false class j) (held_speaks false j (λ t. absurd (false≢true t)))

    -- and with the last access kept
    pub place_speaks : (latest : Bool) (j m : ℕ) → (latest ≡ true → AllBefore j) → m < j → class m ≡ true → T.par m j ≡ true
        → holds (par_to T j) (held_of T latest class j) ≡ true
    place_speaks latest j m chain = speaks_hit j m (held_of T latest class j) (held_speaks latest j chain)

  -- a place holds an earlier event of its class, whatever came before
  module _ (class : ℕ → Bool) where
    abbrev Holds : ℕ → Option ℕ → Type 0
    Holds n none = Unit {0}
    Holds n (some s) = (s < n) × (class s ≡ true)

    holds_more : (n : ℕ) (o : Option ℕ) → Holds n o → Holds (suc n) o
    holds_more n none h = h
    holds_more n (some s) h = (omega arith, h.1)

    holds_step : (n : ℕ) (latest b : Bool) (o : Option ℕ) → class n ≡ b → Holds n o → Holds (suc n) (cond b (stood latest (par_to T n) n o) o)
    holds_step n latest false o e h = holds_more n o h
    holds_step n latest true none e h = (omega arith, e)
    holds_step n true true (some s) e h = (omega arith, e)
    holds_step n false true (some s) e h = go (T.par s n)
      where
        go : (b : Bool) → Holds (suc n) (cond b (some s) (some n))
        go true = (omega arith, h.1)
        go false = (omega arith, e)

    held_holds : (latest : Bool) (n : ℕ) → Holds n (held_of T latest class n)
    unfolding held_of
    held_holds latest zero = tt
    held_holds latest (suc n) = holds_step n latest (class n) (held_of T latest class n) refl (held_holds latest n)

    pub held_below : (latest : Bool) (n s : ℕ) → held_of T latest class n ≡ some s → (s < n) × (class s ≡ true)
    held_below latest n s e = let k : Holds n (some s) = rw e at (held_holds latest n) in k

    -- where the last one is kept, it is the last of the class
    abbrev pub LastOf : ℕ → Option ℕ → Type 0
    LastOf n none = (m : ℕ) → m < n → class m ≡ false
    LastOf n (some w) = (w < n) × (class w ≡ true) × ((m : ℕ) → m < n → class m ≡ true → m ≤ w)

    last_step : (n : ℕ) (b : Bool) (o : Option ℕ) → class n ≡ b → LastOf n o → LastOf (suc n) (cond b (stood true (par_to T n) n o) o)
    last_step n true none e l = (omega arith, e, λ m mn z. omega arith)
    last_step n true (some s) e l = (omega arith, e, λ m mn z. omega arith)
    last_step n false none e l = below (λ m. class m ≡ false) n l e
    last_step n false (some s) e l =
        (omega arith, l.1, below (λ m. class m ≡ true → m ≤ s) n l.2 (λ z. absurd (false≢true (sym e ∙ z))))

    pub held_last : (n : ℕ) → LastOf n (held_of T true class n)
    unfolding held_of
    held_last zero = λ m l. absurd (omega arith)
    held_last (suc n) = last_step n (class n) (held_of T true class n) refl (held_last n)
