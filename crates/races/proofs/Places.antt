-- What an event makes of a record's places: nothing if it is no access of the record, if the record has raced, or if it is the second of
-- the record's race; otherwise its own class's place follows the rule. Assumes nothing.
use mathlib.Core.Path.{◌≡◌, refl, sym, ap, ◌∙◌}
use mathlib.Core.Bool.{Bool, true, false, cond, false≢true}
use mathlib.Core.Option.{Option, none, some, get_or}
use Prim.Native.Nat.{ℕ, suc}
use Rattle.races.specs.Search.{or_here, least}
use Rattle.races.specs.Trace.{Act, other, access, Trace, Lawful, on_record, is_of}
use Rattle.races.specs.Rules.{Rules, Fit}
use Rattle.races.specs.Places.{holds, stood, par_to, held_of, in_class, held, found}
use Rattle.races.specs.Records.{second_of, stop_of}
use Rattle.races.specs.Shown.{shown_at}
use Rattle.races.proofs.Found.{found_off, second_next}

off_class : (r c : ℕ) (a : Act) → on_record r a ≡ false → is_of r c a ≡ false
off_class r c other e = refl
off_class r c (access q d) e = rw e

-- an access comes to stand just where nothing parallel to it does, or where the last one is kept
pub stood_new : (latest : Bool) (test : ℕ → Bool) (n : ℕ) (o : Option ℕ) → holds test o ≡ false → stood latest test n o ≡ some n
stood_new latest test n none f = refl
stood_new true test n (some s) f = refl
stood_new false test n (some s) f = rw f

pub stood_last : (latest : Bool) (test : ℕ → Bool) (n : ℕ) (o : Option ℕ) → latest ≡ true → stood latest test n o ≡ some n
stood_last latest test n none e = refl
stood_last true test n (some s) e = refl
stood_last false test n (some s) e = absurd (false≢true e)

pub stood_old : (latest : Bool) (test : ℕ → Bool) (n : ℕ) (o : Option ℕ) → latest ≡ false → holds test o ≡ true → stood latest test n o ≡ o
stood_old latest test n none e t = absurd (false≢true t)
stood_old true test n (some s) e t = absurd (false≢true (sym e))
stood_old false test n (some s) e t = rw t

module _ (R : Rules) (T : Trace) where
  pub held_next : (r c n : ℕ)
      → held R T r c (suc n) ≡ cond (in_class R T r c n) (stood (R.latest c) (par_to T n) n (held R T r c n)) (held R T r c n)
  unfolding held_of
  held_next r c n = refl

  -- before any event
  pub held_start : (r c : ℕ) → held R T r c 0 ≡ none
  unfolding held_of
  held_start r c = refl

  pub held_off : (r c n : ℕ) → in_class R T r c n ≡ false → held R T r c (suc n) ≡ held R T r c n
  held_off r c n e = held_next r c n ∙ rw e

  stop_some : (r n j : ℕ) → second_of R T r n ≡ some j → stop_of R T r n ≡ j
  unfolding stop_of
  stop_some r n j e = ap (λ (o : Option ℕ). get_or o n) e

  pub stop_none : (r n : ℕ) → second_of R T r n ≡ none → stop_of R T r n ≡ n
  unfolding stop_of
  stop_none r n e = ap (λ (o : Option ℕ). get_or o n) e

  pub none_yet : (r : ℕ) → second_of R T r 0 ≡ none
  unfolding least
  none_yet r = refl

  module _ (law : Lawful T) (fit : Fit R T) where
    -- a record that has raced is frozen
    pub frozen_stays : (r n j : ℕ) → second_of R T r n ≡ some j → (c : ℕ) → shown_at R T (suc n) r c ≡ shown_at R T n r c
    frozen_stays r n j e c =
        let s : second_of R T r (suc n) ≡ some j = second_next R T law fit r n ∙ rw e in
        rw (stop_some r (suc n) j s, stop_some r n j e)

    -- the second of its race freezes it
    pub racing_stays : (r n : ℕ) → second_of R T r n ≡ none → found R T r n ≡ true → (c : ℕ) → shown_at R T (suc n) r c ≡ shown_at R T n r c
    racing_stays r n e f c =
        let s : second_of R T r (suc n) ≡ some n = second_next R T law fit r n ∙ rw (e, f) in
        rw (stop_some r (suc n) n s, stop_none r n e)

    -- nothing found: the places follow the event
    pub clean_on : (r n : ℕ) → second_of R T r n ≡ none → found R T r n ≡ false → second_of R T r (suc n) ≡ none
    clean_on r n e f = second_next R T law fit r n ∙ rw (e, f)

    pub clean_follows : (r n : ℕ) → second_of R T r n ≡ none → found R T r n ≡ false → (c : ℕ)
        → (shown_at R T (suc n) r c ≡ held R T r c (suc n)) × (shown_at R T n r c ≡ held R T r c n)
    clean_follows r n e f c = (rw (stop_none r (suc n) (clean_on r n e f)), rw (stop_none r n e))

    -- and where it finds something it is the record's second
    pub race_on : (r n : ℕ) → second_of R T r n ≡ none → found R T r n ≡ true → second_of R T r (suc n) ≡ some n
    race_on r n e f = second_next R T law fit r n ∙ rw (e, f)

    -- an event elsewhere changes nothing
    pub elsewhere_stays : (r n : ℕ) → on_record r (T.act n) ≡ false → (c : ℕ) → shown_at R T (suc n) r c ≡ shown_at R T n r c
    elsewhere_stays r n off c = go (second_of R T r n) refl
      where
        go : (o : Option ℕ) → second_of R T r n ≡ o → shown_at R T (suc n) r c ≡ shown_at R T n r c
        go none e =
            let w = clean_follows r n e (found_off R T r n off) c in
            w.0 ∙ held_off r c n (off_class r c (T.act n) off) ∙ sym w.1
        go (some j) e = frozen_stays r n j e c

    pub elsewhere_second : (r n : ℕ) → on_record r (T.act n) ≡ false → second_of R T r (suc n) ≡ second_of R T r n
    elsewhere_second r n off = second_next R T law fit r n ∙ rw (found_off R T r n off) (kept (second_of R T r n))
      where
        kept : (o : Option ℕ) → or_here o false n ≡ o
        kept none = refl
        kept (some j) = refl
