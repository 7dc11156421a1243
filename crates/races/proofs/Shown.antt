-- The buffer from event to event, for whoever runs over a trace: at the start, past an event that is no access, past an access of a record
-- that has raced; what the engine reads in it; and that no second contents fit. Assumes nothing.
use mathlib.Core.Path.{◌≡◌, refl, ap, ◌∙◌}
use mathlib.Core.Logic.{◌⊎◌, inl, inr, ◌≢◌}
use mathlib.Core.List.{List}
use mathlib.Core.Bool.{Bool, false}
use mathlib.Core.Option.{Option, none, some}
use Prim.Native.Nat.{ℕ, suc, ◌+◌, ◌<◌}
use lib.ListN.{get_or}
use Rattle.races.specs.Trace.{other, access, Trace, Lawful, on_record}
use Rattle.races.specs.Rules.{Rules, Fit}
use Rattle.races.specs.Places.{holds, par_to, held, in_class, found_class, first_of}
use Rattle.races.specs.Records.{second_of, stop_of}
use Rattle.races.specs.Entries.{event_or, strand_or, Layout, HasPlace, Holding}
use Rattle.races.specs.Shown.{shown_at, Shown, Accessible, Accessed}
use Rattle.races.proofs.Standing.{held_below}
use Rattle.races.proofs.Found.{found_none, found_some, second_next}
use Rattle.races.proofs.Entries.{holding_same, holding_unique}
use Rattle.races.proofs.Places.{held_start, none_yet, stop_none, frozen_stays, racing_stays, elsewhere_stays, elsewhere_second, clean_on, race_on}
use Rattle.races.proofs.Accesses.{off_record, same_or_not}

module _ (R : Rules) (T : Trace) (Y : Layout) (records : ℕ) (P₀ : List ℕ) where
  -- emptied places show that nothing has happened
  pub shown_start : (P : List ℕ) → Holding Y T.strand records P₀ (λ r c. none) P → Shown R T Y 0 records P₀ P
  shown_start P H = holding_same H (shown_at R T 0) (λ r c h. rw (stop_none R T r 0 (none_yet R T r)) (held_start R T r c))

  pub shown_unique : (n : ℕ) (P Q : List ℕ) → Shown R T Y n records P₀ P → Shown R T Y n records P₀ Q → P ≡ Q
  shown_unique n P Q G H = holding_unique Y T.strand records P₀ P Q (shown_at R T n) G H

  module _ (law : Lawful T) (fit : Fit R T) (n : ℕ) (P : List ℕ) (S : Shown R T Y n records P₀ P) where
    -- an event that is no access
    pub shown_other : T.act n ≡ other → Shown R T Y (suc n) records P₀ P
    shown_other e = holding_same S (shown_at R T (suc n)) (λ r c h. elsewhere_stays R T law fit r n (ap (on_record r) e) c)

    -- "A record's places freeze at its race"
    pub shown_frozen : (r b j : ℕ) → T.act n ≡ access r b → second_of R T r n ≡ some j → Shown R T Y (suc n) records P₀ P
    shown_frozen r b j e f = holding_same S (shown_at R T (suc n)) (λ q c h. go q c (same_or_not q r))
      where
        go : (q c : ℕ) → (q ≡ r) ⊎ (q ≢ r) → shown_at R T (suc n) q c ≡ shown_at R T n q c
        go q c (inl z) = rw z (frozen_stays R T law fit r n j f c)
        go q c (inr z) = elsewhere_stays R T law fit q n (ap (on_record q) e ∙ off_record q r b z) c

  -- What an engine reads in a place of a record that has not raced: the strand of what it holds, or none. If it can say of every earlier
  -- event's strand whether that event is parallel to event n, and says no of none, it can say so of the place.
  pub told_by : Lawful T → (n : ℕ) (P : List ℕ) → Shown R T Y n records P₀ P → (r c : ℕ) → HasPlace Y records r c → second_of R T r n ≡ none
      → (ask : ℕ → Bool) → ask 4294967295 ≡ false → ((m : ℕ) → m < n → ask (T.strand m) ≡ T.par m n)
      → ask (get_or P (Y.spot r c + Y.gap) 0) ≡ holds (par_to T n) (held R T r c n)
  told_by law n P S r c h e ask empty tells = rw (S.its_strand r c h, stop_none R T r n e) (go (held R T r c n) refl)
    where
      go : (o : Option ℕ) → held R T r c n ≡ o → ask (strand_or T.strand o) ≡ holds (par_to T n) o
      go none f = empty
      go (some m) f = tells m (held_below T law (in_class R T r c) (R.latest c) n m f).0

  -- The first of a record's race stands in a place of it, and stays there: the class that is named says which.
  pub shown_first : (n : ℕ) (P : List ℕ) → Shown R T Y n records P₀ P → (r c j f : ℕ) → HasPlace Y records r c
      → stop_of R T r n ≡ j → found_class R T r j ≡ some c → first_of R T r j ≡ some f → get_or P (Y.spot r c) 0 ≡ f
  unfolding first_of
  shown_first n P S r c j f h stop class first =
      let held_there : held R T r c j ≡ some f = rw class at first in
      S.event r c h ∙ rw stop (ap event_or held_there)

-- The seconds after an access of a record that has not raced: if it finds something it is the record's second, otherwise there is still
-- none; and no other record has raced.
module _ (R : Rules) (T : Trace) (law : Lawful T) (fit : Fit R T) (n r b : ℕ) (on : T.act n ≡ access r b) where
  pub second_raced : second_of R T r n ≡ none → (f : ℕ) → first_of R T r n ≡ some f → second_of R T r (suc n) ≡ some n
  second_raced unraced f e = race_on R T law fit r n unraced (found_some R T r n b f on e)

  pub second_clean : second_of R T r n ≡ none → first_of R T r n ≡ none → second_of R T r (suc n) ≡ none
  second_clean unraced e = clean_on R T law fit r n unraced (found_none R T r n e)

  -- nor has one that had raced
  pub second_frozen : (j : ℕ) → second_of R T r n ≡ some j → second_of R T r (suc n) ≡ some j
  second_frozen j e = second_next R T law fit r n ∙ rw e

  pub second_elsewhere : (q : ℕ) → q ≢ r → second_of R T q (suc n) ≡ second_of R T q n
  second_elsewhere q z = elsewhere_second R T law fit q n (ap (on_record q) on ∙ off_record q r b z)

-- "The racing access itself changes no place": what the places show before it they show behind it
pub shown_racing : {R : Rules} {T : Trace} {Y : Layout} {n r b records : ℕ} {P₀ P : List ℕ} → Lawful T → Fit R T → T.act n ≡ access r b
    → second_of R T r n ≡ none → (f : ℕ) → first_of R T r n ≡ some f → Shown R T Y n records P₀ P → Shown R T Y (suc n) records P₀ P
shown_racing {R = R} {T = T} {n = n} {r = r} {b = b} law fit on unraced f e S =
    holding_same S (shown_at R T (suc n)) (λ q c h. go q c (same_or_not q r))
  where
    go : (q c : ℕ) → (q ≡ r) ⊎ (q ≢ r) → shown_at R T (suc n) q c ≡ shown_at R T n q c
    go q c (inl z) = rw z (racing_stays R T law fit r n unraced (found_some R T r n b f on e) c)
    go q c (inr z) = elsewhere_stays R T law fit q n (ap (on_record q) on ∙ off_record q r b z) c

-- no second contents fit the contract of an access
pub accessed_once : (R : Rules) (Y : Layout) (told : ℕ → Bool) (P : List ℕ) (r b at strand : ℕ) (P' P'' : List ℕ)
    → Accessible R Y told P r b at strand → Accessed R Y told P r b at strand P' → Accessed R Y told P r b at strand P'' → P' ≡ P''
accessed_once R Y told P r b at strand P' P'' K A B =
    let x = A K.T K.n K.records K.P₀ K.arriving in
    let y = B K.T K.n K.records K.P₀ K.arriving in
    shown_unique R K.T Y K.records K.P₀ (suc K.n) P' P'' x y
