-- How a lent buffer shows the places just before event n, and what an access makes of it.
use Rattle.std.specs.Prelude.{◌≡◌, ◌⊎◌, List, Bool, true, false, ◌&&◌, ℕ, suc, ◌<◌, length}
use Rattle.std.proofs.Math.Option.{Option, none}
use Rattle.races.specs.Trace.{Trace, Lawful, access}
use Rattle.races.specs.Rules.{Rules, Fit}
use Rattle.races.specs.Places.{holds, par_to, held}
use Rattle.races.specs.Records.{second_of, stop_of}
use Rattle.races.specs.Entries.{Layout, Laid, Holding}

-- An access of class b, with the engine's word: class c is named if it conflicts and is told parallel, and no smaller one is both.
module _ (R : Rules) (b : ℕ) (told : ℕ → Bool) where
  pub record Names (c : ℕ) : Type 0 where
    pub below : c < R.classes
    pub clash : R.clash c b ≡ true
    pub parallel : told c ≡ true
    pub smaller : (d : ℕ) → d < c → (R.clash d b && told d) ≡ false

  abbrev pub NamesNone : Type 0
  NamesNone = (d : ℕ) → d < R.classes → (R.clash d b && told d) ≡ false

module _ (R : Rules) (T : Trace) where
  -- a record's place just before event n: it follows the events up to the record's own race and no further
  abbrev pub shown_at : ℕ → ℕ → ℕ → Option ℕ
  shown_at n r c = held R T r c (stop_of R T r n)

  -- the places just before event n; P₀ is what the buffer held once
  abbrev pub Shown : Layout → ℕ → ℕ → List ℕ → List ℕ → Type 0
  Shown Y n records P₀ P = Holding Y T.strand records P₀ (shown_at n) P

  -- Event n is an access of class b to record r, which has not raced, and the engine has told which places hold something parallel to it.
  pub record Facing (n r b : ℕ) (told : ℕ → Bool) : Type 0 where
    pub law : Lawful T
    pub fit : Fit R T
    pub is_an_access : T.act n ≡ access r b
    pub unraced : second_of R T r n ≡ none
    -- of the classes that conflict with this one, and of this one
    pub tells : (c : ℕ) → c < R.classes → (R.clash c b ≡ true) ⊎ (c ≡ b) → told c ≡ holds (par_to T n) (held R T r c n)

  -- and the buffer shows the places before it
  pub record Arriving (Y : Layout) (n records : ℕ) (P₀ P : List ℕ) (r b at strand : ℕ) (told : ℕ → Bool) : Type 0 where
    pub facing : Facing n r b told
    pub shown : Shown Y n records P₀ P
    pub laid : Laid Y records (length P)
    pub on_its_record : r < records
    pub number : at ≡ n
    pub number_fits : n < 4294967295
    pub strand_is : strand ≡ T.strand n
    pub strand_fits : T.strand n < 4294967295

-- what an access asks: some trace that the places show, with that access next
pub record Accessible (R : Rules) (Y : Layout) (told : ℕ → Bool) (P : List ℕ) (r b at strand : ℕ) : Type 0 where
  pub T : Trace
  pub n : ℕ
  pub records : ℕ
  pub P₀ : List ℕ
  pub arriving : Arriving R T Y n records P₀ P r b at strand told

-- What it gives, for every such trace, if it races with nothing: the places one event further.
abbrev pub Accessed : Rules → Layout → (ℕ → Bool) → List ℕ → ℕ → ℕ → ℕ → ℕ → List ℕ → Type 0
Accessed R Y told P r b at strand P' =
    (T : Trace) (n records : ℕ) (P₀ : List ℕ) → Arriving R T Y n records P₀ P r b at strand told → Shown R T Y (suc n) records P₀ P'
