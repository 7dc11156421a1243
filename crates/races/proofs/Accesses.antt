-- What an access gives, for any rules and any layout: each way that the engine's answers can fall gives the access to be named, or the
-- places one event further. Assumes nothing.
use mathlib.Core.Path.{◌≡◌, refl, sym, ap, ◌∙◌}
use mathlib.Core.Logic.{◌⊎◌, inl, inr, ◌≢◌}
use mathlib.Core.List.{List}
use mathlib.Core.Bool.{Bool, true, false, cond, false≢true, ◌&&◌}
use mathlib.Core.Option.{Option, none, some}
use Prim.Native.Nat.{ℕ, suc, ◌<◌}
use native.Mathlib.Omega.{arith}
use borrow.Author.Tests.{eq-eqb, ne_eqb}
use Rattle.races.specs.Trace.{access, Trace, on_record, is_of, class_of}
use Rattle.races.specs.Rules.{Rules}
use Rattle.races.specs.Places.{holds, stood, par_to, in_class, held, finds, found_class, first_in, first_of, found}
use Rattle.races.specs.Entries.{put, Layout, HasPlace}
use Rattle.races.specs.Shown.{Names, NamesNone, shown_at, Facing, Accessed}
use Rattle.races.proofs.Search.{Least, least_is, least_only}
use Rattle.races.proofs.Standing.{holds_some}
use Rattle.std.proofs.lemmas.Bool.{and_from, cases_eq}
use Rattle.races.proofs.Found.{of_is, found_by, found_none, finding_first}
use Rattle.races.proofs.Entries.{one_or_other, holding_same, holding_put}
use Rattle.races.proofs.Places.{stood_new, stood_last, stood_old, held_next, held_off, clean_follows, elsewhere_stays}

guarded : (x a b : Bool) → (x ≡ true → a ≡ b) → (x && a) ≡ (x && b)
guarded true a b f = f refl
guarded false a b f = refl

-- an event off a record, and on another class
pub off_record : (q r b : ℕ) → q ≢ r → on_record q (access r b) ≡ false
off_record q r b n = ne_eqb r q (λ e. n (sym e))

off_class : (r d b : ℕ) → d ≢ b → is_of r d (access r b) ≡ false
off_class r d b n = rw (ne_eqb b d (λ e. n (sym e)), eq-eqb r r refl)

pub same_or_not : (q r : ℕ) → (q ≡ r) ⊎ (q ≢ r)
same_or_not = cases_eq

module _ {R : Rules} {T : Trace} {n r b : ℕ} {told : ℕ → Bool} (F : Facing R T n r b told) where
  -- the engine's word, class by class
  finds_told : (c : ℕ) → c < R.classes → finds R T r n c ≡ (R.clash c b && told c)
  finds_told c h =
      let e : class_of (T.act n) ≡ b = ap class_of F.is_an_access in
      rw e (guarded (R.clash c b) (holds (par_to T n) (held R T r c n)) (told c) (λ t. sym (F.tells c h (inl t))))

  names_finds : (c : ℕ) → Names R b told c → finds R T r n c ≡ true
  names_finds c N = finds_told c N.below ∙ and_from _ _ N.clash N.parallel

  -- the class that is named, and what its place holds
  pub names_class : (c : ℕ) → Names R b told c → found_class R T r n ≡ some c
  names_class c N =
      least_only (finds R T r n) R.classes (found_class R T r n) (some c) (least_is (finds R T r n) R.classes)
      (N.below, names_finds c N, λ d l. finds_told d (omega (arith, N.below)) ∙ N.smaller d l)

  pub names_first : (c : ℕ) → Names R b told c → (i : ℕ) × (held R T r c n ≡ some i) × (first_of R T r n ≡ some i)
  names_first c N =
      let h = holds_some (par_to T n) (held R T r c n) (sym (F.tells c N.below (inl N.clash)) ∙ N.parallel) in
      let e : class_of (T.act n) ≡ b = ap class_of F.is_an_access in (
        h.0,
        h.1,
        finding_first R T r n h.0 (record {
          class = c;
          below = N.below;
          clash = rw e N.clash;
          holds = h.1;
          parallel = h.2;
          smaller = λ d l. finds_told d (omega (arith, N.below)) ∙ N.smaller d l;
        }),
      )

  names_found : (c : ℕ) → Names R b told c → found R T r n ≡ true
  names_found c N = found_by R T r n b c F.is_an_access N.below (names_finds c N)

  none_first : (o : Option ℕ) → Least (finds R T r n) R.classes o → NamesNone R b told → first_in R T r n o ≡ none
  none_first none l f = refl
  none_first (some c) l f = absurd (false≢true (sym (f c l.0) ∙ sym (finds_told c l.0) ∙ l.1))

  pub names_none : NamesNone R b told → first_of R T r n ≡ none
  unfolding first_of
  names_none f = none_first (found_class R T r n) (least_is (finds R T r n) R.classes) f

  none_found : NamesNone R b told → found R T r n ≡ false
  none_found f = found_none R T r n (names_none f)

  -- nothing named: the places of other classes and records are as they were
  others_stay : NamesNone R b told → (q d : ℕ) → ¬ ((q ≡ r) × (d ≡ b)) → shown_at R T (suc n) q d ≡ shown_at R T n q d
  others_stay f q d z = go (same_or_not q r)
    where
      go : (q ≡ r) ⊎ (q ≢ r) → shown_at R T (suc n) q d ≡ shown_at R T n q d
      go (inl e) =
          let w = clean_follows R T F.law F.fit r n F.unraced (none_found f) d in
          let k : d ≢ b = λ x. z (e, x) in
          rw e (w.0 ∙ held_off R T r d n (ap (is_of r d) F.is_an_access ∙ off_class r d b k) ∙ sym w.1)
      go (inr e) = elsewhere_stays R T F.law F.fit q n (ap (on_record q) F.is_an_access ∙ off_record q r b e) d

  -- the place of the event's own class
  own_next : NamesNone R b told → shown_at R T (suc n) r b ≡ stood (R.latest b) (par_to T n) n (held R T r b n)
  own_next f =
      let w = clean_follows R T F.law F.fit r n F.unraced (none_found f) b in
      w.0 ∙ held_next R T r b n ∙ own
    where
      own : cond (in_class R T r b n) (stood (R.latest b) (par_to T n) n (held R T r b n)) (held R T r b n)
          ≡ stood (R.latest b) (par_to T n) n (held R T r b n)
      own = let t : in_class R T r b n ≡ true = ap (is_of r b) F.is_an_access ∙ of_is r b in rw t

  own_told : told b ≡ holds (par_to T n) (held R T r b n)
  own_told = F.tells b (F.fit.classed n r b F.is_an_access) (inr refl)

  own_taken : NamesNone R b told → (R.latest b ≡ true) ⊎ (told b ≡ false) → shown_at R T (suc n) r b ≡ some n
  own_taken f (inl t) = own_next f ∙ stood_last (R.latest b) (par_to T n) n (held R T r b n) t
  own_taken f (inr t) = own_next f ∙ stood_new (R.latest b) (par_to T n) n (held R T r b n) (sym own_told ∙ t)

  own_kept : NamesNone R b told → R.latest b ≡ false → told b ≡ true → shown_at R T (suc n) r b ≡ shown_at R T n r b
  own_kept f t u =
      let w = clean_follows R T F.law F.fit r n F.unraced (none_found f) b in
      own_next f ∙ stood_old (R.latest b) (par_to T n) n (held R T r b n) t (sym own_told ∙ u) ∙ sym w.1

-- The buffer. `HasPlace` says that the class in question has its place in this one.
module _ {R : Rules} {Y : Layout} {told : ℕ → Bool} {P : List ℕ} {r b at strand : ℕ} where
  pub accessed_put : b < Y.classes → NamesNone R b told
      → (R.latest b ≡ true) ⊎ (told b ≡ false)
      → Accessed R Y told P r b at strand (put P (Y.spot r b) Y.gap at strand)
  accessed_put high none_named takes T n records P₀ J =
      let F = J.facing in
      let h : HasPlace Y records r b = record { on_its_record = J.on_its_record; below = high } in
      rw (J.number, J.strand_is)
      (holding_put J.shown J.laid (shown_at R T (suc n)) r b (some n) h (own_taken F none_named takes) (λ q d k z. others_stay F none_named q d z))

  -- the access does not come to stand, or has its place in another buffer
  pub accessed_kept : NamesNone R b told
      → (R.latest b ≡ false) × (told b ≡ true)
      → Accessed R Y told P r b at strand P
  accessed_kept none_named keeps T n records P₀ J =
      let F = J.facing in
      holding_same J.shown (shown_at R T (suc n)) (λ q d k. stays F q d (one_or_other q d r b))
    where
      stays : {T : Trace} {n : ℕ} (F : Facing R T n r b told) (q d : ℕ) → ((q ≡ r) × (d ≡ b)) ⊎ (¬ ((q ≡ r) × (d ≡ b)))
          → shown_at R T (suc n) q d ≡ shown_at R T n q d
      stays F q d (inl z) = rw (z.0, z.1) (own_kept F none_named keeps.0 keeps.1)
      stays F q d (inr z) = others_stay F none_named q d z
