-- The last write and the standing read that the places compute are those of the definition, there is one of each at most, and none just
-- where the record has not been written, or read. Assumes nothing.
use mathlib.Core.Path.{◌≡◌, refl, sym, ◌∙◌}
use mathlib.Core.Logic.{◌⊎◌, inl, inr, ◌↔◌, ◌≢◌}
use mathlib.Core.Bool.{Bool, true, false, cond, false≢true}
use mathlib.Core.Option.{Option, none, some}
use Prim.Native.Nat.{ℕ, zero, suc, ◌≤◌, ◌<◌}
use native.Mathlib.Omega.{arith}
use native.Mathlib.Decide.{dec_le}
use Rattle.jobfile.specs.Events.{access_of}
use Rattle.jobfile.specs.Trace.{moves}
use Rattle.jobfile.specs.declared.event.Event.{Event}
use Rattle.jobfile.specs.declared.event.Kind.TheVariants.{Write, Read}
use Rattle.jobfile.specs.Events.{access_to}
use Rattle.relation.specs.Parallel.{Before, Rooted}
use Rattle.relation.specs.Walk.{par}
use Rattle.relation.proofs.Agree.{walk_sound}
use Rattle.relation.proofs.Laws.{bool_cases, rooted_less, before_sound, before_complete}
use Rattle.races.specs.Places.{par_to, in_class, stood, held_of}
use Rattle.races.specs.Mark.{rules, event_trace}
use Rattle.races.specs.Named.{LastWrite, Standing, first_read, takes_place, keeps_place}
use Rattle.races.specs.Verdict.{last_write, standing}
use Rattle.races.proofs.Search.{below}
use Rattle.races.proofs.Standing.{LastOf, held_last}
use Rattle.races.proofs.Places.{held_next, held_off}
use Rattle.races.proofs.Events.{lawful, of_kind, kind_of, not_kind}

-- a relation that says what a place holds
abbrev Tells : Option ℕ → (ℕ → Type 0) → Type 0
Tells o P = (s : ℕ) → (o ≡ some s) ↔ P s

-- holds of one event at most, and of none just where the place is empty
one_only : (o : Option ℕ) (P : ℕ → Type 0) → Tells o P → (s t : ℕ) → P s → P t → s ≡ t
one_only o P h s t p q =
    let e = (h s).1 p in
    let f = (h t).1 q in
    cc

none_is : (o : Option ℕ) (P : ℕ → Type 0) → Tells o P → (o ≡ none) ↔ ((s : ℕ) → ¬ P s)
none_is o P h = (λ e s p. let f = (h s).1 p in let z : ◌≡◌ {A = ℕ} 0 1 = cc in omega arith, from o h)
  where
    from : (o : Option ℕ) → Tells o P → ((s : ℕ) → ¬ P s) → o ≡ none
    from none h f = refl
    from (some s) h f = absurd (f s ((h s).0 refl))

module _ (ev : ℕ → Event) (r : ℕ) where
  abbrev writes : ℕ → Bool
  writes = in_class rules (event_trace ev) r 0

  last_of : (n w : ℕ) → LastOf (event_trace ev) (lawful ev) writes n (some w) → LastWrite ev r n w
  last_of n w l = record {
    earlier = l.0;
    write = kind_of ev Write r w l.1;
    last = λ m wm mn e. absurd (omega (arith, l.2 m mn (of_kind ev Write r m e)));
  }

  of_last : (n w : ℕ) (o : Option ℕ) → LastOf (event_trace ev) (lawful ev) writes n o → LastWrite ev r n w → o ≡ some w
  of_last n w none l L = absurd (false≢true (sym (l w L.earlier) ∙ of_kind ev Write r w L.write))
  of_last n w (some v) l L = go (dec_le v w)
    where
      wv : w ≤ v
      wv = l.2 w L.earlier (of_kind ev Write r w L.write)

      go : Dec (v ≤ w) → ◌≡◌ {A = Option ℕ} (some v) (some w)
      go (yes vw) = let e : v ≡ w = omega (arith, wv) in rw e
      go (no wl) = absurd (L.last v (omega arith) l.0 (kind_of ev Write r v l.1))

  -- the place of the writes holds the last write
  pub last_write_is : (n w : ℕ) → (last_write ev r n ≡ some w) ↔ LastWrite ev r n w
  last_write_is n w =
      let l = held_last (event_trace ev) (lawful ev) writes n in
      (λ e. last_of n w (rw e at l), of_last n w (last_write ev r n) l)

  pub one_last_write : (n v w : ℕ) → LastWrite ev r n v → LastWrite ev r n w → v ≡ w
  one_last_write n = one_only (last_write ev r n) (LastWrite ev r n) (last_write_is n)

  pub no_last_write : (n : ℕ) → (last_write ev r n ≡ none) ↔ ((w : ℕ) → ¬ LastWrite ev r n w)
  no_last_write n = none_is (last_write ev r n) (LastWrite ev r n) (last_write_is n)

  -- a standing read is an earlier read
  pub standing_read : {n s : ℕ} → Standing ev r n s → (s < n) × (access_of (ev s) ≡ access_to Read r)
  standing_read (first_read e f) = (omega arith, e)
  standing_read (takes_place S x) = (omega arith, x.0)
  standing_read (keeps_place S f) = let w = standing_read S in (omega arith, w.1)

  abbrev reads : ℕ → Bool
  reads = in_class rules (event_trace ev) r 1

  -- what the place of the reads says just before event n
  abbrev Stands : ℕ → Option ℕ → Type 0
  Stands n none = (m : ℕ) → m < n → access_of (ev m) ≢ access_to Read r
  Stands n (some s) = Standing ev r n s

  stands_read : (n s : ℕ) (b : Bool) → Rooted (moves ev) n → par (moves ev) s n ≡ b → access_of (ev n) ≡ access_to Read r → Standing ev r n s
      → Stands (suc n) (cond b (some s) (some n))
  stands_read n s true root t e S =
      keeps_place S (λ x. x.1.1 (walk_sound (moves ev) s n (omega (arith, (standing_read S).0)) root t))
  stands_read n s false root f e S = takes_place S (e, before_sound (moves ev) s n (standing_read S).0 root f)

  stands_next : (n : ℕ) (b : Bool) (o : Option ℕ) → Rooted (moves ev) n → reads n ≡ b → Stands n o
      → Stands (suc n) (cond b (stood false (par_to (event_trace ev) n) n o) o)
  stands_next n true none root t S = first_read (kind_of ev Read r n t) S
  stands_next n true (some s) root t S = stands_read n s (par (moves ev) s n) root refl (kind_of ev Read r n t) S
  stands_next n false none root f S = below (λ m. access_of (ev m) ≢ access_to Read r) n S (not_kind ev Read r n f)
  stands_next n false (some s) root f S = keeps_place S (λ x. not_kind ev Read r n f x.0)

  stands : (n : ℕ) → Rooted (moves ev) n → Stands n (standing ev r n)
  unfolding held_of
  stands zero root = λ m l. absurd (omega arith)
  stands (suc n) root =
      let before = rooted_less (moves ev) n (suc n) (omega arith) root in
      stands_next n (reads n) (standing ev r n) before refl (stands n before)

  -- nothing stands just where the record has not been read
  pub unread : (n : ℕ) → Rooted (moves ev) n → (standing ev r n ≡ none) ↔ ((m : ℕ) → m < n → access_of (ev m) ≢ access_to Read r)
  unread n root = (λ e. rw e at (stands n root), from (standing ev r n) (stands n root))
    where
      from : (o : Option ℕ) → Stands n o → ((m : ℕ) → m < n → access_of (ev m) ≢ access_to Read r) → o ≡ none
      from none S f = refl
      from (some s) S f = let w = standing_read S in absurd (f s w.0 w.1)

  read_next : (n : ℕ) → access_of (ev n) ≡ access_to Read r → standing ev r (suc n) ≡ stood false (par_to (event_trace ev) n) n (standing ev r n)
  read_next n e = held_next rules (event_trace ev) r 1 n ∙ rw (of_kind ev Read r n e)

  keeps : (n s : ℕ) (b : Bool) → Rooted (moves ev) n → reads n ≡ b → s < n → ¬ ((access_of (ev n) ≡ access_to Read r) × Before (moves ev) s n)
      → standing ev r n ≡ some s → standing ev r (suc n) ≡ some s
  keeps n s false root f sn x e = held_off rules (event_trace ev) r 1 n f ∙ e
  keeps n s true root t sn x e =
      let read = kind_of ev Read r n t in
      read_next n read ∙ go (bool_cases (par (moves ev) s n))
    where
      go : (par (moves ev) s n ≡ true) ⊎ (par (moves ev) s n ≡ false)
          → stood false (par_to (event_trace ev) n) n (standing ev r n) ≡ some s
      go (inl p) = rw (e, p)
      go (inr f) = absurd (x (kind_of ev Read r n t, before_sound (moves ev) s n sn root f))

  held_standing : {n s : ℕ} → Rooted (moves ev) n → Standing ev r n s → standing ev r n ≡ some s
  held_standing root (first_read {n} e f) =
      read_next n e ∙ rw ((unread n (rooted_less (moves ev) n (suc n) (omega arith) root)).1 f)
  held_standing root (takes_place {n} {s} S x) =
      let before = rooted_less (moves ev) n (suc n) (omega arith) root in
      read_next n x.0 ∙ rw (held_standing before S, before_complete (moves ev) s n before x.1)
  held_standing root (keeps_place {n} {s} S f) =
      let before = rooted_less (moves ev) n (suc n) (omega arith) root in
      keeps n s (reads n) before refl (standing_read S).0 f (held_standing before S)

  -- the place of the reads holds the standing read
  pub standing_is : (n s : ℕ) → Rooted (moves ev) n → (standing ev r n ≡ some s) ↔ Standing ev r n s
  standing_is n s root = (λ e. rw e at (stands n root), held_standing root)

  pub one_standing : (n s t : ℕ) → Rooted (moves ev) n → Standing ev r n s → Standing ev r n t → s ≡ t
  one_standing n s t root = one_only (standing ev r n) (Standing ev r n) (λ s. standing_is n s root) s t

  pub no_standing : (n : ℕ) → Rooted (moves ev) n → (standing ev r n ≡ none) ↔ ((s : ℕ) → ¬ Standing ev r n s)
  no_standing n root = none_is (standing ev r n) (Standing ev r n) (λ s. standing_is n s root)
