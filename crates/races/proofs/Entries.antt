-- The entries of a buffer after one place is put, for any layout: that place holds what was put there, every other one what it held.
-- And what a buffer is said to hold is all there is to it. Assumes nothing.
use mathlib.Core.Path.{◌≡◌, refl, sym, ◌∙◌}
use mathlib.Core.Logic.{◌⊎◌, inl, inr, ◌≢◌}
use mathlib.Core.List.{List}
use mathlib.Core.Bool.{Bool, true, false, false≢true, ◌||◌}
use mathlib.Core.Option.{Option}
use Prim.Native.Nat.{ℕ, ◌+◌, ◌<◌}
use native.Mathlib.Omega.{arith}
use lib.Dec.{eqb}
use lib.ListN.{length, get_or, length-set}
use lib.Seq.{get_or-set_same, get_or-set_other, set-get_or, lt-length-set, ext_get_or}
use borrow.Author.Tests.{eqb-true, eqb-false, eq-eqb}
use Rattle.std.proofs.lemmas.Bool.{or_cases, or_left, or_right}
use Rattle.races.specs.Search.{any}
use Rattle.races.specs.Entries.{put, event_or, strand_or, Layout, HasPlace, Laid, Holding}
use Rattle.races.proofs.Search.{any_finds, any_has}

-- what a place holds, put there again, changes nothing
pub put_held : (P : List ℕ) (p gap : ℕ) → put P p gap (get_or P p 0) (get_or P (p + gap) 0) ≡ P
unfolding put
put_held P p gap = rw (set-get_or P p 0, set-get_or P (p + gap) 0)

module _ (P : List ℕ) (p gap event strand : ℕ) where
  put_length : length (put P p gap event strand) ≡ length P
  unfolding put
  put_length = simp length-set

  -- the place itself, and any other entry
  put_event : p < length P → p ≢ p + gap → get_or (put P p gap event strand) p 0 ≡ event
  unfolding put
  put_event h n = simp (get_or-set_other, get_or-set_same)

  put_strand : p + gap < length P → get_or (put P p gap event strand) (p + gap) 0 ≡ strand
  unfolding put
  put_strand h = simp (get_or-set_same, lt-length-set)

  put_other : (i : ℕ) → i ≢ p → i ≢ p + gap → get_or (put P p gap event strand) i 0 ≡ get_or P i 0
  unfolding put
  put_other i h h' = simp get_or-set_other

-- one place or another
pub one_or_other : (q d r c : ℕ) → ((q ≡ r) × (d ≡ c)) ⊎ (¬ ((q ≡ r) × (d ≡ c)))
one_or_other q d r c = go (eqb q r) (eqb d c) refl refl
  where
    go : (s t : Bool) → eqb q r ≡ s → eqb d c ≡ t → ((q ≡ r) × (d ≡ c)) ⊎ (¬ ((q ≡ r) × (d ≡ c)))
    go true true e f = inl (eqb-true q r e, eqb-true d c f)
    go false t e f = inr (λ z. eqb-false q r e z.0)
    go true false e f = inr (λ z. eqb-false d c f z.1)

module _ {Y : Layout} {strand : ℕ → ℕ} {records : ℕ} {P₀ P : List ℕ} {what : ℕ → ℕ → Option ℕ} (H : Holding Y strand records P₀ what P) where
  -- what the places are to hold is what they hold
  pub holding_same : (what' : ℕ → ℕ → Option ℕ) → ((r c : ℕ) → HasPlace Y records r c → what' r c ≡ what r c) → Holding Y strand records P₀ what' P
  holding_same what' same = record {
    event = λ r c h. rw (same r c h) (H.event r c h);
    its_strand = λ r c h. rw (same r c h) (H.its_strand r c h);
    others = H.others;
    size = H.size;
  }

  -- one place is put, and the others are to hold what they held
  pub holding_put : Laid Y records (length P) → (what' : ℕ → ℕ → Option ℕ) (r c : ℕ) (o : Option ℕ) → HasPlace Y records r c → what' r c ≡ o
      → ((q d : ℕ) → HasPlace Y records q d → ¬ ((q ≡ r) × (d ≡ c)) → what' q d ≡ what q d)
      → Holding Y strand records P₀ what' (put P (Y.spot r c) Y.gap (event_or o) (strand_or strand o))
  holding_put laid what' r c o here e old = record {
    event = λ q d h. event_at_lem q d h (one_or_other q d r c);
    its_strand = λ q d h. strand_at_lem q d h (one_or_other q d r c);
    others = λ i out. put_other P p g (event_or o) (strand_or strand o) i (out r c here).0 (out r c here).1 ∙ H.others i out;
    size = put_length P p g (event_or o) (strand_or strand o) ∙ H.size;
  }
    where
      p : ℕ
      p = Y.spot r c

      g : ℕ
      g = Y.gap

      event_at_lem : (q d : ℕ) → HasPlace Y records q d → ((q ≡ r) × (d ≡ c)) ⊎ (¬ ((q ≡ r) × (d ≡ c)))
          → get_or (put P (Y.spot r c) Y.gap (event_or o) (strand_or strand o)) (Y.spot q d) 0 ≡ event_or (what' q d)
      event_at_lem q d h (inl z) =
          rw (z.0, z.1, e)
          (put_event P (Y.spot r c) Y.gap (event_or o) (strand_or strand o) (omega (arith, laid.room r c here)) (laid.strands_apart r c r c here here))
      event_at_lem q d h (inr z) =
          rw (old q d h z)
          (put_other P (Y.spot r c) Y.gap (event_or o) (strand_or strand o) (Y.spot q d) (λ x. z (laid.apart q d r c h here x))
          (laid.strands_apart q d r c h here) ∙ H.event q d h)

      strand_at_lem : (q d : ℕ) → HasPlace Y records q d → ((q ≡ r) × (d ≡ c)) ⊎ (¬ ((q ≡ r) × (d ≡ c)))
          → get_or (put P (Y.spot r c) Y.gap (event_or o) (strand_or strand o)) (Y.spot q d + Y.gap) 0 ≡ strand_or strand (what' q d)
      strand_at_lem q d h (inl z) =
          rw (z.0, z.1, e) (put_strand P (Y.spot r c) Y.gap (event_or o) (strand_or strand o) (laid.room r c here))
      strand_at_lem q d h (inr z) =
          rw (old q d h z)
          (put_other P (Y.spot r c) Y.gap (event_or o) (strand_or strand o) (Y.spot q d + Y.gap) (λ x. laid.strands_apart r c q d here h (sym x))
          (λ x. z (laid.apart q d r c h here (omega arith))) ∙ H.its_strand q d h)

-- entry i is that of a place, or of none
module _ (Y : Layout) (records i : ℕ) where
  abbrev is_entry : ℕ → ℕ → Bool
  is_entry r c = eqb i (Y.spot r c) || eqb i (Y.spot r c + Y.gap)

  entry_or_none : ((r : ℕ) × (c : ℕ) × HasPlace Y records r c × ((i ≡ Y.spot r c) ⊎ (i ≡ Y.spot r c + Y.gap)))
      ⊎ ((r c : ℕ) → HasPlace Y records r c → (i ≢ Y.spot r c) × (i ≢ Y.spot r c + Y.gap))
  entry_or_none = go (any (λ r. any (is_entry r) Y.classes) records) refl
    where
      go : (t : Bool) → any (λ r. any (is_entry r) Y.classes) records ≡ t
          → ((r : ℕ) × (c : ℕ) × HasPlace Y records r c × ((i ≡ Y.spot r c) ⊎ (i ≡ Y.spot r c + Y.gap)))
          ⊎ ((r c : ℕ) → HasPlace Y records r c → (i ≢ Y.spot r c) × (i ≢ Y.spot r c + Y.gap))
      go true t =
          let a = any_finds (λ r. any (is_entry r) Y.classes) records t in
          let b = any_finds (is_entry a.0) Y.classes a.2 in
          let s = eqb i (Y.spot a.0 b.0) in
          let g = eqb i (Y.spot a.0 b.0 + Y.gap) in
          inl (
            a.0,
            b.0,
            record { on_its_record = a.1; below = b.1 },
            which a.0 b.0 (or_cases s g b.2),
          )
        where
          which : (r c : ℕ) → (eqb i (Y.spot r c) ≡ true) ⊎ (eqb i (Y.spot r c + Y.gap) ≡ true) → (i ≡ Y.spot r c) ⊎ (i ≡ Y.spot r c + Y.gap)
          which r c (inl e) = inl (eqb-true i (Y.spot r c) e)
          which r c (inr e) = inr (eqb-true i (Y.spot r c + Y.gap) e)
      go false t = inr (λ r c h. (
        λ e. no r c h (or_left (eqb i (Y.spot r c)) (eqb i (Y.spot r c + Y.gap)) (eq-eqb i (Y.spot r c) e)),
        λ e. no r c h (or_right (eqb i (Y.spot r c)) (eqb i (Y.spot r c + Y.gap)) (eq-eqb i (Y.spot r c + Y.gap) e)),
      ))
        where
          no : (r c : ℕ) → HasPlace Y records r c → ¬ ((eqb i (Y.spot r c) || eqb i (Y.spot r c + Y.gap)) ≡ true)
          no r c h u =
              false≢true (sym t ∙ any_has (λ r. any (is_entry r) Y.classes) records r h.on_its_record
              (any_has (is_entry r) Y.classes c h.below u))

-- no second contents fit
pub holding_unique : (Y : Layout) (strand : ℕ → ℕ) (records : ℕ) (P₀ P Q : List ℕ) (what : ℕ → ℕ → Option ℕ)
    → Holding Y strand records P₀ what P → Holding Y strand records P₀ what Q → P ≡ Q
holding_unique Y strand records P₀ P Q what G H = ext_get_or 0 P Q (G.size ∙ sym H.size) (λ i l. same i (entry_or_none Y records i))
  where
    same : (i : ℕ)
        → ((r : ℕ) × (c : ℕ) × HasPlace Y records r c × ((i ≡ Y.spot r c) ⊎ (i ≡ Y.spot r c + Y.gap)))
        ⊎ ((r c : ℕ) → HasPlace Y records r c → (i ≢ Y.spot r c) × (i ≢ Y.spot r c + Y.gap))
        → get_or P i 0 ≡ get_or Q i 0
    same i (inr out) = G.others i out ∙ sym (H.others i out)
    same i (inl w) = at w.3
      where
        at : (i ≡ Y.spot w.0 w.1) ⊎ (i ≡ Y.spot w.0 w.1 + Y.gap) → get_or P i 0 ≡ get_or Q i 0
        at (inl e) = rw e (G.event w.0 w.1 w.2 ∙ sym (H.event w.0 w.1 w.2))
        at (inr e) = rw e (G.its_strand w.0 w.1 w.2 ∙ sym (H.its_strand w.0 w.1 w.2))
