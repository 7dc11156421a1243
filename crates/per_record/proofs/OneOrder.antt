-- No second number of records and no second lists have the pairs in order. Assumes nothing.
use mathlib.Core.Path.{◌≡◌, refl, sym, ap, ◌∙◌}
use Prim.Native.Nat.{ℕ, zero, suc, ◌≤◌, ◌<◌}
use native.Mathlib.Omega.{arith}
use native.Mathlib.Decide.{dec_le}
use lib.ListN.{get_or}
use lib.Seq.{ext_get_or}
use Rattle.races.specs.Records.{Pair, no_pair, pair}
use Rattle.per_record.specs.Lists.{Lists, SameLengths}
use Rattle.per_record.specs.Listed.{SameEntry, pairs_below, InOrder}
use Rattle.per_record.proofs.Listing.{below_none, below_pair}

module _ {pairs : ℕ → Pair} {count : ℕ} {L₀ : Lists} {n : ℕ} {L : Lists} (I : InOrder pairs count L₀ n L) where
  abbrev number : ℕ → ℕ
  number e = get_or L.records e 0

  -- the entries of the records below r come first, and they are as many as have a pair
  pub record Split (r : ℕ) : Type 0 where
    pub there : pairs_below pairs r ≤ n
    pub lower : (e : ℕ) → e < pairs_below pairs r → number e < r
    pub upper : (e : ℕ) → pairs_below pairs r ≤ e → e < n → r ≤ number e

  split_none : (r : ℕ) → pairs r ≡ no_pair → Split r → Split (suc r)
  split_none r p S =
      let same = below_none pairs r p in
      record {
        there = omega (arith, S.there);
        lower = λ e l. omega (arith, S.lower e (omega arith));
        upper = λ e h l.
            let w = I.each e l in
            let m = S.upper e (omega arith) l in
            above (number e) m (λ z. let q : w.0 ≡ r = sym w.5.number ∙ z in let x : pairs r ≡ pair w.1 w.2 = rw q at w.4 in apart p x);
      }
    where
      apart : {p : Pair} {i j : ℕ} → p ≡ no_pair → p ≡ pair i j → ⊥
      apart e f = let z : ◌≡◌ {A = ℕ} 0 1 = cc in omega arith

      above : (m : ℕ) → r ≤ m → ¬ (m ≡ r) → suc r ≤ m
      above m h d = go (dec_le (suc r) m)
        where
          go : Dec (suc r ≤ m) → suc r ≤ m
          go (yes g) = g
          go (no g) = absurd (d (omega arith))

  split_pair : (r i j : ℕ) → r < count → pairs r ≡ pair i j → Split r → Split (suc r)
  split_pair r i j l p S =
      let one = below_pair pairs r i j p in
      let w = I.all r i j l p in
      let here = at w.0 w.1 w.2.number in
      record {
        there = omega (arith, w.1, here);
        lower = λ e h. low e (omega arith) (dec_le (suc e) (pairs_below pairs r)) (rw here at w.2.number);
        upper = λ e h m. omega (arith, I.rising (pairs_below pairs r) e (omega arith) m, rw here at w.2.number);
      }
    where
      low : (e : ℕ) → e ≤ pairs_below pairs r → Dec (e < pairs_below pairs r) → number (pairs_below pairs r) ≡ r → number e < suc r
      low e h (yes g) z = omega (arith, S.lower e g)
      low e h (no g) z = let same : e ≡ pairs_below pairs r = omega arith in rw same (omega (arith, z))

      at : (e : ℕ) → e < n → number e ≡ r → e ≡ pairs_below pairs r
      at e m z = go (dec_le e (pairs_below pairs r)) (dec_le (pairs_below pairs r) e)
        where
          go : Dec (e ≤ pairs_below pairs r) → Dec (pairs_below pairs r ≤ e) → e ≡ pairs_below pairs r
          go (yes a) (yes b) = omega arith
          go (yes a) (no b) = absurd (omega (arith, S.lower e (omega arith), z))
          go (no a) b = absurd (omega (arith, I.rising (pairs_below pairs r) e (omega arith) m, S.upper (pairs_below pairs r) (omega arith) (omega arith), z))

  split : (r : ℕ) → r ≤ count → Split r
  unfolding pairs_below
  split zero h = record { there = omega arith; lower = λ e l. absurd (omega arith); upper = λ e m l. omega arith }
  split (suc r) h = go (pairs r) refl (split r (omega arith))
    where
      go : (p : Pair) → pairs r ≡ p → Split r → Split (suc r)
      go no_pair p S = split_none r p S
      go (pair i j) p S = split_pair r i j h p S

  -- as many as have a pair, and each where the listed ones have it
  count_is : n ≡ pairs_below pairs count
  count_is = go (dec_le n (pairs_below pairs count))
    where
      S : Split count
      S = split count (omega arith)

      go : Dec (n ≤ pairs_below pairs count) → n ≡ pairs_below pairs count
      go (yes g) = omega (arith, S.there)
      go (no g) =
          let w = I.each (pairs_below pairs count) (omega arith) in
          absurd (omega (arith, w.3, w.5.number, S.upper (pairs_below pairs count) (omega arith) (omega arith)))

  placed : (e r i j : ℕ) → e < n → r < count → pairs r ≡ pair i j → number e ≡ r → e ≡ pairs_below pairs r
  placed e r i j l below p z = go (dec_le e (pairs_below pairs r)) (dec_le (pairs_below pairs r) e)
    where
      go : Dec (e ≤ pairs_below pairs r) → Dec (pairs_below pairs r ≤ e) → e ≡ pairs_below pairs r
      go (yes a) (yes b) = omega arith
      go (yes a) (no b) = absurd (omega (arith, (split r (omega arith)).lower e (omega arith), z))
      go (no a) b = absurd (omega (arith, (split (suc r) below).upper e (omega (arith, below_pair pairs r i j p)) l, z))

lists_same : (L L' L₀ : Lists) → ((e : ℕ) → SameEntry L L' e) → SameLengths L L₀ → SameLengths L' L₀ → L ≡ L'
lists_same L L' L₀ same S S' =
    let a : L.records ≡ L'.records = ext_get_or 0 L.records L'.records (S.records ∙ sym S'.records) (λ e l. (same e).number) in
    let b : L.firsts ≡ L'.firsts = ext_get_or 0 L.firsts L'.firsts (S.firsts ∙ sym S'.firsts) (λ e l. (same e).first) in
    let c : L.seconds ≡ L'.seconds = ext_get_or 0 L.seconds L'.seconds (S.seconds ∙ sym S'.seconds) (λ e l. (same e).second) in
    ap (λ x. record { records = x; firsts = L.firsts; seconds = L.seconds }) a
    ∙ ap (λ x. record { records = L'.records; firsts = x; seconds = L.seconds }) b
    ∙ ap (λ x. record { records = L'.records; firsts = L'.firsts; seconds = x }) c

-- one number of records and one contents of the lists
pub in_order_once : {pairs : ℕ → Pair} {count : ℕ} {L₀ : Lists} {n n' : ℕ} {L L' : Lists} → InOrder pairs count L₀ n L → InOrder pairs count L₀ n' L'
    → (n ≡ n') × (L ≡ L')
in_order_once {L₀ = L₀} {n = n} {n' = n'} {L = L} {L' = L'} I I' = (same, lists_same L L' L₀ (λ e. go e (dec_le (suc e) n)) I.lengths I'.lengths)
  where
    same : n ≡ n'
    same = count_is I ∙ sym (count_is I')

    go : (e : ℕ) → Dec (e < n) → SameEntry L L' e
    go e (yes l) =
        let w = I.each e l in
        let v = I'.all w.0 w.1 w.2 w.3 w.4 in
        let at : v.0 ≡ e = placed I' v.0 w.0 w.1 w.2 v.1 w.3 w.4 v.2.number
        ∙ sym (placed I e w.0 w.1 w.2 l w.3 w.4 w.5.number) in
        let E = rw at at v.2 in
        record { number = w.5.number ∙ sym E.number; first = w.5.first ∙ sym E.first; second = w.5.second ∙ sym E.second }
    go e (no g) =
        let x = I.rest e (omega arith) in
        let y = I'.rest e (omega (arith, same)) in
        record { number = x.number ∙ sym y.number; first = x.first ∙ sym y.first; second = x.second ∙ sym y.second }
