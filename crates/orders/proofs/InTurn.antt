-- An order whose strands stand as they began: its last strand has none after it, a strand put behind it keeps the others as they stand, and
-- a respacing of it may start behind the strands that are settled. Assumes nothing.
use mathlib.Core.Path.{◌≡◌, refl, sym, ap, ◌∙◌}
use mathlib.Core.Logic.{◌≢◌}
use mathlib.Core.List.{List, [], ◌∷◌, ◌++◌}
use mathlib.Core.Bool.{Bool, true, false, cond}
use Prim.Native.Nat.{ℕ, zero, suc, ◌+◌, ◌-◌, ◌/◌, ◌^◌, ◌<◌, ◌≤◌}
use native.Mathlib.Omega.{arith}
use lib.ListN.{length, get_or, set, length-set, length-append, get_or-append}
use lib.Seq.{set-get_or, get_or-set_other}
use lib.Dec.{eqb}
use borrow.Author.Tests.{eqb-true, eqb-false, le-leb, lt-leb}
use Rattle.orders.specs.Lists.{Out}
use Rattle.orders.specs.Order.{next_in, label_in, spaced, differ, insert_after, linked, relabel, changes, above, placed, placings}
use Rattle.orders.specs.Model.{State, first, head_of, next_of, spread, has_room, insert_lab, insert_state, Insertable, Inserted}
use Rattle.orders.specs.InTurn.{strands_from, InTurn, Appendable, Appends}
use Rattle.orders.proofs.Respaced.{differ_same}
use Rattle.orders.proofs.Labels.{spread_first, insert_state_size, insert_state_ord}
use Rattle.orders.proofs.Entries.{next_entry}
use Rattle.orders.proofs.Held.{gap, walked, inserted, room_held}

-- the last of the strands has none after it
last_next : (k n a : ℕ) → k + n ≡ a + 1 → next_of (strands_from k n) a ≡ 65535
unfolding strands_from next_of head_of
last_next k zero a e = refl
last_next k (suc n) a e = go (eqb k a) refl (last_next (suc k) n a (omega arith))
  where
    go : (t : Bool) → eqb k a ≡ t → next_of (strands_from (suc k) n) a ≡ 65535 → cond t (head_of (strands_from (suc k) n)) (next_of (strands_from (suc k) n) a) ≡ 65535
    go true q ih = let z : n ≡ 0 = omega (arith, eqb-true k a q) in rw z
    go false q ih = ih

-- the next strand behind it
last_put : (k n a x : ℕ) → k + n ≡ a + 1 → x ≡ a + 1 → 1 ≤ n → insert_after a x (strands_from k n) ≡ strands_from k (n + 1)
unfolding strands_from insert_after
last_put k zero a x e f h = absurd (omega arith)
last_put k (suc n) a x e f h =
    let more : suc n + 1 ≡ suc (n + 1) = omega arith in
    rw more (ap (λ (l : List ℕ). k ∷ l) (go (eqb k a) refl (last_put (suc k) n a x (omega arith) f)))
  where
    go : (t : Bool) → eqb k a ≡ t → (1 ≤ n → insert_after a x (strands_from (suc k) n) ≡ strands_from (suc k) (n + 1))
        → cond t (x ∷ strands_from (suc k) n) (insert_after a x (strands_from (suc k) n)) ≡ strands_from (suc k) (n + 1)
    go true q ih =
        let z : n ≡ 0 = omega (arith, eqb-true k a q) in
        let y : x ≡ suc k = omega (arith, eqb-true k a q) in
        rw (z, y)
    go false q ih = let no : k ≢ a = eqb-false k a q in ih (omega arith)

-- no earlier strand is among them
strands_out : (s k n : ℕ) → s < k → Out s (strands_from k n)
unfolding strands_from
strands_out s k zero h = tt
strands_out s k (suc n) h = ((λ e. omega arith), strands_out s (suc k) n (omega arith))

-- a respacing gives each the label of its position
spread_in_turn : (k n s : ℕ) (lab : List ℕ) → k + n ≤ length lab → k ≤ s → s < k + n → get_or (spread k (strands_from k n) lab) s 0 ≡ spaced s
unfolding strands_from spread
spread_in_turn k zero s lab h l u = absurd (omega arith)
spread_in_turn k (suc n) s lab h l u = go (eqb s k) refl (λ g. spread_in_turn (suc k) n s (set lab k (spaced k)) (simp length-set (omega arith)) g (omega arith))
  where
    go : (t : Bool) → eqb s k ≡ t → (suc k ≤ s → get_or (spread (suc k) (strands_from (suc k) n) (set lab k (spaced k))) s 0 ≡ spaced s)
        → get_or (spread (suc k) (strands_from (suc k) n) (set lab k (spaced k))) s 0 ≡ spaced s
    go true q ih = rw (eqb-true s k q) (spread_first k k (strands_from (suc k) n) lab (omega arith) (strands_out k (suc k) n (omega arith)))
    go false q ih = let no : s ≢ k = eqb-false s k q in ih (omega arith)

-- a respacing of all n that starts behind the settled ones has the labels and the count of one of all
abbrev Skips : List ℕ → ℕ → ℕ → List ℕ → ℕ → List ℕ → Type 0
Skips L lo k l at r = (relabel L lo k l ≡ relabel L lo at r) × (changes L lo k l ≡ changes L lo at r)

skips_one : (L : List ℕ) (lo k m at : ℕ) (r : List ℕ) → label_in L lo k ≡ spaced k → Skips L lo (suc k) (strands_from (suc k) m) at r
    → Skips L lo k (strands_from k (suc m)) at r
unfolding strands_from relabel changes
skips_one L lo k m at r here ih =
    let stays : set L (lo + k) (spaced k) ≡ L = rw (← here) (set-get_or L (lo + k) 0) in (
      ap (λ (M : List ℕ). relabel M lo (suc k) (strands_from (suc k) m)) stays ∙ ih.0,
      ap (λ (M : List ℕ). differ (label_in L lo k) (spaced k) + changes M lo (suc k) (strands_from (suc k) m)) stays
          ∙ omega (arith, differ_same (label_in L lo k) (spaced k) here, ih.1),
    )

skips_settled : (L : List ℕ) (lo at n k d : ℕ) → k + d ≡ at → at ≤ n → ((s : ℕ) → s < at → label_in L lo s ≡ spaced s)
    → Skips L lo k (strands_from k (n - k)) at (strands_from at (n - at))
skips_settled L lo at n k zero e h same = let f : k ≡ at = omega arith in (rw f, rw f)
skips_settled L lo at n k (suc d) e h same =
    let f : n - k ≡ suc (n - suc k) = omega arith in
    rw f (skips_one L lo k (n - suc k) at _ (same k (omega arith)) (skips_settled L lo at n (suc k) d (omega arith) h same))

pub in_turn_first : InTurn first 0
unfolding strands_from
in_turn_first = record { order = refl; few = omega arith; labels = λ s h. absurd (omega arith) }

-- the next strand put behind the last
module _ (st : State) (n settled : ℕ) (size : length st.lab ≡ n) (some : 1 ≤ n) (T : InTurn st settled) where
  order_held : st.ord ≡ strands_from 0 n
  order_held = rw size at T.order

  order_more : insert_after (n - 1) n st.ord ≡ strands_from 0 (n + 1)
  order_more = rw order_held (last_put 0 n (n - 1) n (omega arith) (omega arith) some)

  in_its_order : (insert_state (n - 1) n st).ord ≡ strands_from 0 (length (insert_state (n - 1) n st).lab)
  in_its_order = rw (insert_state_size (n - 1) n st, size) (insert_state_ord (n - 1) n st ∙ order_more)

  between_in_turn : has_room st (n - 1) ≡ true → InTurn (insert_state (n - 1) n st) settled
  unfolding insert_state insert_lab
  between_in_turn r = record {
    order = in_its_order;
    few = omega (arith, insert_state_size (n - 1) n st, T.few);
    labels = λ s h. let l : s < length st.lab = omega (arith, T.few) in rw r (get_or-append st.lab _ 0 s l ∙ T.labels s h);
  }

  respaced_in_turn : has_room st (n - 1) ≡ false → InTurn (insert_state (n - 1) n st) (n + 1)
  unfolding insert_state insert_lab
  respaced_in_turn r = record {
    order = in_its_order;
    few = omega (arith, insert_state_size (n - 1) n st);
    labels = λ s h. rw (r, order_more) (spread_in_turn 0 (n + 1) s (st.lab ++ 0 ∷ []) (simp length-append (omega arith)) (omega arith) (omega arith));
  }

-- the same in the contract's own terms
module _ (L K : List ℕ) (lo ln n settled : ℕ) (A : Appendable L K lo ln n settled) where
  abbrev P : Insertable L K lo ln (n - 1) n
  P = A.place

  some : 1 ≤ n
  some = omega (arith, P.begun)

  abbrev low : ℕ
  low = label_in L lo (n - 1)

  abbrev high : ℕ
  high = 2 ^ 64 - 1

  pub last_held : next_in K ln (n - 1) ≡ 65535
  last_held =
      next_entry L K lo ln P.st P.holds (n - 1) (rw P.size P.begun)
      ∙ rw (order_held P.st n settled P.size some A.turn) (last_next 0 n (n - 1) (omega arith))

  above_last : above L lo (next_in K ln (n - 1)) ≡ high
  unfolding above
  above_last = rw last_held

  pub last_below : low ≤ high
  last_below = rw above_last at (gap L K lo ln (n - 1) n P)

  -- the new strand's label is no settled one
  settled_held : (s : ℕ) → s < settled → label_in (set L (lo + n) 0) lo s ≡ spaced s
  settled_held s h =
      let l : s < length P.st.lab = omega (arith, A.turn.few) in
      let o : lo + s ≢ lo + n = omega (arith, P.size) in
      simp get_or-set_other (P.holds.labels s l ∙ A.turn.labels s h)

  -- in either branch of the code
  pub appended_between : 2 ≤ high - low → Inserted L K lo ln (n - 1) n (set L (lo + n) (low + (high - low) / 2)) (linked K ln (n - 1) n) 1 × Appends L K lo ln n settled settled
  unfolding placed placings
  appended_between w =
      let t = le-leb 2 (high - low) w in (
        inserted L K lo ln (n - 1) n P _ _ 1 refl (rw (above_last, t)) (rw (above_last, t)),
        λ st H e T. between_in_turn st n settled e some T (room_held L K lo ln (n - 1) n P true (rw above_last t) st H e),
      )

  pub appended_respaced : high - low < 2
      → Inserted L K lo ln (n - 1) n (relabel (set L (lo + n) 0) lo settled (strands_from settled (n + 1 - settled))) (linked K ln (n - 1) n)
      (changes (set L (lo + n) 0) lo settled (strands_from settled (n + 1 - settled)))
      × Appends L K lo ln n settled (n + 1)
  unfolding placed placings
  appended_respaced w =
      let t = lt-leb 2 (high - low) w in
      let all = walked L K lo ln (n - 1) n P ∙ order_more P.st n settled P.size some A.turn in
      let z : n + 1 - 0 ≡ n + 1 = omega arith in
      let skip = rw z at (skips_settled (set L (lo + n) 0) lo settled (n + 1) 0 settled (omega arith) (omega (arith, A.turn.few, P.size)) settled_held) in (
        inserted L K lo ln (n - 1) n P _ _ _ refl (rw (above_last, t, all) (sym skip.0)) (rw (above_last, t, all) (sym skip.1)),
        λ st H e T. respaced_in_turn st n settled e some T (room_held L K lo ln (n - 1) n P false (rw above_last t) st H e),
      )
