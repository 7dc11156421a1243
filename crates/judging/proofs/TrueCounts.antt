-- The label counts from one event to the next, by the labels that differ in the states, and in buffers that hold them. Assumes nothing.
use mathlib.Core.Path.{◌≡◌, refl, sym, ap, ◌∙◌}
use mathlib.Core.Logic.{◌⊎◌, inl, inr}
use mathlib.Core.List.{List}
use Rattle.std.specs.Prelude.{Option, None, Some}
use Prim.Native.Nat.{ℕ, zero, suc, ◌+◌, ◌-◌, ◌≤◌, ◌<◌}
use native.Mathlib.Omega.{arith}
use lib.ListN.{length, get_or}
use borrow.Author.Tests.{eq-eqb}
use Rattle.jobfile.specs.Trace.{begun_at}
use Rattle.jobfile.specs.declared.event.Move.{Move}
use Rattle.relation.specs.Parallel.{Rooted}
use Rattle.relation.specs.Strand.{strand_at}
use Rattle.orders.specs.Order.{label_in, differ}
use Rattle.orders.specs.Model.{State, Holds, insert_state, insert_count, diffs}
use Rattle.strands.specs.Cells.{point_at}
use Rattle.strands.specs.States.{grow, counted, state_at, count_at, last_point, english_state, hebrew_state, english_count, hebrew_count}
use Rattle.strands.proofs.Cells.{one_at, begun_next}
use Rattle.strands.proofs.States.{behind_one}
use Rattle.judging.specs.Terms.{changed}

-- labels that stay add nothing
diffs_same : (n : ℕ) (lab : List ℕ) → diffs n lab lab ≡ 0
unfolding diffs differ
diffs_same zero lab = refl
diffs_same (suc n) lab = rw (diffs_same n lab, eq-eqb (get_or lab n 0) (get_or lab n 0) refl)

-- the count of an order, by whether a strand begins
grown_count_lem : (o : Option ℕ) (b m : ℕ) (st : State) → m ≡ b + one_at o → counted o b st ≡ m - b + diffs b st.lab (grow o b st).lab
unfolding insert_count insert_state
grown_count_lem None b m st e = sym (rw (diffs_same b st.lab) (omega arith))
grown_count_lem (Some a) b m st e = let z : m - b ≡ 1 = omega arith in rw z

-- the counts of two positions, which are the same or next to each other: event n adds the strand that it begins and each label that differs
-- after it
module _ (mv : ℕ → Move) (n : ℕ) where
  abbrev pub Counts : ℕ → Type 0
  Counts m =
      (english_count mv m ≡ english_count mv n + (begun_at mv m - begun_at mv n + diffs (begun_at mv n) (english_state mv n).lab (english_state mv m).lab))
      × (hebrew_count mv m ≡ hebrew_count mv n + (begun_at mv m - begun_at mv n + diffs (begun_at mv n) (hebrew_state mv n).lab (hebrew_state mv m).lab))

  counts_stay : Counts n
  counts_stay =
      (rw (diffs_same (begun_at mv n) (english_state mv n).lab) (omega arith), rw (diffs_same (begun_at mv n) (hebrew_state mv n).lab) (omega arith))

  pub true_count : Rooted mv (suc n) → Counts (suc n)
  unfolding count_at state_at
  true_count root =
      let e = begun_next mv n root in (
        ap (λ (c : ℕ). english_count mv n + c) (grown_count_lem (last_point mv n) (begun_at mv n) (begun_at mv (suc n)) (english_state mv n)
            (e ∙ ap (λ (c : ℕ). begun_at mv n + c) (behind_one (point_at mv n) (strand_at mv n)))),
        ap (λ (c : ℕ). hebrew_count mv n + c) (grown_count_lem (point_at mv n) (begun_at mv n) (begun_at mv (suc n)) (hebrew_state mv n) e),
      )

  pub counts : (m : ℕ) → Rooted mv m → (m ≡ n) ⊎ (m ≡ suc n) → Counts m
  counts m root (inl e) = rw e counts_stay
  counts m root (inr e) = rw e (true_count (rw e at root))

-- the labels in two buffers differ where those of the states that they hold do
changed_diffs : (lo m : ℕ) (L L' lab lab' : List ℕ) → ((s : ℕ) → s < m → label_in L lo s ≡ get_or lab s 0)
    → ((s : ℕ) → s < m → label_in L' lo s ≡ get_or lab' s 0) → changed lo m L L' ≡ diffs m lab lab'
unfolding changed diffs
changed_diffs lo zero L L' lab lab' f g = refl
changed_diffs lo (suc m) L L' lab lab' f g =
    rw (f m (omega arith), g m (omega arith), changed_diffs lo m L L' lab lab' (λ s h. f s (omega arith)) (λ s h. g s (omega arith)))

pub held_changed : (lo ln m : ℕ) (L K L' K' : List ℕ) (st st' : State) → Holds L K lo ln st → Holds L' K' lo ln st' → m ≤ length st.lab → m ≤ length st'.lab
    → changed lo m L L' ≡ diffs m st.lab st'.lab
held_changed lo ln m L K L' K' st st' H H' h h' =
    changed_diffs lo m L L' st.lab st'.lab (λ s l. H.labels s (omega arith)) (λ s l. H'.labels s (omega arith))
