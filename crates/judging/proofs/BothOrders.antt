-- Both orders in buffers that show a state, and how the counts go from one state to the next, held against the labels that both leave.
-- Assumes nothing.
use mathlib.Core.Path.{◌≡◌, ◌∙◌}
use mathlib.Core.Logic.{◌⊎◌, inl, inr}
use Prim.Native.Nat.{ℕ, suc, ◌+◌, ◌-◌, ◌≤◌}
use native.Mathlib.Omega.{arith}
use Rattle.jobfile.specs.Trace.{moves, begun_at}
use Rattle.jobfile.specs.declared.event.Event.{Event}
use Rattle.relation.specs.Parallel.{Rooted}
use Rattle.relation.proofs.Strand.{begun_rises}
use Rattle.orders.specs.Lists.{Pairs}
use Rattle.orders.specs.Order.{order_of}
use Rattle.strands.specs.Orders.{up_to, Ahead}
use Rattle.strands.specs.States.{english_state, hebrew_state, english_count, hebrew_count}
use Rattle.strands.proofs.Orders.{english_order}
use Rattle.strands.proofs.Hebrew.{hebrew_order}
use Rattle.strands.proofs.States.{english_size, hebrew_size, english_state_order, hebrew_state_order}
use Rattle.taking.specs.Buffers.{Buffers}
use Rattle.judging.specs.Leaves.{Shows}
use Rattle.judging.specs.Terms.{OneChain, changed}
use Rattle.judging.proofs.Chains.{chain_order, one_chain}
use Rattle.judging.proofs.TrueCounts.{counts, held_changed}

module _ (ev : ℕ → Event) (n records : ℕ) (B₀ B : Buffers) (root : Rooted (moves ev) n) (S : Shows ev n records B₀ B) where
  abbrev begun : ℕ
  begun = begun_at (moves ev) n

  -- "Both orders (English, Hebrew) are one chain of exactly the strands begun, the same backwards, labels rising"
  pub english_shown : OneChain begun B.labels B.links 0 0
  english_shown = one_chain B.labels B.links 0 0 begun (english_state (moves ev) n) S.english (english_size (moves ev) n root)

  pub hebrew_shown : OneChain begun B.labels B.links 4096 8192
  hebrew_shown = one_chain B.labels B.links 4096 8192 begun (hebrew_state (moves ev) n) S.hebrew (hebrew_size (moves ev) n root)

  -- "in the structure's order"
  pub english_shown_order : order_of B.links 0 begun 0 ≡ up_to begun
  english_shown_order =
      chain_order B.labels B.links 0 0 begun (english_state (moves ev) n) S.english (english_size (moves ev) n root)
      ∙ english_state_order (moves ev) n ∙ english_order (moves ev) n root

  pub hebrew_shown_order : Pairs (Ahead (moves ev) n) (order_of B.links 8192 begun 0)
  hebrew_shown_order =
      let e = chain_order B.labels B.links 4096 8192 begun (hebrew_state (moves ev) n) S.hebrew (hebrew_size (moves ev) n root) in
      rw (e ∙ hebrew_state_order (moves ev) n) (hebrew_order (moves ev) n root)

-- one state's strands are not fewer than those of the one before
not_below : (n m : ℕ) → (m ≡ n) ⊎ (m ≡ suc n) → n ≤ m
not_below n m (inl e) = omega arith
not_below n m (inr e) = omega arith

-- from a state to the same or to the next one: each count grows by the strands that began and the labels that differ
pub counts_shown : (ev : ℕ → Event) (n m records records' : ℕ) (B₀ B B₁ B' : Buffers) → Rooted (moves ev) n → Rooted (moves ev) m → (m ≡ n) ⊎ (m ≡ suc n)
    → Shows ev n records B₀ B → Shows ev m records' B₁ B'
    → (english_count (moves ev) m
    ≡ english_count (moves ev) n + (begun_at (moves ev) m - begun_at (moves ev) n + changed 0 (begun_at (moves ev) n) B.labels B'.labels))
    × (hebrew_count (moves ev) m
    ≡ hebrew_count (moves ev) n + (begun_at (moves ev) m - begun_at (moves ev) n + changed 4096 (begun_at (moves ev) n) B.labels B'.labels))
counts_shown ev n m records records' B₀ B B₁ B' root root' on S S' =
    let mv = moves ev in
    let c = counts mv n m root' on in
    let up = begun_rises mv n m (not_below n m on) in
    let d =
    held_changed 0 0 (begun_at mv n) B.labels B.links B'.labels B'.links (english_state mv n) (english_state mv m) S.english S'.english
    (omega (arith, english_size mv n root)) (omega (arith, up, english_size mv m root')) in
    let g =
    held_changed 4096 8192 (begun_at mv n) B.labels B.links B'.labels B'.links (hebrew_state mv n) (hebrew_state mv m) S.hebrew S'.hebrew
    (omega (arith, hebrew_size mv n root)) (omega (arith, up, hebrew_size mv m root')) in
    (rw d c.0, rw g c.1)
