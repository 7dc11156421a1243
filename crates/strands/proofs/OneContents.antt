-- No second contents fit the contracts of `begin` and `advance`: one memory has both orders of a state and keeps all else, the array of the
-- open tasks is given entry by entry, and the numbers of the state are those of the trace. Where a respacing may start (`settled`, `mark`) is
-- promised to be right, and not which of several right ones it is: the labels and the counts are the same for each. Assumes nothing.
use mathlib.Core.Path.{◌≡◌, refl, sym, ap, ◌∙◌}
use mathlib.Core.Logic.{◌≢◌}
use mathlib.Core.List.{List, [], ◌∷◌}
use Prim.Native.Nat.{ℕ, suc, ◌+◌, ◌<◌}
use native.Mathlib.Omega.{arith}
use lib.ListN.{length, replicate}
use Rattle.jobfile.specs.Trace.{tasks_at, begun_at}
use Rattle.jobfile.specs.declared.event.Move.{Move}
use Rattle.jobfile.specs.declared.event.Move.TheVariants.{Stays}
use Rattle.relation.specs.Parallel.{Rooted}
use Rattle.orders.specs.Model.{Holds}
use Rattle.orders.proofs.Blocks.{blocks, same_labels, same_nexts, same_backs}
use Rattle.strands.specs.States.{english_state, hebrew_state}
use Rattle.strands.specs.Memory.{Memory, OpenTasks, root}
use Rattle.strands.specs.Reached.{Untouched, Reached, Starts, Ready, Advances}
use Rattle.strands.specs.declared.Now.{Now}
use Rattle.strands.proofs.States.{english_size, hebrew_size}
use Rattle.strands.proofs.Arrays.{length-cells}

listed_once : {L L' K K' : List ℕ} → L ≡ L' → K ≡ K' → ◌≡◌ {A = Memory} (record { labels = L; links = K }) (record { labels = L'; links = K' })
listed_once l k = rw (l, k)

-- one memory has both orders just before event n and keeps all other entries of what it was once
module _ (mv : ℕ → Move) (n : ℕ) (root : Rooted mv n) (M₀ M M' : Memory) (U : Untouched (begun_at mv n) M₀ M) (U' : Untouched (begun_at mv n) M₀ M')
    (E : Holds M.labels M.links 0 0 (english_state mv n)) (E' : Holds M'.labels M'.links 0 0 (english_state mv n))
    (H : Holds M.labels M.links 4096 8192 (hebrew_state mv n)) (H' : Holds M'.labels M'.links 4096 8192 (hebrew_state mv n)) where
  abbrev begun : ℕ
  begun = begun_at mv n

  labels_once : M.labels ≡ M'.labels
  labels_once =
      blocks M.labels M'.labels M₀.labels begun U.labels_length U'.labels_length (0 ∷ 4096 ∷ [])
      (same_labels (english_size mv n root) E E', (same_labels (hebrew_size mv n root) H H', tt))
      (λ i o.
      let out : (s : ℕ) → s < begun → (i ≢ s) × (i ≢ 4096 + s) = λ s h. (λ e. o.0 s h (omega arith), o.1.0 s h) in
      (U.labels i out, U'.labels i out))

  links_once : M.links ≡ M'.links
  links_once =
      let en = english_size mv n root in
      let he = hebrew_size mv n root in
      blocks M.links M'.links M₀.links begun U.links_length U'.links_length (0 ∷ 4096 ∷ 8192 ∷ 12288 ∷ [])
      (same_nexts en E E', (same_backs en E E', (same_nexts he H H', (same_backs he H H', tt))))
      (λ i o.
      let out : (s : ℕ) → s < begun → (i ≢ s) × (i ≢ 4096 + s) × (i ≢ 8192 + s) × (i ≢ 12288 + s) =
      λ s h. (λ e. o.0 s h (omega arith), o.1.0 s h, o.1.1.0 s h, o.1.1.1.0 s h) in
      (U.links i out, U'.links i out))

  pub memory_once : M ≡ M'
  memory_once = listed_once labels_once links_once

-- what the contracts say of the numbers of a state
pub record SameNumbers (now now' : Now) : Type 0 where
  pub top : now.top ≡ now'.top
  pub strands : now.strands ≡ now'.strands
  pub english : now.english ≡ now'.english
  pub hebrew : now.hebrew ≡ now'.hebrew

module _ {mv : ℕ → Move} {n : ℕ} {M₀ M M' : Memory} {T T' : OpenTasks} {now now' : Now} (root : Rooted mv n)
    (S : Reached mv n M₀ M T now) (S' : Reached mv n M₀ M' T' now') where
  pub reached_memory : M ≡ M'
  reached_memory = memory_once mv n root M₀ M M' S.untouched S'.untouched S.english S'.english S.hebrew S'.hebrew

  same_place : suc now.top ≡ suc now'.top
  same_place =
      sym (length-cells T now.top) ∙ ap length S.open_cells ∙ sym (ap length S'.open_cells)
      ∙ length-cells T' now'.top

  pub reached_numbers : SameNumbers now now'
  reached_numbers = record {
    top = omega (arith, same_place);
    strands = S.strands ∙ sym S'.strands;
    english = S.english_count_is ∙ sym S'.english_count_is;
    hebrew = S.hebrew_count_is ∙ sym S'.hebrew_count_is;
  }

-- what `advance` gives, where it may be called
pub advanced_once : (M : Memory) (T : OpenTasks) (now : Now) (m : Move) (M' M'' : Memory) (T' T'' : OpenTasks) (next next' : Now) → Ready M T now m
    → Advances M T now m M' T' next → Advances M T now m M'' T'' next' → (M' ≡ M'') × (T' ≡ T'') × SameNumbers next next'
advanced_once M T now m M' M'' T' T'' next next' R A B =
    let S = A.behind R.mv R.n R.M₀ R.reached R.takes in
    let S' = B.behind R.mv R.n R.M₀ R.reached R.takes in
    (reached_memory R.takes.rooted S S', A.tasks_are ∙ sym B.tasks_are, reached_numbers R.takes.rooted S S')

-- an array with the root alone open
abbrev root_alone : OpenTasks
root_alone = replicate 64 root

-- what `begin` gives
pub started_once : (M₀ M M' : Memory) (now now' : Now) → Starts M₀ M now → Starts M₀ M' now' → (M ≡ M') × SameNumbers now now'
unfolding tasks_at
started_once M₀ M M' now now' A B =
    let mv : ℕ → Move = λ n. Stays in
    let S = A mv root_alone refl refl in
    let S' = B mv root_alone refl refl in
    let root : Rooted mv 0 = λ m l. let z : m ≡ 0 = omega arith in rw z (omega arith) in
    (reached_memory root S S', reached_numbers root S S')
