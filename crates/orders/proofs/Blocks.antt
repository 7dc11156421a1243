-- One contents: two lists that agree on the entries of n strands, from some starts on, and elsewhere with a third list are the same; and
-- buffers that hold one state agree on its strands' entries. Assumes nothing.
use mathlib.Core.Path.{◌≡◌, sym, ◌∙◌}
use mathlib.Core.Logic.{◌≢◌}
use mathlib.Core.List.{List, [], ◌∷◌}
use Prim.Native.Nat.{ℕ, ◌+◌, ◌-◌, ◌≤◌, ◌<◌}
use native.Mathlib.Omega.{arith}
use native.Mathlib.Decide.{dec_le}
use lib.ListN.{length, get_or}
use lib.Seq.{ext_get_or}
use Rattle.orders.specs.Model.{State, Holds}
use Rattle.orders.proofs.Entries.{next_entry, back_entry}

-- index i is one of the n entries from b on, or none of them
data Block (n b i : ℕ) : Type 0 where
  within : (s : ℕ) → s < n → i ≡ b + s → Block n b i
  outside : ((s : ℕ) → s < n → i ≢ b + s) → Block n b i

block : (n b i : ℕ) → Block n b i
block n b i = go (dec_le b i) (dec_le (b + n) i)
  where
    go : Dec (b ≤ i) → Dec (b + n ≤ i) → Block n b i
    go (no f) y = outside (λ s h e. f (omega arith))
    go (yes x) (yes y) = outside (λ s h e. omega arith)
    go (yes x) (no g) = within (i - b) (omega arith) (omega arith)

-- index i is none of the n entries from each start on
abbrev pub Outside : ℕ → List ℕ → ℕ → Type 0
Outside n [] i = Unit {0}
Outside n (b ∷ starts) i = ((s : ℕ) → s < n → i ≢ b + s) × Outside n starts i

-- two lists agree at every index of n entries from b on
abbrev pub SameFrom : List ℕ → List ℕ → ℕ → ℕ → Type 0
SameFrom L M n b = (s : ℕ) → s < n → get_or L (b + s) 0 ≡ get_or M (b + s) 0

-- from each start on
abbrev pub SameIn : List ℕ → List ℕ → ℕ → List ℕ → Type 0
SameIn L M n [] = Unit {0}
SameIn L M n (b ∷ starts) = SameFrom L M n b × SameIn L M n starts

module _ (L M L₀ : List ℕ) (n : ℕ) where
  abbrev Alike : ℕ → Type 0
  Alike i = (get_or L i 0 ≡ get_or L₀ i 0) × (get_or M i 0 ≡ get_or L₀ i 0)

  same_at : (i : ℕ) (starts : List ℕ) → SameIn L M n starts → (Outside n starts i → Alike i) → get_or L i 0 ≡ get_or M i 0
  same_at i [] same rest = let z = rest tt in z.0 ∙ sym z.1
  same_at i (b ∷ starts) same rest = go (block n b i) (same_at i starts same.1)
    where
      go : Block n b i → ((Outside n starts i → Alike i) → get_or L i 0 ≡ get_or M i 0) → get_or L i 0 ≡ get_or M i 0
      go (within s h e) ih = rw e (same.0 s h)
      go (outside f) ih = ih (λ o. rest (f, o))

  pub blocks : length L ≡ length L₀ → length M ≡ length L₀ → (starts : List ℕ) → SameIn L M n starts
      → ((i : ℕ) → Outside n starts i → (get_or L i 0 ≡ get_or L₀ i 0) × (get_or M i 0 ≡ get_or L₀ i 0)) → L ≡ M
  blocks size same_size starts same rest = ext_get_or 0 L M (size ∙ sym same_size) (λ i h. same_at i starts same (rest i))

-- one state, held twice
module _ {L K L' K' : List ℕ} {lo ln n : ℕ} {st : State} (size : length st.lab ≡ n) (H : Holds L K lo ln st) (H' : Holds L' K' lo ln st) where
  pub same_labels : SameFrom L L' n lo
  same_labels s h = H.labels s (omega arith) ∙ sym (H'.labels s (omega arith))

  pub same_nexts : SameFrom K K' n ln
  same_nexts s h = next_entry L K lo ln st H s (omega arith) ∙ sym (next_entry L' K' lo ln st H' s (omega arith))

  pub same_backs : SameFrom K K' n (ln + 4096)
  same_backs s h = back_entry L K lo ln st H s (omega arith) ∙ sym (back_entry L' K' lo ln st H' s (omega arith))
