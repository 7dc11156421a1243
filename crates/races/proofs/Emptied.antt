-- Runs of entries set to none: four of them empty the places. Assumes nothing.
use mathlib.Core.Path.{◌≡◌, sym, ◌∙◌}
use mathlib.Core.Logic.{◌≢◌}
use mathlib.Core.List.{List}
use Prim.Native.Nat.{ℕ, zero, suc, ◌+◌, ◌*◌, ◌-◌, ◌≤◌, ◌<◌}
use native.Mathlib.Nat.{add-zero}
use native.Mathlib.Omega.{arith}
use native.Mathlib.Decide.{dec_le}
use lib.ListN.{length, get_or, take-append-drop}
use Rattle.std.proofs.lemmas.Grind.{common_steps}
use Rattle.std.proofs.lemmas.List.{get_or-replicate}
use Rattle.races.specs.Entries.{filled, HasPlace, Empty}
use Rattle.races.specs.Mark.{layout}

filled_length : (P : List ℕ) (from k : ℕ) → from + k ≤ length P → length (filled P from k) ≡ length P
unfolding filled
filled_length P from k room = grind (arith, common_steps)

pub filled_start : (P : List ℕ) (from : ℕ) → P ≡ filled P from 0
unfolding filled
filled_start P from = sym (rw add-zero (take-append-drop from P))

filled_in : (P : List ℕ) (from k i : ℕ) → from ≤ i → i < from + k → from + k ≤ length P → get_or (filled P from k) i 0 ≡ 4294967295
unfolding filled
filled_in P from k i l h room = grind (arith, common_steps, get_or-replicate)

filled_ahead : (P : List ℕ) (from k i : ℕ) → i < from → from + k ≤ length P → get_or (filled P from k) i 0 ≡ get_or P i 0
unfolding filled
filled_ahead P from k i l room = grind (arith, common_steps)

filled_behind : (P : List ℕ) (from k i : ℕ) → from + k ≤ i → from + k ≤ length P → get_or (filled P from k) i 0 ≡ get_or P i 0
unfolding filled
filled_behind P from k i l room = grind (arith, common_steps)

-- entry i is outside a run that has it at none of its k places
filled_out : (P : List ℕ) (from k i : ℕ) → ((r : ℕ) → r < k → i ≢ from + r) → from + k ≤ length P → get_or (filled P from k) i 0 ≡ get_or P i 0
filled_out P from k i out room = go (dec_le from i) (dec_le (from + k) i)
  where
    go : Dec (from ≤ i) → Dec (from + k ≤ i) → get_or (filled P from k) i 0 ≡ get_or P i 0
    go (yes x) (yes y) = filled_behind P from k i y room
    go (yes x) (no y) = absurd (out (i - from) (omega arith) (omega arith))
    go (no x) y = filled_ahead P from k i (omega arith) room

module _ (records : ℕ) (P : List ℕ) (few : records ≤ 4096) (room : 16384 ≤ length P) where
  abbrev writes : List ℕ
  writes = filled (filled P 0 records) 4096 records

  abbrev reads : List ℕ
  reads = filled (filled writes 8192 records) 12288 records

  size : length reads ≡ length P
  size = grind (arith, filled_length)

  event : (r c : ℕ) → r < records → c < 2 → get_or reads (8192 * c + r) 0 ≡ 4294967295
  event r zero l h = grind (arith, filled_length, filled_in, filled_ahead, filled_behind)
  event r (suc zero) l h = grind (arith, filled_length, filled_in, filled_ahead, filled_behind)
  event r (suc (suc c)) l h = absurd (omega arith)

  its_strand : (r c : ℕ) → r < records → c < 2 → get_or reads (8192 * c + r + 4096) 0 ≡ 4294967295
  its_strand r zero l h = grind (arith, filled_length, filled_in, filled_ahead, filled_behind)
  its_strand r (suc zero) l h = grind (arith, filled_length, filled_in, filled_ahead, filled_behind)
  its_strand r (suc (suc c)) l h = absurd (omega arith)

  others : (i : ℕ) → ((r c : ℕ) → HasPlace layout records r c → (i ≢ 8192 * c + r) × (i ≢ 8192 * c + r + 4096)) → get_or reads i 0 ≡ get_or P i 0
  others i out =
      filled_out (filled writes 8192 records) 12288 records i (λ r l e. (at r 1 l (omega arith)).1 (omega arith)) (grind (arith, filled_length))
      ∙ filled_out writes 8192 records i (λ r l e. (at r 1 l (omega arith)).0 (omega arith)) (grind (arith, filled_length))
      ∙ filled_out (filled P 0 records) 4096 records i (λ r l e. (at r 0 l (omega arith)).1 (omega arith)) (grind (arith, filled_length))
      ∙ filled_out P 0 records i (λ r l e. (at r 0 l (omega arith)).0 (omega arith)) (omega arith)
    where
      at : (r c : ℕ) → r < records → c < 2 → (i ≢ 8192 * c + r) × (i ≢ 8192 * c + r + 4096)
      at r c l h = out r c (record { on_its_record = l; below = h })

  pub emptied : Empty layout records P reads
  emptied strand = record {
    event = λ r c h. event r c h.on_its_record h.below;
    its_strand = λ r c h. its_strand r c h.on_its_record h.below;
    others = others;
    size = size;
  }
