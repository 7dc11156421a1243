-- No second answer and no second contents fit the contract of `rz_grow`. Assumes nothing.
use mathlib.Core.Path.{◌≡◌, sym, ◌∙◌}
use mathlib.Core.Logic.{◌≢◌}
use mathlib.Core.Bool.{Bool, true, false}
use mathlib.Core.List.{List, [], ◌∷◌}
use Prim.Native.Nat.{ℕ, ◌+◌, ◌<◌}
use lib.ListN.{length}
use Rattle.orders.proofs.Blocks.{blocks, same_labels, same_nexts, same_backs}
use Rattle.orders.proofs.History.{grown_size}
use Rattle.growing.specs.Rule.{rule, long, Grew, GrewOrNot, GrowGives}

module _ (L K : List ℕ) (factor : ℕ) (L' K' L'' K'' : List ℕ) (r r' : ℕ) where
  grew_once : Grew L K factor L' K' r → Grew L K factor L'' K'' r' → (L' ≡ L'') × (K' ≡ K'') × (r ≡ r')
  grew_once G G' =
      let size = grown_size (rule factor) 4095 in (
        blocks L' L'' L 4096 G.labels_length G'.labels_length (0 ∷ []) (same_labels size G.order G'.order, tt)
            (λ i o. (G.kept.labels i o.0, G'.kept.labels i o.0)),
        blocks K' K'' K 4096 G.links_length G'.links_length (0 ∷ 4096 ∷ [])
            (same_nexts size G.order G'.order, (same_backs size G.order G'.order, tt))
            (λ i o.
            let out : (s : ℕ) → s < 4096 → (i ≢ 0 + s) × (i ≢ 0 + 4096 + s) = λ s h. (o.0 s h, o.1.0 s h) in
            (G.kept.links i out, G'.kept.links i out)),
        G.count ∙ sym G'.count,
      )

  by_length : (b : Bool) → GrewOrNot b L K factor L' K' r → GrewOrNot b L K factor L'' K'' r' → (L' ≡ L'') × (K' ≡ K'') × (r ≡ r')
  by_length true G G' = grew_once G G'
  by_length false G G' = (G.0 ∙ sym G'.0, G.1 ∙ sym G'.1, G.2 ∙ sym G'.2)

  pub grown_once : GrowGives L K factor L' K' r → GrowGives L K factor L'' K'' r' → (L' ≡ L'') × (K' ≡ K'') × (r ≡ r')
  grown_once = by_length (long (length L) (length K))
