-- An order whose strands stand as they began: strand s stands at position s, and a new one goes behind all. A respacing of it follows no
-- link. No part of what must be believed, since the labels that the code leaves are those of a respacing of the whole order (`Inserted`).
use Rattle.std.specs.Prelude.{◌≡◌, List, [], ◌∷◌, ℕ, zero, suc, ◌-◌, ◌<◌, ◌≤◌, length, get_or}
use Rattle.orders.specs.Order.{spaced}
use Rattle.orders.specs.Model.{State, insert_state, Holds, Insertable}

-- n strands as they began, from strand k on
unfoldable pub strands_from : ℕ → ℕ → List ℕ
strands_from k zero = []
strands_from k (suc n) = k ∷ strands_from (suc k) n

-- all stand as they began, and the first `settled` of them have the labels of their positions
pub record InTurn (st : State) (settled : ℕ) : Type 0 where
  pub order : st.ord ≡ strands_from 0 (length st.lab)
  pub few : settled ≤ length st.lab
  pub labels : (s : ℕ) → s < settled → get_or st.lab s 0 ≡ spaced s

-- what an append of x asks
pub record Appendable (L K : List ℕ) (lo ln x settled : ℕ) : Type 0 where
  pub place : Insertable L K lo ln (x - 1) x
  pub turn : InTurn place.st settled

-- what it makes of the number settled
abbrev pub Appends : List ℕ → List ℕ → ℕ → ℕ → ℕ → ℕ → ℕ → Type 0
Appends L K lo ln x settled settled' =
    (st : State) → Holds L K lo ln st → length st.lab ≡ x → InTurn st settled → InTurn (insert_state (x - 1) x st) settled'
