-- A state that the buffers hold is one chain. Assumes nothing.
use mathlib.Core.Path.{◌≡◌}
use mathlib.Core.List.{List, reverse}
use Prim.Native.Nat.{ℕ, ◌<◌}
use lib.ListN.{length, get_or}
use Rattle.orders.specs.Lists.{Pairs}
use Rattle.orders.specs.Order.{Order, label_in, order_of, back_order_of}
use Rattle.orders.specs.Model.{State, Holds, last_of}
use Rattle.orders.proofs.Entries.{forwards, forwards_end, backwards, backwards_end}
use Rattle.orders.proofs.Labels.{labels_rise}
use Rattle.strands.proofs.Lists.{pairs_map}
use Rattle.judging.specs.Terms.{OneChain}

module _ (L K : List ℕ) (lo ln n : ℕ) (st : State) (H : Holds L K lo ln st) (size : length st.lab ≡ n) where
  -- its order is what the links give
  pub chain_order : order_of K ln n 0 ≡ st.ord
  chain_order = rw (← size) (forwards L K lo ln st H)

  pub one_chain : OneChain n L K lo ln
  one_chain =
      let rises : Pairs (λ a b. label_in L lo a < label_in L lo b) st.ord =
      pairs_map (λ s. s < length st.lab) (λ a b. get_or st.lab a 0 < get_or st.lab b 0) (λ a b. label_in L lo a < label_in L lo b)
      (λ a b x y l. rw (H.labels a x, H.labels b y) l) st.ord H.good.order.below (labels_rise st H.good) in
      let once : Order n st.ord = rw (← size) H.good.order in
      let back : back_order_of K ln n (last_of st.ord) ≡ reverse st.ord = rw (← size) (backwards L K lo ln st H) in
      record {
        each_once = rw chain_order once;
        forwards_end = rw chain_order (forwards_end L K lo ln st H);
        backwards = rw chain_order back;
        backwards_end = backwards_end L K lo ln st H;
        rising = rw chain_order rises;
      }
