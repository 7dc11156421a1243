-- The words that the demands are stated in (proofs/Demands.antt): which calls are taken, what an answer names, one chain, a true count.
use Rattle.std.specs.Prelude.{◌≡◌, List, reverse, ℕ, zero, suc, ◌+◌, ◌-◌, ◌≤◌, ◌<◌, length}
use Rattle.jobfile.specs.Trace.{event_at, moves}
use Rattle.jobfile.specs.File.{check_of, event_part}
use Rattle.jobfile.specs.declared.event.Event.{Event}
use Rattle.jobfile.specs.declared.event.Move.{Move}
use Rattle.jobfile.specs.declared.job.Job.{Job}
use Rattle.orders.specs.Lists.{Pairs}
use Rattle.orders.specs.Order.{Order, label_in, next_in, back_in, order_of, back_order_of, differ}
use Rattle.orders.specs.Model.{last_of}
use Rattle.taking.specs.Buffers.{Buffers}
use Rattle.std.specs.Prelude.{Result, Ok}
use Rattle.jobfile.specs.declared.refusal.Refusal.{Refusal}
use Rattle.judging.specs.declared.Answer.{Answer}
use Rattle.judging.specs.Answers.{numbers_of}

-- the events of a file
abbrev pub events_in : List ℕ → ℕ → Event
events_in file = event_at (event_part file)

-- and what they do to the structure
abbrev pub moves_in : List ℕ → ℕ → Move
moves_in file = moves (events_in file)

-- an accepted file, a k within it, and buffers long enough
pub record Judgeable (file : List ℕ) (k : ℕ) (B : Buffers) : Type 0 where
  pub job : Job
  pub accepted : check_of file ≡ Ok job
  pub within : k ≤ job.events
  pub labels_fit : 8192 ≤ length B.labels
  pub links_fit : 16384 ≤ length B.links
  pub places_fit : 16384 ≤ length B.places

-- an answer names events i and j, and record q
pub record Names (r : Result Answer Refusal) (i j q : ℕ) : Type 0 where
  pub raced : (numbers_of r).raced ≡ 1
  pub first : (numbers_of r).first ≡ i
  pub second : (numbers_of r).second ≡ j
  pub number : (numbers_of r).number ≡ q

-- "a clean answer has 0 for pair and record"
pub record SaysClean (r : Result Answer Refusal) : Type 0 where
  pub taken : (numbers_of r).refusal ≡ 0
  pub raced : (numbers_of r).raced ≡ 0
  pub first : (numbers_of r).first ≡ 0
  pub second : (numbers_of r).second ≡ 0
  pub number : (numbers_of r).number ≡ 0

-- the links from strand 0 on are one chain of exactly n strands, the same backwards, labels rising
pub record OneChain (n : ℕ) (L K : List ℕ) (lo ln : ℕ) : Type 0 where
  pub each_once : Order n (order_of K ln n 0)
  pub forwards_end : next_in K ln (last_of (order_of K ln n 0)) ≡ 65535
  pub backwards : back_order_of K ln n (last_of (order_of K ln n 0)) ≡ reverse (order_of K ln n 0)
  pub backwards_end : back_in K ln 0 ≡ 65535
  pub rising : Pairs (λ a b. label_in L lo a < label_in L lo b) (order_of K ln n 0)

-- how many of the labels of the strands below n differ in two buffers; lo: where the order's labels begin
unfoldable pub changed : ℕ → ℕ → List ℕ → List ℕ → ℕ
changed lo zero L L' = 0
changed lo (suc n) L L' = changed lo n L L' + differ (label_in L lo n) (label_in L' lo n)

-- "the count reported is the true one", by what two calls give alone: r and L for k events, r' and L' for one more. "A label counts as
-- changed by an event if it differs after it, or if the strand is new."
pub record CountStep (r r' : Result Answer Refusal) (L L' : List ℕ) : Type 0 where
  pub english : (numbers_of r').english ≡ (numbers_of r).english + ((numbers_of r').strands - (numbers_of r).strands + changed 0 (numbers_of r).strands L L')
  pub hebrew : (numbers_of r').hebrew ≡ (numbers_of r).hebrew + ((numbers_of r').strands - (numbers_of r).strands + changed 4096 (numbers_of r).strands L L')
