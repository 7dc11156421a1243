-- No second event to stop at and no second marks fit the contract of a turn. Assumes nothing.
use mathlib.Core.Path.{◌≡◌, refl, sym, ap, ◌∙◌}
use mathlib.Core.List.{List}
use mathlib.Core.Bool.{true, false≢true}
use mathlib.Core.Option.{none, some}
use Prim.Native.Nat.{ℕ, suc, ◌≤◌, ◌<◌}
use native.Mathlib.Omega.{arith}
use native.Mathlib.Decide.{dec_le}
use lib.Seq.{ext_get_or}
use Rattle.std.specs.Prelude.{None}
use Rattle.jobfile.specs.Trace.{event_at}
use Rattle.jobfile.specs.declared.event.Event.{Event}
use Rattle.races.specs.Records.{raced, second_of}
use Rattle.races.specs.Mark.{rules, event_trace}
use Rattle.races.proofs.Search.{Least, least_is}
use Rattle.taking.specs.Turns.{Still, Races}
use Rattle.taking.proofs.Turned.{raced_second}
use Rattle.per_record.specs.Marks.{Marks, Marked, frozen_at, stretch_end, FirstFrom}
use Rattle.per_record.specs.Goes.{Stop, past_frozen, past_all, past_race}
use Rattle.per_record.proofs.Stretches.{first_once}

-- one contents of the marks
pub marks_once : (ev : ℕ → Event) (i : ℕ) (M M' : Marks) → Marked ev i M → Marked ev i M' → M ≡ M'
marks_once ev i M M' S S' =
    ext_get_or None M M' (S.size ∙ sym S'.size) (λ r l. S.marks r (omega (arith, S.size)) ∙ sym (S'.marks r (omega (arith, S.size))))

-- an event that races on the way is not passed
module _ (part : List ℕ) (i n m : ℕ) (W : Races part n) where
  not_still : n < m → Still part i n → ¬ Still part i m
  not_still l before after =
      let T = event_trace (event_at part) in
      let none_there : second_of rules T W.number m ≡ none = after W.number ∙ sym (before W.number) ∙ W.unraced in
      let later : Least (raced rules T W.number) m none = rw none_there at (least_is (raced rules T W.number) m) in
      let here : Least (raced rules T W.number) (suc n) (some n) = rw (raced_second part n W) at (least_is (raced rules T W.number) (suc n)) in
      false≢true (sym (later n l) ∙ here.1)

module _ (part : List ℕ) (i : ℕ) where
  same_race : {m n : ℕ} → Still part i m → Races part m → Still part i n → Races part n → m ≡ n
  same_race {m = m} {n = n} s W t W' = go (dec_le m n) (dec_le n m)
    where
      go : Dec (m ≤ n) → Dec (n ≤ m) → m ≡ n
      go (yes a) (yes b) = omega arith
      go (yes a) (no b) = absurd (not_still part i m n W (omega arith) s t)
      go (no a) b = absurd (not_still part i n m W' (omega arith) t s)

module _ (part : List ℕ) (M : Marks) (i k : ℕ) where
  -- a stretch that goes on does not start at an access of a frozen record
  goes_on : {to : ℕ} → FirstFrom (frozen_at part M) i (stretch_end i k) to → i < to → ¬ (frozen_at part M i ≡ true)
  goes_on F l t = false≢true (sym (F.passed i (omega arith) l) ∙ t)

  -- one event to stop at
  pub stop_once : {a b : ℕ} → Stop part M i k a → Stop part M i k b → a ≡ b
  stop_once (past_frozen t) (past_frozen u) = refl
  stop_once (past_frozen t) (past_all F l s) = absurd (goes_on F l t)
  stop_once (past_frozen t) (past_race F h l s W) = absurd (goes_on F (omega arith) t)
  stop_once (past_all F l s) (past_frozen t) = absurd (goes_on F l t)
  stop_once (past_all F l s) (past_all G m t) = first_once F G
  stop_once (past_all {to = to} F l s) (past_race {n = n} G h m t W) =
      absurd (not_still part i n to W (omega (arith, first_once F G)) t s)
  stop_once (past_race F h l s W) (past_frozen t) = absurd (goes_on F (omega arith) t)
  stop_once (past_race {n = n} F h l s W) (past_all {to = to} G m t) =
      absurd (not_still part i n to W (omega (arith, first_once F G)) s t)
  stop_once (past_race F h l s W) (past_race G g m t W') = ap suc (same_race part i s W t W')
