-- What a call of `judge` that is taken answers: the verdict of the events, told in the paper's numbers. Assumes nothing.
use mathlib.Core.Path.{◌≡◌, refl, sym, ◌∙◌, subst}
use mathlib.Core.List.{List}
use Prim.Native.Nat.{ℕ, ◌≤◌, ◌<◌}
use native.Mathlib.Omega.{arith}
use lib.ListN.{length}
use Rattle.jobfile.specs.Trace.{begun_at}
use Rattle.jobfile.specs.File.{event_part}
use Rattle.jobfile.specs.Accepted.{AcceptedTrace}
use Rattle.jobfile.specs.declared.event.Event.{Event}
use Rattle.jobfile.proofs.Checking.{accepted_part}
use Rattle.relation.specs.Parallel.{Rooted}
use Rattle.races.specs.Race.{Race as IsRace}
use Rattle.races.specs.Records.{Verdict, clean, race}
use Rattle.races.specs.Named.{Named}
use Rattle.races.specs.Verdict.{verdict, stop_at}
use Rattle.races.proofs.Named.{verdict_race, verdict_clean, named_only, stop_race, stop_clean}
use Rattle.taking.specs.Buffers.{Buffers}
use Rattle.std.specs.Prelude.{Result, Ok}
use Rattle.jobfile.specs.declared.refusal.Refusal.{Refusal}
use Rattle.judging.specs.declared.Answer.{Answer}
use Rattle.judging.specs.Answers.{answer_with, judged_of, judgeable, judge_of, judge_with}
use Rattle.judging.specs.Leaves.{shown_at}
use Rattle.judging.specs.Gives.{JudgeGives}
use Rattle.judging.specs.Terms.{events_in, moves_in, Judgeable, Names, SaysClean}
use Rattle.judging.proofs.Faults.{no_fault as passes}

-- what an answer says of a verdict
verdict_names : (v : Verdict) (a b c i j q : ℕ) → v ≡ race i j q → Names (Ok (answer_with v a b c)) i j q
verdict_names v a b c i j q e = rw e (record { raced = refl; first = refl; second = refl; number = refl })

verdict_says_clean : (v : Verdict) (a b c : ℕ) → v ≡ clean → SaysClean (Ok (answer_with v a b c))
verdict_says_clean v a b c e = rw e (record { taken = refl; raced = refl; first = refl; second = refl; number = refl })

-- the verdict behind an answer
named_verdict : (v : Verdict) (a b c i j q : ℕ) → Names (Ok (answer_with v a b c)) i j q → v ≡ race i j q
named_verdict clean a b c i j q N = absurd (omega (arith, N.raced))
named_verdict (race x y z) a b c i j q N = rw (N.first, N.second, N.number)

clean_verdict : (v : Verdict) (a b c : ℕ) → SaysClean (Ok (answer_with v a b c)) → v ≡ clean
clean_verdict clean a b c C = refl
clean_verdict (race x y z) a b c C = absurd (omega (arith, C.raced))

-- where judging stops is what the answer shows
pub stop_shown : (ev : ℕ → Event) (k : ℕ) → stop_at ev k ≡ shown_at k (Ok (judged_of ev k))
unfolding judged_of
stop_shown ev k = by (verdict ev k) refl _ _ _
  where
    by : (v : Verdict) → verdict ev k ≡ v → (s e h : ℕ) → stop_at ev k ≡ shown_at k (Ok (answer_with v s e h))
    by clean z s e h = stop_clean ev k z
    by (race i j r) z s e h = stop_race ev k i j r z

module _ (file : List ℕ) (k : ℕ) (B₀ : Buffers) (T : Judgeable file k B₀) where
  accepted_events : AcceptedTrace T.job.records T.job.events T.job.strands (event_part file)
  accepted_events = accepted_part file T.job T.accepted

  pub rooted : (n : ℕ) → n ≤ k → Rooted (moves_in file) n
  rooted n h m l = accepted_events.rooted m (omega (arith, T.within))

  pub few : (n : ℕ) → n ≤ k → begun_at (moves_in file) n ≤ 4096
  few n h = accepted_events.few n (omega (arith, T.within))

  pub no_fault : judgeable T.job.events T.job.strands k (length B₀.labels) (length B₀.links) (length B₀.places) ≡ Ok tt
  no_fault =
      let s : T.job.strands ≤ 4096 = omega (arith, accepted_events.few T.job.events (omega arith), accepted_events.all) in
      sym (passes _ _ _ _ _ _ T.within T.labels_fit T.links_fit T.places_fit s)

  -- so the answer is that of the events
  judged : judge_with file k B₀ ≡ Ok (judged_of (events_in file) k)
  unfolding judge_of
  judged = rw (T.accepted, no_fault)

  -- the rules name one pair
  pub one_pair : (i j q i' j' q' : ℕ) → Named (events_in file) k i j q → Named (events_in file) k i' j' q' → (i ≡ i') × (j ≡ j') × (q ≡ q')
  one_pair i j q i' j' q' = named_only (events_in file) k i j q i' j' q' (rooted k (omega arith))

  module _ (r : Result Answer Refusal) (B : Buffers) (F : JudgeGives file k B₀ r B) where
    pub fits_judged : r ≡ Ok (judged_of (events_in file) k)
    fits_judged = F.answer ∙ judged

    -- "A race is named exactly if there is one, and it is the one the rules name."
    pub race_named : (i j q : ℕ) → Names r i j q → Named (events_in file) k i j q
    unfolding judged_of
    race_named i j q N =
        (verdict_race (events_in file) k i j q (rooted k (omega arith))).0
        (named_verdict (verdict (events_in file) k) _ _ _ i j q (subst (λ a. Names a i j q) fits_judged N))

    pub named_answered : (i j q : ℕ) → Named (events_in file) k i j q → Names r i j q
    unfolding judged_of
    named_answered i j q N =
        rw fits_judged (verdict_names (verdict (events_in file) k) _ _ _ i j q ((verdict_race (events_in file) k i j q (rooted k (omega arith))).1 N))

    pub clean_free : SaysClean r → (i j : ℕ) → j < k → ¬ IsRace (events_in file) i j
    unfolding judged_of
    clean_free C =
        (verdict_clean (events_in file) k (rooted k (omega arith))).0
        (clean_verdict (verdict (events_in file) k) _ _ _ (subst SaysClean fits_judged C))

    pub free_clean : ((i j : ℕ) → j < k → ¬ IsRace (events_in file) i j) → SaysClean r
    unfolding judged_of
    free_clean free =
        rw fits_judged (verdict_says_clean (verdict (events_in file) k) _ _ _ ((verdict_clean (events_in file) k (rooted k (omega arith))).1 free))
