-- `relation::asked` meets its contract: what both tests say picks the case of the definition. Assumes nothing.
use mathlib.Core.Path.{◌≡◌, sym, ap, ◌∙◌}
use mathlib.Core.Bool.{◌&&◌}
use lib.Dec.{ltb}
use borrow.Author.Tests.{lt-ltb, le-ltb}
use Rattle.std.specs.Prelude.{Ok, Err}
use Rattle.jobfile.specs.Trace.{event_at}
use Rattle.relation.specs.Question.{access_at}
use Rattle.relation.proofs.Answers.{both_below, asked_over, asked_no_access, asked_accesses}
use Rattle.relation.proofs.asked.Goals as goal
use Rattle.relation.proofs.asked.Goals.{Joined-i-count, Joined-access_at, then-i-count, else-i-count, then-access_at, else-access_at}

-- the test of both numbers, in the definition's words
below_is : (c : Joined-i-count) → c.if-i-count.below ≡ (ltb c.args.i c.args.count && ltb c.args.j c.args.count)
below_is c =
    elim c.if-i-count.branch [
      | then-i-count w ↦ w.below-is ∙ sym (rw (lt-ltb _ _ w.if-i-count.true))
      | else-i-count w ↦ w.below-is ∙ sym (rw (le-ltb _ _ w.if-i-count.false))
    ]

-- and of both events
access_is : (c : Joined-access_at)
    → let ev = event_at c.args.part.now in
    c.if-access_at.access ≡ ((ltb c.args.i c.args.count && access_at ev c.args.i) && (ltb c.args.j c.args.count && access_at ev c.args.j))
access_is c =
    elim c.if-access_at.branch [
      | then-access_at w ↦ w.access-is ∙ w.access_at-access.ensures ∙ sym (rw (sym c.access_at.ensures ∙ w.if-access_at.true))
      | else-access_at w ↦ w.access-is ∙ w.if-access_at.false ∙ sym (rw (sym c.access_at.ensures ∙ w.if-access_at.false))
    ]

pub returns-then-not-below : goal.returns-then-not-below
returns-then-not-below c =
    ap Err c.into.ensures ∙ sym (asked_over _ _ _ _ (sym (below_is (goal.at.returns-then-not-below c).Joined-i-count) ∙ c.if-not-below.true))

pub returns-then-not-access : goal.returns-then-not-access
returns-then-not-access c =
    let p = goal.at.returns-then-not-access c in
    ap Err c.into-then-not-access.ensures
    ∙ sym (asked_no_access _ _ _ _ (sym (below_is p.Joined-i-count) ∙ c.if-not-below.false) (sym (access_is p.Joined-access_at) ∙ c.if-not-access.true))

pub compare-requires-clause-i_lt_count : goal.compare-requires-clause-i_lt_count
compare-requires-clause-i_lt_count c =
    both_below _ _ _ (sym (below_is (goal.at.compare-requires-clause-i_lt_count c).Joined-i-count) ∙ c.if-not-below.false)

pub returns : goal.returns
returns c =
    let p = goal.at.returns c in
    ap Ok c.compare.ensures
    ∙ sym (asked_accesses _ _ _ _ (sym (below_is p.Joined-i-count) ∙ c.if-not-below.false) (sym (access_is p.Joined-access_at) ∙ c.if-not-access.false))
