-- `jobfile::coding::event_of` meets its contract: at each return the tests that led there say which case of `told_of` holds. Assumes nothing.
use mathlib.Core.Path.{◌≡◌, sym, ◌∙◌}
use mathlib.Core.Bool.{false, ◌&&◌}
use lib.Dec.{eqb}
use borrow.Author.Tests.{eq-eqb, ne_eqb}
use Rattle.jobfile.specs.Coding.{told_of}
use Rattle.jobfile.proofs.coding.event_of.Goals as goal
use Rattle.jobfile.proofs.coding.event_of.Goals.{Else-bare, Else-bare-2, Else-bare-3}

-- it is no spawn, no end, no sync
no_spawn : (c : Else-bare) → (eqb c.args.kind 1 && eqb c.args.number 0) ≡ false
no_spawn c = sym c.bare.ensures ∙ c.if-bare.false

no_end : (c : Else-bare-2) → (eqb c.args.kind 2 && eqb c.args.number 0) ≡ false
no_end c = sym c.bare-2.ensures ∙ c.if-bare-2.false

no_sync : (c : Else-bare-3) → (eqb c.args.kind 3 && eqb c.args.number 0) ≡ false
no_sync c = sym c.bare-3.ensures ∙ c.if-bare-3.false

pub returns-then-bare-clause-value : goal.returns-then-bare-clause-value
unfolding told_of
returns-then-bare-clause-value c =
    rw (sym c.bare.ensures ∙ c.if-bare.true)

pub returns-then-bare-2-clause-value : goal.returns-then-bare-2-clause-value
unfolding told_of
returns-then-bare-2-clause-value c =
    rw (no_spawn (goal.at.returns-then-bare-2-clause-value c).Else-bare, sym c.bare-2.ensures ∙ c.if-bare-2.true)

pub returns-then-bare-3-clause-value : goal.returns-then-bare-3-clause-value
unfolding told_of
returns-then-bare-3-clause-value c =
    rw (no_spawn (goal.at.returns-then-bare-3-clause-value c).Else-bare, no_end (goal.at.returns-then-bare-3-clause-value c).Else-bare-2, sym c.bare-3.ensures ∙ c.if-bare-3.true)

pub returns-then-kind-eq4-clause-value : goal.returns-then-kind-eq4-clause-value
unfolding told_of
returns-then-kind-eq4-clause-value c =
    rw (no_spawn (goal.at.returns-then-kind-eq4-clause-value c).Else-bare, no_end (goal.at.returns-then-kind-eq4-clause-value c).Else-bare-2, no_sync (goal.at.returns-then-kind-eq4-clause-value c).Else-bare-3, c.if-kind.true, eq-eqb _ 4 c.if-kind-eq4.true)

pub returns-then-kind-clause-value : goal.returns-then-kind-clause-value
unfolding told_of
returns-then-kind-clause-value c =
    rw (no_spawn (goal.at.returns-then-kind-clause-value c).Else-bare, no_end (goal.at.returns-then-kind-clause-value c).Else-bare-2, no_sync (goal.at.returns-then-kind-clause-value c).Else-bare-3, c.if-kind.true, ne_eqb _ 4 c.if-kind-eq4.false)

pub returns-clause-value : goal.returns-clause-value
unfolding told_of
returns-clause-value c =
    rw (no_spawn (goal.at.returns-clause-value c).Else-bare, no_end (goal.at.returns-clause-value c).Else-bare-2, no_sync (goal.at.returns-clause-value c).Else-bare-3, c.if-kind.false)
