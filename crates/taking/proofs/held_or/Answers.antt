-- `held_or` meets its contract: the test picks the case of the definition. Assumes nothing.
use borrow.Author.Tests.{lt-ltb, le-ltb}
use Rattle.taking.specs.Asking.{held_or}
use Rattle.taking.proofs.held_or.Goals as goal

pub returns-then-held-lt-STRANDS-clause-value : goal.returns-then-held-lt-STRANDS-clause-value
unfolding held_or
returns-then-held-lt-STRANDS-clause-value c =
    rw (lt-ltb c.args.held 4096 c.if-held-lt-STRANDS.true)

pub returns-clause-value : goal.returns-clause-value
unfolding held_or
returns-clause-value c =
    rw (le-ltb c.args.held 4096 c.if-held-lt-STRANDS.false)
