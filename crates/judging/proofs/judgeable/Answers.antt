-- `judging::judgeable` meets its contract: at each return the test that led there is met, and those ahead of it are not. Assumes nothing.
use native.Mathlib.Omega.{arith}
use Rattle.judging.proofs.Faults.{over_events, short_labels, short_links, short_places, over_room, no_fault}
use Rattle.judging.proofs.judgeable.Goals as goal

pub returns-then-k-job-clause-value : goal.returns-then-k-job-clause-value
returns-then-k-job-clause-value c =
    over_events _ _ _ _ _ _ c.if-k-job.true

pub returns-then-labels-lt-LABELS-clause-value : goal.returns-then-labels-lt-LABELS-clause-value
returns-then-labels-lt-LABELS-clause-value c =
    short_labels _ _ _ _ _ _ (omega arith) c.if-labels-lt-LABELS.true

pub returns-then-links-lt-LINKS-clause-value : goal.returns-then-links-lt-LINKS-clause-value
returns-then-links-lt-LINKS-clause-value c =
    short_links _ _ _ _ _ _ (omega arith) (omega arith) c.if-links-lt-LINKS.true

pub returns-then-places-lt-PLACES-clause-value : goal.returns-then-places-lt-PLACES-clause-value
returns-then-places-lt-PLACES-clause-value c =
    short_places _ _ _ _ _ _ (omega arith) (omega arith) (omega arith) c.if-places-lt-PLACES.true

pub returns-then-job-gt-STRANDS-clause-value : goal.returns-then-job-gt-STRANDS-clause-value
returns-then-job-gt-STRANDS-clause-value c =
    over_room _ _ _ _ _ _ (omega arith) (omega arith) (omega arith) (omega arith) c.if-job-gt-STRANDS.true

pub returns-clause-value : goal.returns-clause-value
returns-clause-value c =
    no_fault _ _ _ _ _ _ (omega arith) (omega arith) (omega arith) (omega arith) c.if-job-gt-STRANDS.false
