-- `trailer::start_in` meets its contract: at each return the test that led there is met, and those ahead of it are not. Assumes nothing.
use native.Mathlib.Omega.{arith}
use Rattle.trailer.proofs.Faults.{no_records, many_records, many_events, other_distance, long_distance, long_name, no_fault}
use Rattle.trailer.proofs.start_in.Goals as goal

pub returns-then-records-eq0-clause-value : goal.returns-then-records-eq0-clause-value
returns-then-records-eq0-clause-value c =
    no_records _ _ _ _ c.if-records-eq0.true

pub returns-then-records-gt-RECORDS-clause-value : goal.returns-then-records-gt-RECORDS-clause-value
returns-then-records-gt-RECORDS-clause-value c =
    many_records _ _ _ _ c.if-records-eq0.false c.if-records-gt-RECORDS.true

pub returns-then-count-gt-EVENTS-clause-value : goal.returns-then-count-gt-EVENTS-clause-value
returns-then-count-gt-EVENTS-clause-value c =
    many_events _ _ _ _ c.if-records-eq0.false (omega arith) c.if-count-gt-EVENTS.true

pub returns-then-distance-count-clause-value : goal.returns-then-distance-count-clause-value
returns-then-distance-count-clause-value c =
    other_distance _ _ _ _ c.if-records-eq0.false (omega arith) (omega arith) c.if-distance-count.true

pub returns-then-distance-before-clause-value : goal.returns-then-distance-before-clause-value
returns-then-distance-before-clause-value c =
    long_distance _ _ _ _ c.if-records-eq0.false (omega arith) (omega arith) c.if-distance-count.false c.if-distance-before.true

pub returns-then-before-distance-gt-NAME-clause-value : goal.returns-then-before-distance-gt-NAME-clause-value
returns-then-before-distance-gt-NAME-clause-value c =
    long_name _ _ _ _ c.if-records-eq0.false (omega arith) (omega arith) c.if-distance-count.false (omega arith)
    c.if-before-distance-gt-NAME.true

pub returns-clause-value : goal.returns-clause-value
returns-clause-value c =
    no_fault _ _ _ _ c.if-records-eq0.false (omega arith) (omega arith) c.if-distance-count.false (omega arith)
    c.if-before-distance-gt-NAME.false
