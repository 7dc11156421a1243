-- `find` meets its contract: the last write is named if it is parallel, and otherwise it is the standing read. Assumes nothing.
use mathlib.Core.Path.{sym, ◌∙◌}
use native.Mathlib.Omega.{arith}
use Rattle.taking.proofs.Finding.{its_strand, its_record, found_written, found_read}
use Rattle.taking.proofs.find.Goals as goal

pub overflow_sub-strand : goal.overflow_sub-strand
overflow_sub-strand c =
    (its_strand c.requires).0

pub overflow_add-record : goal.overflow_add-record
overflow_add-record c =
    omega (arith, its_record c.requires _ c.record_at-record.ensures)

pub offset_bounds-places-record : goal.offset_bounds-places-record
offset_bounds-places-record c =
    omega (arith, its_record c.requires _ c.record_at-record.ensures)

pub bounds-places-record : goal.bounds-places-record
bounds-places-record c =
    omega (arith, its_record c.requires _ c.record_at-record.ensures, c.requires.midway.places_room)

pub held_or-wrote-requires : goal.held_or-wrote-requires
held_or-wrote-requires c =
    (its_strand c.requires).1

pub above-requires : goal.above-requires
above-requires c =
    (c.requires.midway.reached.labels_room, (its_strand c.requires).1, c.held_or-wrote.ensures.upper_bound)

pub returns-then-above : goal.returns-then-above
returns-then-above c =
    let named = c.record_at-record.ensures in
    found_written c.requires _ named (rw c.held_or-wrote.ensures.value at (sym c.if-above.true ∙ c.above.ensures))

pub returns : goal.returns
returns c =
    let named = c.record_at-record.ensures in
    found_read c.requires _ named (rw c.held_or-wrote.ensures.value at (sym c.if-above.false ∙ c.above.ensures))
