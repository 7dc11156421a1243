-- `take` meets its contract: an access finds the first of a race at its record's places or is put there, and any other event is behind once
-- its strand has begun. Assumes nothing.
use mathlib.Core.Path.{sym, ◌∙◌}
use native.Mathlib.Omega.{arith}
use Rattle.taking.proofs.Turned.{some_strands, strand_below, record_below, turns_written, turns_read, names_nothing, accessible, turns_accessed, ready, turns_moved}
use Rattle.taking.proofs.take.Goals as goal

pub overflow_sub-strand : goal.overflow_sub-strand
overflow_sub-strand c =
    some_strands c.requires _ c.event_at-e.ensures

pub bounds-places-r : goal.bounds-places-r
bounds-places-r c =
    let asked = c.requires in
    let to = sym c.access_of.ensures ∙ c.in-Some.is in
    omega (arith, record_below asked _ c.event_at-e.ensures _ _ to, asked.midway.places_room)

pub held_or-wrote-requires : goal.held_or-wrote-requires
held_or-wrote-requires c =
    let asked = c.requires in
    strand_below asked _ c.event_at-e.ensures

pub above-requires : goal.above-requires
above-requires c =
    let asked = c.requires in
    let strand = strand_below asked _ c.event_at-e.ensures in
    (asked.midway.reached.labels_room, strand, c.held_or-wrote.ensures.upper_bound)

pub returns-then-above-clause-taken : goal.returns-then-above-clause-taken
returns-then-above-clause-taken c =
    let asked = c.requires in
    let to = sym c.access_of.ensures ∙ c.in-Some.is in
    turns_written asked _ c.event_at-e.ensures _ _ to
    (rw c.held_or-wrote.ensures.value at (sym c.if-above.true ∙ c.above.ensures))

pub bounds-places-r-in-Some : goal.bounds-places-r-in-Some
bounds-places-r-in-Some c =
    let asked = c.requires in
    let to = sym c.access_of.ensures ∙ c.in-Some.is in
    omega (arith, record_below asked _ c.event_at-e.ensures _ _ to, asked.midway.places_room)

pub held_or-read-requires : goal.held_or-read-requires
held_or-read-requires c =
    let asked = c.requires in
    strand_below asked _ c.event_at-e.ensures

pub clashing-requires : goal.clashing-requires
clashing-requires c =
    let asked = c.requires in
    (c.held_or-read.ensures.upper_bound, strand_below asked _ c.event_at-e.ensures)

pub above-requires-in-Some : goal.above-requires-in-Some
above-requires-in-Some c =
    let asked = c.requires in
    let strand = strand_below asked _ c.event_at-e.ensures in
    (asked.midway.reached.labels_room, strand, c.clashing.ensures.upper_bound)

pub returns-then-above-2-clause-taken : goal.returns-then-above-2-clause-taken
returns-then-above-2-clause-taken c =
    let asked = c.requires in
    let to = sym c.access_of.ensures ∙ c.in-Some.is in
    let wrote = rw c.held_or-wrote.ensures.value at (sym c.if-above.false ∙ c.above.ensures) in
    turns_read asked _ c.event_at-e.ensures _ _ to wrote
    (rw (c.clashing.ensures.value, c.held_or-read.ensures.value) at (sym c.if-above-2.true ∙ c.above-in-Some.ensures))

pub above-stood-requires : goal.above-stood-requires
above-stood-requires c =
    let asked = c.requires in
    let strand = strand_below asked _ c.event_at-e.ensures in
    (asked.midway.reached.labels_room, strand, c.held_or-read.ensures.upper_bound)

pub access-requires-clause-accessible : goal.access-requires-clause-accessible
access-requires-clause-accessible c =
    let asked = c.requires in
    let to = sym c.access_of.ensures ∙ c.in-Some.is in
    let wrote = rw c.held_or-wrote.ensures.value at (sym c.if-above.false ∙ c.above.ensures) in
    let stood = rw c.held_or-read.ensures.value at c.above-stood.ensures in
    let clear = rw (c.clashing.ensures.value, c.held_or-read.ensures.value) at (sym c.if-above-2.false ∙ c.above-in-Some.ensures) in
    let below = record_below asked _ c.event_at-e.ensures _ _ to in accessible asked _ c.event_at-e.ensures _ _ to wrote _ stood clear

pub access-requires-clause-names_none : goal.access-requires-clause-names_none
access-requires-clause-names_none c =
    let asked = c.requires in
    let to = sym c.access_of.ensures ∙ c.in-Some.is in
    let wrote = rw c.held_or-wrote.ensures.value at (sym c.if-above.false ∙ c.above.ensures) in
    let stood = rw c.held_or-read.ensures.value at c.above-stood.ensures in
    let clear = rw (c.clashing.ensures.value, c.held_or-read.ensures.value) at (sym c.if-above-2.false ∙ c.above-in-Some.ensures) in
    let below = record_below asked _ c.event_at-e.ensures _ _ to in names_nothing asked _ c.event_at-e.ensures _ _ to wrote _ stood clear

pub access-requires-clause-r_in_bounds : goal.access-requires-clause-r_in_bounds
access-requires-clause-r_in_bounds c =
    let asked = c.requires in
    let to = sym c.access_of.ensures ∙ c.in-Some.is in
    let wrote = rw c.held_or-wrote.ensures.value at (sym c.if-above.false ∙ c.above.ensures) in
    let stood = rw c.held_or-read.ensures.value at c.above-stood.ensures in
    let clear = rw (c.clashing.ensures.value, c.held_or-read.ensures.value) at (sym c.if-above-2.false ∙ c.above-in-Some.ensures) in
    let below = record_below asked _ c.event_at-e.ensures _ _ to in omega (arith, asked.midway.places_room)

pub advance-requires : goal.advance-requires
advance-requires c =
    let asked = c.requires in
    let to = sym c.access_of.ensures ∙ c.in-None.is in
    ready asked _ c.event_at-e.ensures to _ c.move_of-m.ensures

pub returns-else-above-2-clause-taken : goal.returns-else-above-2-clause-taken
returns-else-above-2-clause-taken c =
    let asked = c.requires in
    let to = sym c.access_of.ensures ∙ c.in-Some.is in
    let wrote = rw c.held_or-wrote.ensures.value at (sym c.if-above.false ∙ c.above.ensures) in
    let stood = rw c.held_or-read.ensures.value at c.above-stood.ensures in
    let clear = rw (c.clashing.ensures.value, c.held_or-read.ensures.value) at (sym c.if-above-2.false ∙ c.above-in-Some.ensures) in
    turns_accessed asked _ c.event_at-e.ensures _ _ to wrote _ stood clear c.access.new.places c.access.ensures

pub returns-in-None-clause-taken : goal.returns-in-None-clause-taken
returns-in-None-clause-taken c =
    let asked = c.requires in
    let to = sym c.access_of.ensures ∙ c.in-None.is in
    turns_moved asked _ c.event_at-e.ensures to _ c.move_of-m.ensures _ _ _ c.advance.result c.advance.ensures
