-- The three work buffers as a struct of lent slices: what they hold, as lists, and that they are the same slices.
use Rattle.std.specs.Prelude.{◌≡◌}
use base.Fml.{GName}
use Rattle.taking.specs.Buffers.{Buffers}
use Rattle.taking.specs.declared.WorkBuffers.{WorkBuffers}

abbrev pub lists_in : WorkBuffers → Buffers
lists_in buffers = record { labels = buffers.labels.now; links = buffers.links.now; places = buffers.places.now }

-- by which name a proof follows each slice to its end
abbrev pub names_in : WorkBuffers → GName × GName × GName
names_in buffers = (buffers.labels.ghost_name, buffers.links.ghost_name, buffers.places.ghost_name)

-- a call that was lent the struct leaves the caller's own slices in it: so what they hold then is what the caller's hold
abbrev pub SameReferences : WorkBuffers → WorkBuffers → Type 0
SameReferences old new = names_in new ≡ names_in old
