-- The three lists as a struct of lent slices: what they hold, and that they are the same slices.
use Rattle.std.specs.Prelude.{◌≡◌}
use base.Fml.{GName}
use Rattle.per_record.specs.Lists.{Lists}
use Rattle.per_record.specs.declared.RaceLists.{RaceLists}

abbrev pub entries_in : RaceLists → Lists
entries_in lists = record { records = lists.records.now; firsts = lists.firsts.now; seconds = lists.seconds.now }

-- by which name a proof follows each slice to its end
abbrev pub names_in : RaceLists → GName × GName × GName
names_in lists = (lists.records.ghost_name, lists.firsts.ghost_name, lists.seconds.ghost_name)

-- a call that was lent the struct leaves the caller's own slices in it: so what they hold then is what the caller's hold
abbrev pub SameLists : RaceLists → RaceLists → Type 0
SameLists old new = names_in new ≡ names_in old
