-- `access` meets its contract: it goes into the place of its kind. Assumes nothing.
use Rattle.races.specs.Entries.{put}
use Rattle.races.proofs.Mark.{access_put}
use Rattle.races.proofs.access.Goals as goal

pub returns : goal.returns
unfolding put
returns c =
    rw (c.pick-event.ensures, c.pick-held.ensures, c.place_of.ensures.value) (access_put c.args.kind _ c.requires.names_none)
