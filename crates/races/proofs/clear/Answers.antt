-- `clear` meets its contract: the four runs are the places of the layout. Assumes nothing.
use Rattle.races.proofs.Emptied.{emptied}
use Rattle.races.proofs.clear.Goals as goal

pub returns : goal.returns
returns c =
    rw (c.empty-4.ensures.places_value, c.empty-3.ensures.places_value, c.empty-2.ensures.places_value, c.empty.ensures.places_value) (emptied _ _ c.requires.records_bound c.requires.in_bounds)
