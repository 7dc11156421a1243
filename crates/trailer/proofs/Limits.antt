-- A computed answer past the limit of refusal 6: two events, and room for one before the trailer. Assumes nothing.
use mathlib.Core.Path.{◌≡◌, refl}
use Rattle.trailer.specs.Trailer.{start_in}
use Rattle.std.specs.Prelude.{Err}
use Rattle.trailer.specs.declared.fault.Fault.TheVariants.{Outside}

pub distance_over : start_in 4 8 2 1 ≡ Err Outside
unfolding start_in
distance_over = refl
