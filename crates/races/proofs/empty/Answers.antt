-- `empty` meets its contract: the run is filled with none, and what is ahead of it and behind it stays. Assumes nothing.
use mathlib.Core.Path.{◌≡◌, refl, ap, ◌∙◌}
use Prim.Native.Nat.{◌+◌, ◌-◌}
use native.Mathlib.Omega.{arith}
use lib.ListN.{length, take, drop, replicate}
use lib.Seq.{drop-drop}
use Rattle.std.proofs.lemmas.Grind.{common_steps}
use Rattle.races.specs.Entries.{filled}
use Rattle.races.proofs.empty.Goals as goal

pub returns-clause-places_value : goal.returns-clause-places_value
unfolding filled
returns-clause-places_value c =
    let at = c.args.from in
    let k = c.args.records in
    let size : length (take (at + k - at) (drop at c.args.places.now)) ≡ k = grind (arith, common_steps) in
    let run : c.fill.new.self ≡ replicate k 4294967295 = c.fill.ensures.after (λ y e. e) ∙ ap (λ n. replicate n 4294967295) size in
    let end : at + k - at ≡ k = omega arith in
    rw (run, end, drop-drop k at c.args.places.now) refl
