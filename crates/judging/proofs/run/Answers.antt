-- `run` meets its contract: it goes from the start to the first race or past all k events. Assumes nothing.
use mathlib.Core.Path.{refl}
use Rattle.taking.specs.WorkBuffers.{lists_in}
use Rattle.judging.proofs.Running.{runs, ends_clean, ends_raced, place_there}
use Rattle.judging.proofs.run.Goals as goal

pub until_race-reach-requires : goal.until_race-reach-requires
until_race-reach-requires c = record {
  records = _;
  k = _;
  B₀ = lists_in c.args.buffers.now;
  runs = runs c.requires.run (c.begin-begun.ensures _ _ refl refl) c.clear.ensures c.requires.in_bounds.2;
}

pub find-found-requires : goal.find-found-requires
find-found-requires c =
    let went = c.until_race-reach.ensures.went.went _ _ _ (runs c.requires.run (c.begin-begun.ensures _ _ refl refl) c.clear.ensures c.requires.in_bounds.2) in
    record {
      records = _;
      k = _;
      B₀ = _;
      links = _;
      T = _;
      run = c.requires.run;
      next = c.if-reach-k.true;
      midway = went.midway;
      races = went.races c.if-reach-k.true;
    }

pub held-requires : goal.held-requires
held-requires c =
    let went = c.until_race-reach.ensures.went.went _ _ _ (runs c.requires.run (c.begin-begun.ensures _ _ refl refl) c.clear.ensures c.requires.in_bounds.2) in
    place_there c.requires.run c.if-reach-k.true went.midway (went.races c.if-reach-k.true) _ c.find-found.ensures

pub returns-then-reach-k : goal.returns-then-reach-k
returns-then-reach-k c =
    let went = c.until_race-reach.ensures.went.went _ _ _ (runs c.requires.run (c.begin-begun.ensures _ _ refl refl) c.clear.ensures c.requires.in_bounds.2) in
    let race = c.if-reach-k.true in
    let it = ends_raced _ c.requires.run race went.midway went.still (went.races race) _ c.find-found.ensures _ c.held.ensures in
    record { same_references = c.until_race-reach.ensures.same_references; value = rw c.from-counts.ensures it.0; shows = it.1 }

pub returns : goal.returns
returns c =
    let went = c.until_race-reach.ensures.went.went _ _ _ (runs c.requires.run (c.begin-begun.ensures _ _ refl refl) c.clear.ensures c.requires.in_bounds.2) in
    let it = ends_clean _ went.midway went.still went.within c.if-reach-k.false in
    record { same_references = c.until_race-reach.ensures.same_references; value = rw c.from-counts.ensures it.0; shows = it.1 }
