-- `words` meets its contract: std's split says where the first mark stands; where it finds none, all is words. Assumes nothing.
use Rattle.input.proofs.CutOff.{cut_off, uncut}
use Rattle.input.proofs.words.Goals as goal

pub returns-in-Some : goal.returns-in-Some
returns-in-Some c = cut_off _ _ _ c.in-Some.ensures.cases

pub returns-in-None : goal.returns-in-None
returns-in-None c = uncut _ c.in-None.ensures.cases
