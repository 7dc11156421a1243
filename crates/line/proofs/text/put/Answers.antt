-- `put` meets its contract: where there is room the vector takes all of the bytes. Assumes nothing.
use Rattle.line.proofs.text.put.Goals as goal

pub returns-clause-put : goal.returns-clause-put
returns-clause-put g c =
    c.in-Ok.ensures.ok
