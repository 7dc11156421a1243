-- `orders::chain::link` meets its contract: its stores are those of `linked`, with the fourth where the next strand is one. Assumes nothing.
use mathlib.Core.Path.{◌∙◌}
use Rattle.orders.proofs.Links.{linked_some, linked_none}
use Rattle.orders.proofs.chain.link.Goals as goal

pub returns-then-b-lt-STRANDS : goal.returns-then-b-lt-STRANDS
returns-then-b-lt-STRANDS c =
    rw c.requires.next_value (linked_some _ _ _ _ _ (c.from-b.ensures ∙ c.requires.next_value) c.if-b-lt-STRANDS.true)

pub returns-else-b-lt-STRANDS : goal.returns-else-b-lt-STRANDS
returns-else-b-lt-STRANDS c =
    rw c.requires.next_value (linked_none _ _ _ _ _ (c.from-b.ensures ∙ c.requires.next_value) c.if-b-lt-STRANDS.false)
