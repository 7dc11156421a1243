-- `strands::grow` meets its contract: the strand appended to the English order leaves buffers that hold the Hebrew order still, and after the
-- Hebrew insertion both orders have the new strand. The counts are far below what could wrap. Assumes nothing.
use mathlib.Core.Path.{refl, ◌∙◌}
use Prim.Native.Nat.{◌≤◌}
use native.Mathlib.Omega.{arith}
use Rattle.strands.proofs.Grown.{english_appendable, hebrew_marked, english_counts, hebrew_counts, both_grown}
use Rattle.strands.proofs.grow.Goals as goal
use Rattle.strands.proofs.grow.Goals.{After-append-english, After-insert-hebrew}

english_few : (c : After-append-english) → c.append-english.result.changed ≤ 4096
english_few c = english_counts _ _ _ _ c.requires _ _ _ c.append-english.ensures.inserted

hebrew_few : (c : After-insert-hebrew) → c.insert-hebrew.result.changed ≤ 4096
hebrew_few c = hebrew_counts _ _ _ _ c.requires _ _ _ c.append-english.ensures.inserted _ _ _ c.insert-hebrew.ensures.inserted

pub append-english-requires : goal.append-english-requires
append-english-requires c =
    english_appendable _ _ _ _ c.requires

pub insert-hebrew-requires : goal.insert-hebrew-requires
insert-hebrew-requires c =
    hebrew_marked _ _ _ _ c.requires _ _ _ c.append-english.ensures.inserted c.append-english.auto.labels c.append-english.auto.links

pub overflow_add-result-2 : goal.overflow_add-result-2
overflow_add-result-2 c =
    omega (arith, english_few (goal.at.overflow_add-result-2 c).After-append-english, c.requires.english_few)

pub overflow_add-result-3 : goal.overflow_add-result-3
overflow_add-result-3 c =
    omega (arith, hebrew_few (goal.at.overflow_add-result-3 c).After-insert-hebrew, c.requires.hebrew_few)

pub returns-clause-grown : goal.returns-clause-grown
returns-clause-grown c =
    both_grown _ _ _ _ c.requires _ _ _ c.append-english.ensures.inserted _ _ _ c.insert-hebrew.ensures.inserted
    (c.insert-hebrew.auto.labels ∙ c.append-english.auto.labels) (c.insert-hebrew.auto.links ∙ c.append-english.auto.links) _ refl refl refl
    c.append-english.ensures.appends c.insert-hebrew.ensures.settles
