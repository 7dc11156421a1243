-- `relation::compare` meets its contract: at each return the tests that led there pick the case of the definition. Assumes nothing.
use mathlib.Core.Path.{sym, ◌∙◌}
use native.Mathlib.Omega.{arith}
use Rattle.relation.proofs.Answers.{stretch_between, compare_same, compare_parallel, compare_before, compare_parallel_back, compare_after}
use Rattle.relation.proofs.compare.Goals as goal

pub returns-then-i-j : goal.returns-then-i-j
returns-then-i-j c =
    sym (compare_same _ _ _ c.if-i-j.true)

pub parallel-requires : goal.parallel-requires
parallel-requires c =
    stretch_between _ c.args.count _ _ c.requires.stretch (omega arith) (omega arith)

pub returns-then-parallel : goal.returns-then-parallel
returns-then-parallel c =
    sym (compare_parallel _ _ _ c.if-i-j-2.true (sym c.parallel.ensures ∙ c.if-parallel.true))

pub returns-then-i-j-2 : goal.returns-then-i-j-2
returns-then-i-j-2 c =
    sym (compare_before _ _ _ c.if-i-j-2.true (sym c.parallel.ensures ∙ c.if-parallel.false))

pub parallel-requires-2 : goal.parallel-requires-2
parallel-requires-2 c =
    stretch_between _ c.args.count _ _ c.requires.stretch (omega arith) (omega arith)

pub returns-then-parallel-2 : goal.returns-then-parallel-2
returns-then-parallel-2 c =
    sym (compare_parallel_back _ _ _ (omega arith) (sym c.parallel-2.ensures ∙ c.if-parallel-2.true))

pub returns : goal.returns
returns c =
    sym (compare_after _ _ _ (omega arith) (sym c.parallel-2.ensures ∙ c.if-parallel-2.false))
