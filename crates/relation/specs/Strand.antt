-- The strand of an event, and the position where a strand begins.
use Rattle.std.specs.Prelude.{cond, ℕ, zero, suc, ◌-◌, ltb}
use Rattle.jobfile.specs.Trace.{begun_at}
use Rattle.jobfile.specs.declared.event.Move.{Move}

module _ (mv : ℕ → Move) where
  -- "Strands are numbered as they begin": the current strand is always the one begun last
  abbrev pub strand_at : ℕ → ℕ
  strand_at n = begun_at mv n - 1

  -- where strand s begins, of the strands begun up to position n: "Strand 0 is the root's first"; a strand that event n begins is
  -- there from position n + 1 on
  unfoldable pub birth : ℕ → ℕ → ℕ
  birth zero s = 0
  birth (suc n) s = cond (ltb s (begun_at mv n)) (birth n s) (suc n)
