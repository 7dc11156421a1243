-- The question that judging asks of a place: whether what it holds is parallel to the current strand, by the Hebrew labels.
use Rattle.std.specs.Prelude.{List, Bool, cond, ℕ, ◌+◌, get_or, ltb}
use Rattle.jobfile.specs.declared.event.Kind.{Kind}
use Rattle.jobfile.specs.declared.event.Kind.TheVariants.{Write, Read}

-- the strand that a place holds, or the one given where that is none: "4,294,967,295 is none, for an event and its strand alike"
unfoldable pub held_or : ℕ → ℕ → ℕ
held_or held strand = cond (ltb held 4096) held strand

-- the Hebrew label of a strand is above that of the strand asked for
abbrev pub label_above : List ℕ → ℕ → ℕ → Bool
label_above L strand other = ltb (get_or L (4096 + strand) 0) (get_or L (4096 + other) 0)

-- the same of the strand that the place holds, whose event is at `at`; a place that holds none is asked with the current strand itself,
-- whose label is not above its own
abbrev pub held_above : List ℕ → List ℕ → ℕ → ℕ → Bool
held_above L P at strand = label_above L strand (held_or (get_or P (at + 4096) 0) strand)

-- with which strand the standing read's place is asked whether an access races with it: a read does not, and is asked with its own
abbrev pub clashing_of : Kind → ℕ → ℕ → ℕ
clashing_of Write read strand = read
clashing_of Read read strand = strand
