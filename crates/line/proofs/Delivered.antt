-- A line that fits is at the start of the output; one that does not leaves it alone. Assumes nothing.
use Prim.Native.Nat.{ℕ, ◌≤◌, ◌<◌}
use native.Mathlib.Omega.{arith}
use native.Mathlib.Nat.{zero-add}
use mathlib.Core.Bool.{Bool, true, false, cond}
use mathlib.Core.Path.{◌≡◌, refl}
use mathlib.Core.List.{List, ◌++◌}
use lib.Dec.{ltb}
use lib.ListN.{length, drop}
use lib.Seq.{take-append_seam, drop-append_seam}
use borrow.Author.Tests.{lt-ltb, le-ltb}
use Rattle.io.specs.Counts.{IsPrefixLen}
use Rattle.std.specs.Prelude.{Option, None, Some}
use Rattle.std.specs.Option.{unwrap_or}
use Rattle.bytes_at.specs.Put.{Put}
use Rattle.line.specs.Line.{lined_of, out_of, LineFits}
use Rattle.bytes_at.proofs.Puts.{put_whole, put_counted}

module _ (line out : List ℕ) where
  pub too_short : length out < length line → length line ≤ 256 → (None ≡ lined_of line (length out)) × ((out ≡ out_of line out) × (length out < 256))
  unfolding lined_of out_of
  too_short h l = rw (lt-ltb (length out) (length line)) (refl, (refl, omega arith))

  pub delivered : (after : List ℕ) (n : ℕ) → length line ≤ length out → length after ≡ length out → Put out 0 line n after
      → (Some n ≡ lined_of line (length out)) × ((after ≡ out_of line out) × IsPrefixLen n after)
  unfolding lined_of out_of
  delivered after n h l p =
      let whole : after ≡ line ++ drop (length line) out = rw zero-add at (put_whole p) in
      rw (le-ltb (length out) (length line)) (rw (p.count, zero-add), (whole, (omega (arith, p.count), put_counted p)))

  -- an answer that counts bytes has put the line there, whatever test says that an output is short
  pub put_by : (short : Bool) (after : List ℕ) (n : ℕ) → Some n ≡ cond short None (Some (length line))
      → after ≡ cond short out (line ++ drop (length line) out) → Put out 0 line n after
  put_by true after n e o = cc
  put_by false after n e o =
      let all : n ≡ length line = cc in
      record { front = rw (all, o, take-append_seam); rest = rw (all, o, drop-append_seam); count = rw (all, zero-add) }

  pub line_put : (after : List ℕ) (n : ℕ) → Some n ≡ lined_of line (length out) → after ≡ out_of line out → Put out 0 line n after
  unfolding lined_of out_of
  line_put after n e o = put_by (ltb (length out) (length line)) after n e o

  -- an output of 256 bytes is never too short for a line
  pub always_put : (after : List ℕ) (r : Option ℕ) → 256 ≤ length after → LineFits r after → r ≡ lined_of line (length out) → after ≡ out_of line out
      → Put out 0 line (unwrap_or r 0) after
  always_put after None h f e o = absurd (omega (arith, f))
  always_put after (Some n) h f e o = line_put after n e o
