-- A text is at the start of an output that has room for every text; one that has not is left alone. Assumes nothing.
use Prim.Native.Nat.{ℕ, ◌≤◌, ◌<◌}
use native.Mathlib.Omega.{arith}
use native.Mathlib.Nat.{zero-add}
use mathlib.Core.Path.{◌≡◌, refl}
use mathlib.Core.List.{List, ◌++◌}
use lib.Dec.{ltb}
use lib.ListN.{length, drop, length-take}
use borrow.Author.Tests.{lt-ltb, le-ltb}
use Rattle.io.specs.Counts.{IsPrefixLen}
use Rattle.bytes_at.specs.Put.{Put}
use Rattle.bytes_at.proofs.Puts.{put_whole, put_counted}
use Rattle.std.specs.Prelude.{Option, None, Some}
use Rattle.std.specs.Option.{unwrap_or}
use Rattle.line.proofs.Delivered.{put_by}
use Rattle.lines.specs.Lines.{lined_of, out_of, LinesFit}

module _ (text out : List ℕ) where
  pub too_short : length out < 397495 → (None ≡ lined_of text (length out)) × (out ≡ out_of text out)
  unfolding lined_of out_of
  too_short h = rw (lt-ltb (length out) 397495) (refl, refl)

  pub delivered : (after : List ℕ) (n : ℕ) → 397495 ≤ length out → Put out 0 text n after
      → (Some n ≡ lined_of text (length out)) × ((after ≡ out_of text out) × IsPrefixLen n after)
  unfolding lined_of out_of
  delivered after n h p =
      let whole : after ≡ text ++ drop (length text) out = rw zero-add at (put_whole p) in
      let counted = put_counted p in
      rw (le-ltb (length out) 397495) (rw (p.count, zero-add), (whole, (omega (arith, length-take n after), counted)))

  -- an answer that counts bytes has put the text there
  pub text_put : (after : List ℕ) (n : ℕ) → Some n ≡ lined_of text (length out) → after ≡ out_of text out → Put out 0 text n after
  unfolding lined_of out_of
  text_put after n e o = put_by text out (ltb (length out) 397495) after n e o

  -- an output that has room for every text is never too short
  pub always_put : (after : List ℕ) (r : Option ℕ) → 397495 ≤ length after → LinesFit r after → r ≡ lined_of text (length out) → after ≡ out_of text out
      → Put out 0 text (unwrap_or r 0) after
  always_put after None h f e o = absurd (omega (arith, f))
  always_put after (Some n) h f e o = text_put after n e o
