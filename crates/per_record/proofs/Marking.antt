-- What a mark tells is what was put into it, the kind of its class and the event's number; and an access is of a frozen record where the
-- record's mark is there. Assumes nothing.
use mathlib.Core.Path.{◌≡◌, refl}
use mathlib.Core.Bool.{Bool, false}
use Prim.Native.Nat.{ℕ, ◌/◌, ◌%◌, ◌<◌}
use native.Mathlib.Omega.{arith}
use Rattle.std.specs.Prelude.{Option, None, Some}
use Rattle.std.specs.Option.{is_some, MatchOption}
use Rattle.std.proofs.lemmas.Nat.{from_le_bytes-to_le_bytes_4}
use Rattle.jobfile.specs.declared.event.Access.{Access}
use Rattle.jobfile.specs.declared.event.Kind.{Kind}
use Rattle.jobfile.specs.declared.event.Kind.TheVariants.{Write, Read}
use Rattle.races.specs.Mark.{rank}
use Rattle.per_record.specs.Marks.{Marks, mark_in, of_marked, kind_of, low_bytes, of_low_bytes}

pub kind_back : (kind : Kind) → kind_of (rank kind) ≡ kind
kind_back Write = refl
kind_back Read = refl

-- the fourth byte is 0
pub low_bytes_back : (n : ℕ) → n < 16777216 → of_low_bytes (low_bytes n) ≡ n
low_bytes_back n fits =
    let high : n / 16777216 % 256 ≡ 0 = omega arith in
    omega (arith, high, from_le_bytes-to_le_bytes_4 n (omega arith))

-- what the test says of an access is what the definition says of it
pub frozen_to : (M : Marks) (a : Option Access) (r : Bool) (says : Access → Type 0) → MatchOption a (r ≡ false) says
    → ((to : Access) → says to → r ≡ is_some (mark_in M to.«record»)) → r ≡ of_marked M a
frozen_to M None r says e each = e
frozen_to M (Some to) r says e each = each to e
