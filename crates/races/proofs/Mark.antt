-- What each return of an access gives by the rules of the mark, and that the buffer has room for its places. Assumes nothing.
use mathlib.Core.Path.{◌≡◌, refl, sym}
use mathlib.Core.Logic.{inl, inr}
use mathlib.Core.List.{List}
use mathlib.Core.Bool.{Bool, true, false, cond, false≢true, ◌&&◌, ◌||◌, and-false}
use Prim.Native.Nat.{ℕ, zero, suc, ◌+◌, ◌*◌, ◌≤◌, ◌<◌}
use native.Mathlib.Omega.{arith}
use lib.ListN.{get_or}
use Rattle.races.specs.Entries.{put, Laid}
use Rattle.jobfile.specs.declared.event.Kind.{Kind}
use Rattle.jobfile.specs.declared.event.Kind.TheVariants.{Write, Read}
use Rattle.races.specs.Mark.{rank, is_write, rules, layout, two}
use Rattle.races.specs.Shown.{Names, NamesNone, Accessed}
use Rattle.races.proofs.Entries.{put_held}
use Rattle.races.proofs.Accesses.{accessed_put, accessed_kept}

-- the buffer has room for the places, and no two share an entry
pub places_laid : (records size : ℕ) → records ≤ 4096 → 16384 ≤ size → Laid layout records size
places_laid records size few room = record {
  room = λ r c h. omega (arith, h.on_its_record, h.below);
  apart = λ r c q d h k e. (omega (arith, h.on_its_record, k.on_its_record), omega (arith, h.on_its_record, k.on_its_record));
  strands_apart = λ r c q d h k e. omega (arith, h.on_its_record, k.on_its_record);
}

-- the class whose last access is kept conflicts with itself
pub last_clashes : (c : ℕ) → is_write c ≡ true → (is_write c || is_write c) ≡ true
last_clashes c t = rw t

-- neither of two places that are both told before names anything
pub none_told : (b : ℕ) (d : ℕ) → d < 2 → ((is_write d || is_write b) && two false false d) ≡ false
none_told b zero l = refl
none_told b (suc zero) l = and-false (is_write b)
none_told b (suc (suc d)) l = absurd (omega arith)

-- a read races with nothing but the last write
pub read_none : (stood : Bool) (d : ℕ) → d < 2 → ((is_write d || is_write 1) && two false stood d) ≡ false
read_none stood zero l = refl
read_none stood (suc zero) l = refl
read_none stood (suc (suc d)) l = absurd (omega arith)

-- the last write is named if it is parallel, whatever stands
pub last_write_named : (b : ℕ) (stood : Bool) → Names rules b (two true stood) 0
last_write_named b stood = record { below = omega arith; clash = refl; parallel = refl; smaller = λ d l. absurd (omega arith) }

-- the standing read is, by a write, if only that is parallel
pub standing_read_named : Names rules 0 (two false true) 1
standing_read_named = record { below = omega arith; clash = refl; parallel = refl; smaller = λ d l. let z : d ≡ 0 = omega arith in rw z }

module _ {P : List ℕ} {r at strand : ℕ} where
  -- An access that races with nothing goes into the place of its kind; a read that does not come to stand puts the standing one again.
  pub access_put : (kind : Kind) (stood : Bool) → NamesNone rules (rank kind) (two false stood)
      → Accessed rules layout (two false stood) P r (rank kind) at strand
      (put P (8192 * rank kind + r) 4096 (cond stood (get_or P (8192 * rank kind + r) 0) at) (cond stood (get_or P (8192 * rank kind + r + 4096) 0) strand))
  access_put Write false none_named = accessed_put {R = rules} {Y = layout} {told = two false false} (omega arith) none_named (inl refl)
  access_put Write true none_named = absurd (false≢true (sym (none_named 1 (omega arith))))
  access_put Read false none_named = accessed_put {R = rules} {Y = layout} {told = two false false} (omega arith) none_named (inr refl)
  access_put Read true none_named =
      rw (put_held P (8192 * 1 + r) 4096) (accessed_kept {R = rules} {Y = layout} {told = two false true} {P = P} none_named (refl, refl))
