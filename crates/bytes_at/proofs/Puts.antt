-- Bytes put one after another are put as one. Assumes nothing.
use Prim.Native.Nat.{ℕ, ◌+◌, ◌-◌, ◌≤◌}
use native.Mathlib.Omega.{arith}
use native.Mathlib.Nat.{zero-add, le_refl}
use mathlib.Core.Path.{◌≡◌, refl, sym, ◌∙◌}
use mathlib.Core.List.{List, [], ◌++◌, append_assoc, append-nil}
use lib.ListN.{length, take, drop, length-append, length-drop, take-append-drop, drop_of_length-le}
use lib.Seq.{paste, take-paste, drop-paste, take-length, take_all, drop-drop}
use borrow.Rule.Slice.PartMut.{put_mid}
use Rattle.std.proofs.lemmas.Slice.{take-put_mid, drop-put_mid}
use Rattle.bytes_at.specs.Put.{Put}

-- a copy to the front of what stands from `at` on; `part` is what stands there then
module _ (d : List ℕ) (at : ℕ) (s part : List ℕ) (fits : at + length s ≤ length d)
    (copy : part ≡ take (length s) s ++ drop (length s) (take (length d - at) (drop at d))) where
  left : length (drop at d) ≤ length d - at
  left = omega (arith, length-drop at d)

  pasted : take at d ++ (part ++ drop (length d - at) (drop at d)) ≡ paste d at s (length s)
  pasted =
      rw (drop_of_length-le (drop at d) {i = length d - at} left, append-nil, copy, take_all (length d - at) (drop at d) left, drop-drop (length s) at d)
      (sym (append_assoc (take at d) (take (length s) s) (drop (at + length s) d)))

  pub copied : (n : ℕ) → n ≡ length s → Put d at s (at + n) (take at d ++ (part ++ drop (length d - at) (drop at d)))
  copied n all =
      let h : at ≤ length d = omega arith in
      record {
        front = rw (all, pasted, take-paste d at s (length s) h (le_refl (length s)), take-length);
        rest = rw (all, pasted, drop-paste d at s (length s) h (le_refl (length s)));
        count = rw all;
      }

-- a copy to as many bytes from `at` on; `part` is what stands there then
module _ (d : List ℕ) (at : ℕ) (s part : List ℕ) (fits : at + length s ≤ length d) (copy : part ≡ s) where
  pub copied_in : (n k : ℕ) → n ≡ at + length s → k ≡ n - at → Put d at s n (put_mid at k d part)
  copied_in n k end size =
      let h : at ≤ length d = omega arith in
      let same : length part ≡ length s = rw copy in
      record {
        front = take-put_mid at k d part n (omega arith) h ∙ rw copy;
        rest = drop-put_mid at k d part n (omega arith) h (omega arith);
        count = end;
      }

-- one run of bytes behind another
pub put_put : {a b c x y : List ℕ} {at m n : ℕ} → Put a at x m b → Put b m y n c → Put a at (x ++ y) n c
put_put {a} {b} {c} {x} {y} {at} {m} {n} p q =
    record {
      front = q.front ∙ rw (p.front, append_assoc);
      rest = q.rest ∙ rw (q.count, ← drop-drop (length y) m b, ← drop-drop (length y) m a, p.rest);
      count = rw length-append (omega arith);
    }

-- the whole buffer
pub put_whole : {a b x : List ℕ} {at n : ℕ} → Put a at x n b → b ≡ take at a ++ x ++ drop (at + length x) a
put_whole {a} {b} {x} {at} {n} p = sym (take-append-drop n b) ∙ rw (p.front, p.rest, p.count)

-- how many bytes stand from the start on
pub put_counted : {a b x : List ℕ} {n : ℕ} → Put a 0 x n b → n ≡ length (take n b)
put_counted p = p.count ∙ rw (p.front, zero-add)

-- nothing put
pub put_none : (out : List ℕ) (at : ℕ) → Put out at [] at out
put_none out at = record { front = sym (append-nil (take at out)); rest = refl; count = omega arith }
