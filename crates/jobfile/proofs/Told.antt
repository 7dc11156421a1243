-- The kind and the second byte as one number tell the same event as the two apart, and so do all four bytes as one. Assumes nothing.
use mathlib.Core.Path.{◌≡◌, refl, sym, ◌∙◌}
use mathlib.Core.Logic.{◌≢◌, ◌⊎◌, ⊎_elim}
use mathlib.Core.List.{List}
use mathlib.Core.Bool.{Bool, true, false, cond, ◌&&◌, ◌||◌}
use Prim.Native.Nat.{ℕ, ◌+◌, ◌*◌, ◌/◌, ◌%◌, ◌<◌, ◌≤◌}
use native.Mathlib.Nat.{add-zero}
use native.Mathlib.Omega.{arith}
use lib.Dec.{eqb, ltb}
use lib.ListN.{get_or}
use lib.Arith.{digits_div, digits_mod}
use borrow.Author.Tests.{ne_eqb, lt-ltb, eqb-true, eqb-false}
use Rattle.jobfile.specs.declared.event.Event.{Event}
use Rattle.jobfile.specs.declared.event.Event.TheVariants.{Read, Write}
use Rattle.std.specs.Prelude.{Result, Ok, Err}
use Rattle.trailer.specs.declared.fault.Fault.{Fault}
use Rattle.trailer.specs.declared.fault.Fault.TheVariants.{NoEvent}
use Rattle.jobfile.specs.declared.open.Tasks.{Tasks}
use Rattle.jobfile.proofs.Tests.{either}
use Rattle.jobfile.specs.Coding.{event_of, told_of, decode_at}
use Rattle.trailer.specs.Trailer.{word_at}
use Rattle.jobfile.specs.Tasks.{bare_event, record_fault, step_on, step_of, Leads}

abbrev refused : Result Event Fault
refused = Err NoEvent

refused_both : (t : Bool) → cond t refused refused ≡ refused
refused_both true = refl
refused_both false = refl

refused_all : (a b : Bool) → cond a refused (cond b refused refused) ≡ refused
refused_all true b = refl
refused_all false b = refused_both b

-- a kind that is none of the five is refused
module _ (kind number : ℕ) (a : kind ≢ 1) (b : kind ≢ 2) (c : kind ≢ 3) (d : kind ≢ 4) (e : kind ≢ 5) where
  none_told : told_of kind number ≡ Err NoEvent
  unfolding told_of
  none_told = rw (ne_eqb kind 1 a, ne_eqb kind 2 b, ne_eqb kind 3 c, ne_eqb kind 4 d, ne_eqb kind 5 e)

  none_is : event_of kind 0 number ≡ Err NoEvent
  unfolding event_of
  none_is = go (eqb kind 0) refl
    where
      go : (t : Bool) → eqb kind 0 ≡ t → event_of kind 0 number ≡ Err NoEvent
      go true q = rw (eqb-true kind 0 q)
      go false q =
          let n : kind ≢ 0 = eqb-false kind 0 q in
          rw (q, lt-ltb 5 kind (omega arith))

-- with a zero byte
told_zero : (kind number : ℕ) → told_of kind number ≡ event_of kind 0 number
unfolding told_of event_of
told_zero kind number = go (eqb kind 1) refl (eqb kind 2) refl (eqb kind 3) refl (eqb kind 4) refl (eqb kind 5) refl
  where
    go : (a : Bool) → eqb kind 1 ≡ a → (b : Bool) → eqb kind 2 ≡ b → (c : Bool) → eqb kind 3 ≡ c → (d : Bool) → eqb kind 4 ≡ d → (e : Bool) → eqb kind 5 ≡ e
        → told_of kind number ≡ event_of kind 0 number
    go true p b q c r d s e t = rw (eqb-true kind 1 p)
    go false p true q c r d s e t = rw (eqb-true kind 2 q)
    go false p false q true r d s e t = rw (eqb-true kind 3 r)
    go false p false q false r true s e t = rw (eqb-true kind 4 s)
    go false p false q false r false s true t = rw (eqb-true kind 5 t)
    go false p false q false r false s false t =
        none_told kind number (eqb-false kind 1 p) (eqb-false kind 2 q) (eqb-false kind 3 r) (eqb-false kind 4 s) (eqb-false kind 5 t)
        ∙ sym (none_is kind number (eqb-false kind 1 p) (eqb-false kind 2 q) (eqb-false kind 3 r) (eqb-false kind 4 s) (eqb-false kind 5 t))

pub told_is : (kind second number : ℕ) → kind < 256 → told_of (kind + 256 * second) number ≡ event_of kind second number
unfolding event_of
told_is kind second number h = go (eqb second 0) refl
  where
    go : (t : Bool) → eqb second 0 ≡ t → told_of (kind + 256 * second) number ≡ event_of kind second number
    go true q = rw (eqb-true second 0 q, add-zero) (told_zero kind number)
    go false q =
        let n : second ≢ 0 = eqb-false second 0 q in
        none_told (kind + 256 * second) number (omega arith) (omega arith) (omega arith) (omega arith) (omega arith)
        ∙ rw q (sym (refused_all (eqb kind 0) (ltb 5 kind)))

-- all four bytes as one number: the record above, the kind and the second byte below
module _ (bytes : List ℕ) (at : ℕ) (kind : get_or bytes at 0 < 256) (second : get_or bytes (at + 1) 0 < 256) where
  low : ℕ
  low = get_or bytes at 0 + 256 * get_or bytes (at + 1) 0

  high : ℕ
  high = get_or bytes (at + 2) 0 + 256 * get_or bytes (at + 3) 0

  pub word_told : (w : ℕ) → w ≡ word_at bytes at → decode_at bytes at ≡ told_of (w % 65536) (w / 65536)
  unfolding low high word_at
  word_told w e =
      let split : w ≡ high * 65536 + low = omega (arith, e) in
      let below : low < 65536 = omega arith in
      rw (split, digits_div high below, digits_mod high below) (sym (told_is (get_or bytes at 0) (get_or bytes (at + 1) 0) high kind))

-- a number below 4, but 0, is a kind with no record
pub told_small : (w : ℕ) → w ≢ 0 → w < 4 → told_of (w % 65536) (w / 65536) ≡ Ok (bare_event (eqb w 1) (eqb w 2))
unfolding told_of
told_small w z h = go (eqb w 1) refl (eqb w 2) refl
  where
    go : (a : Bool) → eqb w 1 ≡ a → (b : Bool) → eqb w 2 ≡ b → told_of (w % 65536) (w / 65536) ≡ Ok (bare_event (eqb w 1) (eqb w 2))
    go true p b q = rw (eqb-true w 1 p)
    go false p true q = rw (eqb-true w 2 q)
    go false p false q =
        let a : w ≢ 1 = eqb-false w 1 p in
        let b : w ≢ 2 = eqb-false w 2 q in
        let c : w ≡ 3 = omega arith in
        rw c

-- of any other number only an access can be told
pub told_over : (w : ℕ) → (w ≡ 0) ⊎ (4 ≤ w) → (eqb (w % 65536) 4 || eqb (w % 65536) 5) ≡ false → told_of (w % 65536) (w / 65536) ≡ Err NoEvent
unfolding told_of
told_over w o n = rw (bare 1 (omega arith), bare 2 (omega arith), bare 3 (omega arith), n)
  where
    bare : (k : ℕ) → (0 < k) × (k < 4) → (eqb (w % 65536) k && eqb (w / 65536) 0) ≡ false
    bare k l = go (eqb (w % 65536) k) refl (eqb (w / 65536) 0) refl
      where
        go : (a : Bool) → eqb (w % 65536) k ≡ a → (b : Bool) → eqb (w / 65536) 0 ≡ b → (eqb (w % 65536) k && eqb (w / 65536) 0) ≡ false
        go true p true q =
            let e : w % 65536 ≡ k = eqb-true (w % 65536) k p in
            let z : w / 65536 ≡ 0 = eqb-true (w / 65536) 0 q in
            absurd (⊎_elim (λ x. omega arith) (λ x. omega arith) o)
        go true p false q = rw (p, q)
        go false p b q = rw p

-- reads and writes lead to the same
pub told_access : (records n : ℕ) (tasks : List Bool) (kind number : ℕ) → (eqb kind 4 || eqb kind 5) ≡ true
    → (s : Result Tasks Fault) → Leads s records tasks n (Ok (Read number)) → Leads s records tasks n (told_of kind number)
unfolding told_of step_on record_fault
told_access records n tasks kind number t s h =
    ⊎_elim (λ p. rw (eqb-true kind 4 p) h) (λ q. rw (eqb-true kind 5 q) (written s h)) (either (eqb kind 4) (eqb kind 5) t)
  where
    same : step_of records tasks n (Ok (Write number)) ≡ step_of records tasks n (Ok (Read number))
    same = refl

    written : (s : Result Tasks Fault) → Leads s records tasks n (Ok (Read number)) → Leads s records tasks n (Ok (Write number))
    written (Ok t) h = same ∙ h
    written (Err f) (h, a, b) = (same ∙ h, a, b)
