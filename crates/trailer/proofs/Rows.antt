-- Rows 1 to 7: the head of a file is refused by the first that holds, and read by the trailer's words where none does. Assumes nothing.
use Prim.Native.Nat.{ℕ, zero, suc, ◌*◌, ◌-◌, ◌≤◌, ◌<◌}
use mathlib.Core.Path.{◌≡◌, refl, sym, ◌∙◌}
use mathlib.Core.Logic.{◌⊎◌, inl, inr}
use mathlib.Core.List.{List, [], ◌∷◌}
use mathlib.Core.Bool.{Bool, true, false, cond, false≢true}
use lib.ListN.{length, get_or, take, drop}
use lib.Seq.{length-take-le}
use lib.Dec.{eqb, ltb}
use native.Mathlib.Omega.{arith}
use borrow.Author.Tests.{eqb-true, eqb-false, ltb-true, ltb-false}
use Rattle.std.specs.Prelude.{nat_eq, nat_le, ◌&&◌, Result, Ok, Err}
use Rattle.std.specs.List.{ends_with}
use Rattle.std.specs.Bool.{Decides}
use Rattle.std.specs.Cmp.Lexicographic.{bytes_decides}
use Rattle.std.proofs.lemmas.Bool.{leb-true, leb-false}
use Rattle.std.proofs.lemmas.Result.{IfOk-at_ok}
use Rattle.trailer.specs.declared.Head.{Head}
use Rattle.trailer.specs.declared.fault.Fault.{Fault}
use Rattle.trailer.specs.declared.fault.Fault.TheVariants.{Short, Unmarked, RecordCount, EventCount, Distance, Outside, Name}
use Rattle.trailer.specs.Numbers.{number_of}
use Rattle.trailer.specs.Trailer.{mark, printable, start_in, head_named, head_sized, head_of, HeadFits}
use Rattle.trailer.specs.Table.{Rows, row, Nowhere, Table, Given, NoRow}
use Rattle.trailer.specs.Rows.{distance_of, count_of, records_of, start_of, RecordCountOut, EventCountOver, ByteOut, NameOut, head_table}
use Rattle.trailer.proofs.Table.{first_row, not_row}

-- a file of four bytes and more ends with the mark exactly if its last four bytes are the mark
pub marked_is : (file : List ℕ) → Decides (ends_with nat_eq file mark) (mark ≡ drop (length file - 4) file)
marked_is file = bytes_decides mark (drop (length file - 4) file)

unmarked : (file : List ℕ) → ends_with nat_eq file mark ≡ false → ¬ (drop (length file - 4) file ≡ mark)
unmarked file e m = false≢true (sym e ∙ (marked_is file).1 (sym m))

unprintable : (xs : List ℕ) → printable xs ≡ false → ByteOut xs
unfolding printable
unprintable [] e = absurd (false≢true (sym e))
unprintable (x ∷ xs) e = by (nat_le 32 x) refl (nat_le x 126) refl e (unprintable xs)
  where
    by : (a : Bool) → nat_le 32 x ≡ a → (b : Bool) → nat_le x 126 ≡ b → ((a && b) && printable xs) ≡ false
        → (printable xs ≡ false → ByteOut xs) → ByteOut (x ∷ xs)
    by false p b q z rest = (0, omega arith, inl (leb-false 32 x p))
    by true p false q z rest = (0, omega arith, inr (leb-false x 126 q))
    by true p true q z rest = let r = rest z in (suc r.0, omega arith, r.2)

printed : (xs : List ℕ) → printable xs ≡ true → ¬ ByteOut xs
unfolding printable
printed [] e o = omega arith
printed (x ∷ xs) e o = by (nat_le 32 x) refl (nat_le x 126) refl e (printed xs) o.0 o.1 o.2
  where
    by : (a : Bool) → nat_le 32 x ≡ a → (b : Bool) → nat_le x 126 ≡ b → ((a && b) && printable xs) ≡ true
        → (printable xs ≡ true → ¬ ByteOut xs) → (i : ℕ) → i < length (x ∷ xs) → (get_or (x ∷ xs) i 0 < 32) ⊎ (126 < get_or (x ∷ xs) i 0) → ⊥
    by false p b q z rest i l o = false≢true z
    by true p false q z rest i l o = false≢true z
    by true p true q z rest zero l (inl o) = omega (arith, leb-true 32 x p)
    by true p true q z rest zero l (inr o) = omega (arith, leb-true x 126 q)
    by true p true q z rest (suc i) l o = rest z (i, omega arith, o)

-- numbers that are not apart are the same
stable : (m n : ℕ) → ¬ ¬ (m ≡ n) → m ≡ n
stable m n f = by (eqb m n) refl
  where
    by : (b : Bool) → eqb m n ≡ b → m ≡ n
    by true q = eqb-true m n q
    by false q = absurd (f (eqb-false m n q))

mark_stable : (file : List ℕ) → ¬ ¬ (drop (length file - 4) file ≡ mark) → drop (length file - 4) file ≡ mark
mark_stable file f = by (ends_with nat_eq file mark) refl
  where
    by : (b : Bool) → ends_with nat_eq file mark ≡ b → drop (length file - 4) file ≡ mark
    by true q = sym ((marked_is file).0 q)
    by false q = absurd (f (unmarked file q))

-- within the bounds of rows 3 and 7
pub count_in : (n : ℕ) → ¬ (n ≡ 0) → n ≤ 4096 → ¬ RecordCountOut n
count_in n z h (inl e) = z e
count_in n z h (inr l) = omega arith

pub name_in : (name : List ℕ) → length name ≤ 64 → printable name ≡ true → ¬ NameOut name
name_in name h e (inl l) = omega arith
name_in name h e (inr b) = printed name e b

pub name_out : (name : List ℕ) → printable name ≡ false → NameOut name
name_out name e = inr (unprintable name e)

name_printable : (name : List ℕ) → ¬ NameOut name → printable name ≡ true
name_printable name f = by (printable name) refl
  where
    by : (b : Bool) → printable name ≡ b → printable name ≡ true
    by true q = q
    by false q = absurd (f (name_out name q))

module _ (file : List ℕ) where
  abbrev before : ℕ
  before = length file - 16

  abbrev named : List ℕ
  named = take (start_of file) file

  abbrev whole : Result Head Fault
  whole = Ok (record { start = start_of file; count = count_of file; records = records_of file })

  -- how the head ends by a table: read by the trailer's words, or refused by the row that is given
  abbrev pub HeadEnds : Table → Result Head Fault → Type 0
  HeadEnds table h = ((h ≡ whole) × NoRow table) ⊎ ((f : Fault) × (h ≡ Err f) × Given table (number_of f) 0)

  -- past rows that do not hold
  past : (rows : Rows) (table : Table) (h : Result Head Fault) → Nowhere rows → HeadEnds table h → HeadEnds (rows ∷ table) h
  past rows table h z (inl (e, none)) = inl (e, (z, none))
  past rows table h z (inr (f, e, g)) = inr (f, e, inr (z, g))

  -- rows 3 to 7
  abbrev sizes : Table
  sizes =
      row 3 (RecordCountOut (records_of file))
      ∷ row 4 (EventCountOver (count_of file))
      ∷ row 5 (¬ (distance_of file ≡ 4 * count_of file))
      ∷ row 6 (before < distance_of file)
      ∷ row 7 (NameOut named)
      ∷ []

  sized : HeadEnds sizes (head_sized file before (distance_of file) (count_of file) (records_of file))
  unfolding head_sized start_in
  sized =
      by (eqb (records_of file) 0) refl (ltb 4096 (records_of file)) refl (ltb 1000000 (count_of file)) refl
      (eqb (distance_of file) (4 * count_of file)) refl (ltb before (distance_of file)) refl (ltb 64 (start_of file)) refl (printable named) refl
    where
      all : length named ≡ start_of file
      all = length-take-le (start_of file) file (omega arith)

      few : eqb (records_of file) 0 ≡ false → ltb 4096 (records_of file) ≡ false → Nowhere (row 3 (RecordCountOut (records_of file)))
      few p q = not_row (count_in (records_of file) (eqb-false (records_of file) 0 p) (ltb-false 4096 (records_of file) q))

      not_over : ltb 1000000 (count_of file) ≡ false → Nowhere (row 4 (EventCountOver (count_of file)))
      not_over r = not_row (λ l. omega (arith, ltb-false 1000000 (count_of file) r))

      same : eqb (distance_of file) (4 * count_of file) ≡ true → Nowhere (row 5 (¬ (distance_of file ≡ 4 * count_of file)))
      same s = not_row (λ n. n (eqb-true (distance_of file) (4 * count_of file) s))

      inside : ltb before (distance_of file) ≡ false → Nowhere (row 6 (before < distance_of file))
      inside t = not_row (λ l. omega (arith, ltb-false before (distance_of file) t))

      by : (a : Bool) → eqb (records_of file) 0 ≡ a → (b : Bool) → ltb 4096 (records_of file) ≡ b → (c : Bool) → ltb 1000000 (count_of file) ≡ c
          → (d : Bool) → eqb (distance_of file) (4 * count_of file) ≡ d → (e : Bool) → ltb before (distance_of file) ≡ e
          → (f : Bool) → ltb 64 (start_of file) ≡ f → (g : Bool) → printable named ≡ g
          → HeadEnds sizes
          (head_named file
          (cond a (Err RecordCount) (cond b (Err RecordCount) (cond c (Err EventCount)
          (cond d (cond e (Err Outside) (cond f (Err Name) (Ok (start_of file)))) (Err Distance)))))
          (count_of file) (records_of file))
      by true p b q c r d s e t f u g v = inr (RecordCount, refl, inl (first_row 3 (inl (eqb-true (records_of file) 0 p))))
      by false p true q c r d s e t f u g v = inr (RecordCount, refl, inl (first_row 3 (inr (ltb-true 4096 (records_of file) q))))
      by false p false q true r d s e t f u g v =
          inr (EventCount, refl, inr (few p q, inl (first_row 4 (ltb-true 1000000 (count_of file) r))))
      by false p false q false r false s e t f u g v =
          inr (Distance, refl, inr (few p q, inr (not_over r, inl (first_row 5 (eqb-false (distance_of file) (4 * count_of file) s)))))
      by false p false q false r true s true t f u g v =
          inr (Outside, refl, inr (few p q, inr (not_over r, inr (same s, inl (first_row 6 (ltb-true before (distance_of file) t))))))
      by false p false q false r true s false t true u g v =
          let long : NameOut named = inl (rw all (ltb-true 64 (start_of file) u)) in
          inr (Name, refl, inr (few p q, inr (not_over r, inr (same s, inr (inside t, inl (first_row 7 long))))))
      by false p false q false r true s false t false u false v =
          inr (Name, rw v refl, inr (few p q, inr (not_over r, inr (same s, inr (inside t, inl (first_row 7 (name_out named v)))))))
      by false p false q false r true s false t false u true v =
          let fits = not_row (name_in named (rw all (ltb-false 64 (start_of file) u)) v) in
          inl (rw v refl, (few p q, (not_over r, (same s, (inside t, (fits, tt))))))

  pub head_ends : HeadEnds (head_table file) (head_of file)
  unfolding head_of
  head_ends = by (ltb (length file) 16) refl (ends_with nat_eq file mark) refl
    where
      last : List ℕ
      last = drop (length file - 4) file

      long : ltb (length file) 16 ≡ false → Nowhere (row 1 (length file < 16))
      long p = not_row (λ l. omega (arith, ltb-false (length file) 16 p))

      by : (a : Bool) → ltb (length file) 16 ≡ a → (b : Bool) → ends_with nat_eq file mark ≡ b
          → HeadEnds (head_table file)
          (cond a (Err Short) (cond b (head_sized file before (distance_of file) (count_of file) (records_of file)) (Err Unmarked)))
      by true p b q = inr (Short, refl, inl (first_row 1 (ltb-true (length file) 16 p)))
      by false p false q = inr (Unmarked, refl, inr (long p, inl (first_row 2 (unmarked file q))))
      by false p true q =
          let marked : Nowhere (row 2 (¬ (last ≡ mark))) = not_row (λ n. n (sym ((marked_is file).0 q))) in
          past (row 1 (length file < 16)) (row 2 (¬ (last ≡ mark)) ∷ sizes) _ (long p) (past (row 2 (¬ (last ≡ mark))) sizes _ marked sized)

  -- what a file says of which no row of the head holds
  pub record Words : Type 0 where
    pub long : 16 ≤ length file
    pub marked : drop (length file - 4) file ≡ mark
    pub some : 0 < records_of file
    pub few : records_of file ≤ 4096
    pub not_over : count_of file ≤ 1000000
    pub same : distance_of file ≡ 4 * count_of file
    pub inside : distance_of file ≤ before
    pub short : start_of file ≤ 64
    pub letters : printable named ≡ true

  pub words : NoRow (head_table file) → Words
  words none =
      let under : ¬ (length file < 16) = λ l. none.0 1 0 (refl, refl, l) in
      let zero : ¬ (records_of file ≡ 0) = λ e. none.1.1.0 3 0 (refl, refl, inl e) in
      let many : ¬ (4096 < records_of file) = λ l. none.1.1.0 3 0 (refl, refl, inr l) in
      let over : ¬ (1000000 < count_of file) = λ l. none.1.1.1.0 4 0 (refl, refl, l) in
      let outside : ¬ (before < distance_of file) = λ l. none.1.1.1.1.1.0 6 0 (refl, refl, l) in
      let out : ¬ NameOut named = λ o. none.1.1.1.1.1.1.0 7 0 (refl, refl, o) in
      record {
        long = omega (arith, under);
        marked = mark_stable file (λ f. none.1.0 2 0 (refl, refl, f));
        some = omega (arith, zero);
        few = omega (arith, many);
        not_over = omega (arith, over);
        same = stable (distance_of file) (4 * count_of file) (λ f. none.1.1.1.1.0 5 0 (refl, refl, f));
        inside = omega (arith, outside);
        short = name_short (start_of file) (length-take-le (start_of file) file (omega arith)) out;
        letters = name_printable named out;
      }
    where
      name_short : (n : ℕ) → length named ≡ n → ¬ NameOut named → n ≤ 64
      name_short n e out = let l : ¬ (64 < length named) = λ h. out (inl h) in omega (arith, l)

  -- a head that is whole is that of the trailer's words
  pub head_words : (start count records : ℕ) → head_of file ≡ Ok (record { start = start; count = count; records = records })
      → (start ≡ start_of file) × (count ≡ count_of file) × (records ≡ records_of file) × Words
  head_words start count records e = by head_ends
    where
      by : HeadEnds (head_table file) (head_of file) → (start ≡ start_of file) × (count ≡ count_of file) × (records ≡ records_of file) × Words
      by (inl (w, none)) =
          let same = IfOk-at_ok (λ (h : Head). (h.start ≡ start_of file) × (h.count ≡ count_of file) × (h.records ≡ records_of file)) (sym w ∙ e) (refl, refl, refl) in
          (same.0, same.1, same.2, words none)
      by (inr (f, w, g)) = cc

  up_to_7 : (k : ℕ) → Given (head_table file) k 0 → k ≤ 7
  up_to_7 k (inl F) = omega (arith, F.holds.0)
  up_to_7 k (inr (a, inl F)) = omega (arith, F.holds.0)
  up_to_7 k (inr (a, inr (b, inl F))) = omega (arith, F.holds.0)
  up_to_7 k (inr (a, inr (b, inr (c, inl F)))) = omega (arith, F.holds.0)
  up_to_7 k (inr (a, inr (b, inr (c, inr (d, inl F))))) = omega (arith, F.holds.0)
  up_to_7 k (inr (a, inr (b, inr (c, inr (d, inr (e, inl F)))))) = omega (arith, F.holds.0)
  up_to_7 k (inr (a, inr (b, inr (c, inr (d, inr (e, inr (f, inl F))))))) = omega (arith, F.holds.0)
  up_to_7 k (inr (a, inr (b, inr (c, inr (d, inr (e, inr (f, inr (g, x)))))))) = absurd x

  -- the bounds of the head
  pub head_fits : HeadFits (head_of file) (length file)
  head_fits = by (head_of file) head_ends
    where
      by : (h : Result Head Fault) → HeadEnds (head_table file) h → HeadFits h (length file)
      by h (inl (e, none)) = let w = words none in rw e (w.short, omega arith, w.not_over, w.some, w.few)
      by h (inr (f, e, g)) = rw e (up_to_7 (number_of f) g)
