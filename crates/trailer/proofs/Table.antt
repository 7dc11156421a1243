-- Tables: at most one row is given, how a table is gone through, and that an answer which is right where it refuses and where it takes is
-- exact. Assumes nothing.
use Prim.Native.Nat.{ℕ}
use mathlib.Core.Path.{◌≡◌, refl, sym, ap, ◌∙◌}
use mathlib.Core.Logic.{◌⊎◌, inl, inr, ◌↔◌}
use mathlib.Core.List.{[], ◌∷◌, ◌++◌}
use native.Mathlib.Omega.{arith}
use Rattle.trailer.specs.declared.fault.Fault.{Fault}
use Rattle.trailer.specs.Numbers.{number_of}
use Rattle.trailer.proofs.OneNumber.{one_kind, from_one}
use Rattle.trailer.specs.Table.{Rows, row, Nowhere, First, Table, Given, NoRow, Exact, ExactNumbers}

-- two rows that are both given are the same
first_once : {rows : Rows} {n m n' m' : ℕ} → First rows n m → First rows n' m' → (n ≡ n') × (m ≡ m')
first_once {rows} {n} {m} {n'} {m'} F G =
    let e : m ≡ m' = omega (arith, F.earliest n' m' G.holds, G.earliest n m F.holds) in
    (omega (arith, F.least n' (rw e G.holds), G.least n (rw (← e) F.holds)), e)

pub given_once : (table : Table) (n m n' m' : ℕ) → Given table n m → Given table n' m' → (n ≡ n') × (m ≡ m')
given_once [] n m n' m' g h = absurd g
given_once (rows ∷ table) n m n' m' (inl F) (inl G) = first_once F G
given_once (rows ∷ table) n m n' m' (inl F) (inr h) = absurd (h.0 n m F.holds)
given_once (rows ∷ table) n m n' m' (inr g) (inl G) = absurd (g.0 n' m' G.holds)
given_once (rows ∷ table) n m n' m' (inr g) (inr h) = given_once table n m n' m' g.1 h.1

-- where no row holds none is given
pub none_given : (table : Table) (n m : ℕ) → NoRow table → ¬ Given table n m
none_given [] n m z g = g
none_given (rows ∷ table) n m z (inl F) = z.0 n m F.holds
none_given (rows ∷ table) n m z (inr g) = none_given table n m z.1 g.1

-- a row of no event, where it holds and where it does not
pub first_row : {C : Type 0} (k : ℕ) → C → First (row k C) k 0
first_row k c = record { holds = (refl, refl, c); earliest = λ n m x. omega arith; least = λ n x. omega arith }

pub not_row : {C : Type 0} {k : ℕ} → ¬ C → Nowhere (row k C)
not_row f n m x = f x.2

-- one table behind another
pub given_front : (front back : Table) (n m : ℕ) → Given front n m → Given (front ++ back) n m
given_front [] back n m g = absurd g
given_front (rows ∷ front) back n m (inl F) = inl F
given_front (rows ∷ front) back n m (inr g) = inr (g.0, given_front front back n m g.1)

pub given_back : (front back : Table) (n m : ℕ) → NoRow front → Given back n m → Given (front ++ back) n m
given_back [] back n m z g = g
given_back (rows ∷ front) back n m z g = inr (z.0, given_back front back n m z.1 g)

pub none_both : (front back : Table) → NoRow front → NoRow back → NoRow (front ++ back)
none_both [] back y z = z
none_both (rows ∷ front) back y z = (y.0, none_both front back y.1 z)

pub none_ahead : (front back : Table) → NoRow (front ++ back) → NoRow front
none_ahead [] back n = tt
none_ahead (rows ∷ front) back (f, n) = (f, none_ahead front back n)

pub none_behind : (front back : Table) → NoRow (front ++ back) → NoRow back
none_behind [] back z = z
none_behind (rows ∷ front) back z = none_behind front back z.1

-- how an answer ends: what a call gives where no row holds, or the refusal that is given
module _ {A : Type 0} where
  abbrev pub Ends : Table → A → (Fault → ℕ → A) → A → Type 0
  Ends table taken refused answer = ((answer ≡ taken) × NoRow table) ⊎ ((f : Fault) × (m : ℕ) × (answer ≡ refused f m) × Given table (number_of f) m)

  -- an answer of a table stands behind one of which no row holds
  pub ends_behind : (front back : Table) (taken : A) (refused : Fault → ℕ → A) (answer : A) → NoRow front → Ends back taken refused answer
      → Ends (front ++ back) taken refused answer
  ends_behind front back taken refused answer none (inl (e, rest)) = inl (e, none_both front back none rest)
  ends_behind front back taken refused answer none (inr (f, m, e, g)) = inr (f, m, e, given_back front back (number_of f) m none g)

  -- the same by kind: an exact answer is the refusal of a kind and of event m exactly if the table gives the kind's number and m
  pub exact_of_kind : {table : Table} {taken : A} {refused : Fault → ℕ → A} {answer : A} → Exact table taken refused answer
      → (f : Fault) (m : ℕ) → (answer ≡ refused f m) ↔ Given table (number_of f) m
  exact_of_kind E f m = (
    λ e. (E.refusal (number_of f) m).0 (f, refl, e),
    λ g. let s = (E.refusal (number_of f) m).1 g in rw (← one_kind s.0 f s.1) s.2,
  )

  -- of answers whose refusals tell their number and their event
  module _ (table : Table) (taken : A) (refused : Fault → ℕ → A) (answer : A) (number event : A → ℕ)
      (told : (f : Fault) (m : ℕ) → (number (refused f m) ≡ number_of f) × (event (refused f m) ≡ m)) where
    pub exact : ((f : Fault) (m : ℕ) → ¬ (taken ≡ refused f m)) → Ends table taken refused answer → Exact table taken refused answer
    exact apart (inl (e, none)) = record {
      refusal = λ n m. (λ r. absurd (apart r.0 m (sym e ∙ r.2)), λ g. absurd (none_given table n m none g));
      none = (λ r. none, λ r. e);
    }
    exact apart (inr (k, i, e, G)) = record {
      refusal = λ n m. (
        λ r.
            let same : refused r.0 m ≡ refused k i = sym r.2 ∙ e in
            let x : number_of r.0 ≡ number_of k = sym (told r.0 m).0 ∙ ap number same ∙ (told k i).0 in
            let y : m ≡ i = sym (told r.0 m).1 ∙ ap event same ∙ (told k i).1 in
            rw (← r.1, x, y) G,
        λ g. let o = given_once table (number_of k) i n m G g in (k, o.0, rw (← o.1) e),
      );
      none = (λ r. absurd (apart k i (sym r ∙ e)), λ none. absurd (none_given table (number_of k) i none G));
    }

    pub exact_numbers : number taken ≡ 0 → Ends table taken refused answer → ExactNumbers table (number answer) (event answer)
    exact_numbers zeros (inl (e, none)) =
        let z : number answer ≡ 0 = ap number e ∙ zeros in
        record {
          refusal = λ n m. (λ r. absurd (omega arith), λ g. absurd (none_given table n m none g));
          none = (λ r. none, λ r. z);
        }
    exact_numbers zeros (inr (k, i, e, G)) =
        let p = from_one k in
        let x : number answer ≡ number_of k = ap number e ∙ (told k i).0 in
        let y : event answer ≡ i = ap event e ∙ (told k i).1 in
        record {
          refusal = λ n m. (
            λ r. rw (sym r.1 ∙ x, sym r.2 ∙ y) G,
            λ g. let o = given_once table (number_of k) i n m G g in (omega arith, x ∙ o.0, y ∙ o.1),
          );
          none = (λ r. absurd (omega arith), λ none. absurd (none_given table (number_of k) i none G));
        }
