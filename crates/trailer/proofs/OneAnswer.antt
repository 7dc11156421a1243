-- A table of refusals fits one answer at most. Assumes nothing.
use Prim.Native.Nat.{ℕ}
use mathlib.Core.Path.{◌≡◌, sym, ap, ◌∙◌}
use mathlib.Core.Logic.{◌⊎◌, inl, inr}
use Rattle.trailer.specs.declared.fault.Fault.{Fault}
use Rattle.trailer.specs.Table.{Table, Given, NoRow, Exact}
use Rattle.trailer.proofs.OneNumber.{one_kind}

module _ {A : Type 0} where
  -- Where a row of a table is given, whatever its number, or none holds, two answers that are exact by it are the same.
  pub exact_once : {table : Table} {taken : A} {refused : Fault → ℕ → A} {a b : A} → Exact table taken refused a → Exact table taken refused b
      → ((n : ℕ) × (m : ℕ) × Given table n m) ⊎ NoRow table → a ≡ b
  exact_once {refused = refused} E F (inl (n, m, g)) =
      let s = (E.refusal n m).1 g in
      let t = (F.refusal n m).1 g in
      s.2 ∙ ap (λ f. refused f m) (one_kind s.0 t.0 (s.1 ∙ sym t.1)) ∙ sym t.2
  exact_once E F (inr none) = E.none.1 none ∙ sym (F.none.1 none)
