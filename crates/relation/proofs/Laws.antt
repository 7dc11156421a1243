-- Parallel and before as relations, in the words of the definition. Assumes nothing.
use mathlib.Core.Path.{◌≡◌, refl, sym, ◌∙◌}
use mathlib.Core.Logic.{◌⊎◌, inl, inr, ◌↔◌}
use mathlib.Core.Bool.{Bool, true, false, false≢true}
use Prim.Native.Nat.{ℕ, ◌≤◌, ◌<◌}
use native.Mathlib.Omega.{arith}
use Rattle.jobfile.specs.declared.event.Move.{Move}
use Rattle.relation.specs.Parallel.{Parallel, Before, Rooted}
use Rattle.relation.specs.Strand.{strand_at, birth}
use Rattle.relation.specs.Walk.{par}
use Rattle.relation.proofs.Agree.{walk_sound, walk_complete}
use Rattle.relation.proofs.Strand.{birth_early, birth_later, strands_compare, one_strand}
use Rattle.relation.proofs.Walk.{par_trans}

pub bool_cases : (b : Bool) → (b ≡ true) ⊎ (b ≡ false)
bool_cases true = inl refl
bool_cases false = inr refl

module _ (mv : ℕ → Move) where
  pub rooted_less : (j k : ℕ) → j ≤ k → Rooted mv k → Rooted mv j
  rooted_less j k jk rooted m l = rooted m (omega arith)

  -- parallel is said of an earlier access to a later one
  pub parallel_less : (i j : ℕ) → Parallel mv i j → i < j
  parallel_less i j P = omega (arith, P.2.p≤e, P.2.e<q)

  -- the walk's answer false, in the definition's words
  pub before_sound : (i j : ℕ) → i < j → Rooted mv j → par mv i j ≡ false → Before mv i j
  before_sound i j ij rooted f = (ij, λ P. false≢true (sym f ∙ walk_complete mv i j rooted P))

  pub before_complete : (i j : ℕ) → Rooted mv j → Before mv i j → par mv i j ≡ false
  before_complete i j rooted B = go (bool_cases (par mv i j))
    where
      go : (par mv i j ≡ true) ⊎ (par mv i j ≡ false) → par mv i j ≡ false
      go (inl t) = absurd (B.1 (walk_sound mv i j (omega arith) rooted t))
      go (inr f) = f

  -- of accesses i < j, i is parallel to j or before j
  pub parallel_or_before : (i j : ℕ) → i < j → Rooted mv j → Parallel mv i j ⊎ Before mv i j
  parallel_or_before i j ij rooted = go (bool_cases (par mv i j))
    where
      go : (par mv i j ≡ true) ⊎ (par mv i j ≡ false) → Parallel mv i j ⊎ Before mv i j
      go (inl t) = inl (walk_sound mv i j (omega arith) rooted t)
      go (inr f) = inr (before_sound i j ij rooted f)

  pub before_transitive : (i j k : ℕ) → Rooted mv k → Before mv i j → Before mv j k → Before mv i k
  before_transitive i j k rooted B C =
      before_sound i k (omega arith) rooted
      (par_trans mv false i j k (omega arith) (omega arith)
      (before_complete i j (rooted_less j k (omega arith) rooted) B) (before_complete j k rooted C))

  -- parallel is transitive along the trace
  pub parallel_transitive : (i j k : ℕ) → Rooted mv k → Parallel mv i j → Parallel mv j k → Parallel mv i k
  parallel_transitive i j k rooted P Q =
      let ij : i < j = parallel_less i j P in
      let jk : j < k = parallel_less j k Q in
      walk_sound mv i k (omega arith) rooted
      (par_trans mv true i j k (omega arith) (omega arith)
      (walk_complete mv i j (rooted_less j k (omega arith) rooted) P) (walk_complete mv j k rooted Q))

  -- i before j and parallel to k: j is parallel to k
  pub parallel_passes : (i j k : ℕ) → j < k → Rooted mv k → Before mv i j → Parallel mv i k → Parallel mv j k
  parallel_passes i j k jk rooted B P = go (parallel_or_before j k jk rooted)
    where
      go : Parallel mv j k ⊎ Before mv j k → Parallel mv j k
      go (inl Q) = Q
      go (inr C) = absurd ((before_transitive i j k rooted B C).1 P)

  -- i parallel to j and before k: j is before k
  pub before_passes : (i j k : ℕ) → j < k → Rooted mv k → Parallel mv i j → Before mv i k → Before mv j k
  before_passes i j k jk rooted P B = (jk, λ Q. B.1 (parallel_transitive i j k rooted P Q))

  -- "Strands compare as accesses in them would."
  pub strands_parallel : (p q : ℕ) → Rooted mv q → strand_at mv p < strand_at mv q → p ≤ q
      → Parallel mv (birth mv p (strand_at mv p)) (birth mv q (strand_at mv q)) ↔ Parallel mv p q
  strands_parallel p q rooted l pq =
      let same = strands_compare mv p q pq rooted l in
      let bq : birth mv q (strand_at mv q) ≤ q = birth_early mv q (strand_at mv q) in
      let later : p < birth mv q (strand_at mv q) = birth_later mv p q l in
      let inner = rooted_less (birth mv q (strand_at mv q)) q bq rooted in (
        λ P. walk_sound mv p q pq rooted (sym same ∙ walk_complete mv (birth mv p (strand_at mv p)) (birth mv q (strand_at mv q)) inner P),
        λ P. walk_sound mv (birth mv p (strand_at mv p)) (birth mv q (strand_at mv q)) (omega (arith, birth_early mv p (strand_at mv p))) inner
            (same ∙ walk_complete mv p q rooted P),
      )

  pub strand_in_order : (p q : ℕ) → p < q → Rooted mv q → strand_at mv p ≡ strand_at mv q → Before mv p q
  strand_in_order p q pq rooted e = before_sound p q pq rooted (one_strand mv p q (omega arith) e)
