-- The words that the demands on this call are stated in (proofs/Demands.antt): which calls are taken, one chain at k, true counts.
use Rattle.std.specs.Prelude.{List, Result, ◌≡◌, ℕ, ◌+◌, ◌-◌}
use Rattle.jobfile.specs.declared.refusal.Refusal.{Refusal}
use Rattle.taking.specs.Buffers.{Buffers}
use Rattle.judging.specs.Terms.{Judgeable, changed}
use Rattle.per_record.specs.Lists.{Lists, LongEnough}
use Rattle.per_record.specs.Answers.{numbers_of}
use Rattle.per_record.specs.declared.Answer.{Answer}

-- an accepted file, a k within it, buffers long enough, and lists not shorter than the record count
pub record Listable (file : List ℕ) (k : ℕ) (B : Buffers) (L : Lists) : Type 0 where
  pub judgeable : Judgeable file k B
  pub lists_fit : LongEnough judgeable.job.records L

-- "the count reported is the true one", by what two calls give alone: r and K for k events, r' and K' for one more, K and K' the labels
pub record CountStep (r r' : Result Answer Refusal) (K K' : List ℕ) : Type 0 where
  pub english : (numbers_of r').english ≡ (numbers_of r).english + ((numbers_of r').strands - (numbers_of r).strands + changed 0 (numbers_of r).strands K K')
  pub hebrew : (numbers_of r').hebrew ≡ (numbers_of r).hebrew + ((numbers_of r').strands - (numbers_of r).strands + changed 4096 (numbers_of r).strands K K')
