-- `jobfile::name` meets its contract: the part is the front of the file up to the events, and is empty where the file is refused. Assumes
-- nothing.
use mathlib.Core.Path.{◌≡◌}
use mathlib.Core.List.{List}
use Prim.Native.Nat.{ℕ}
use Rattle.std.specs.Prelude.{Result, Ok, Err}
use Rattle.std.specs.Result.{MatchResult}
use Rattle.std.specs.Borrow.{Bor}
use Rattle.std.proofs.Common.{rules}
use Rattle.jobfile.specs.File.{name_length}
use Rattle.jobfile.specs.Part.{Part}
use Rattle.jobfile.specs.declared.job.Job.{Job}
use Rattle.jobfile.specs.declared.refusal.Refusal.{Refusal}
use Rattle.jobfile.proofs.name.Goals as goal

-- what each case gives is the definition's
named : (c : Result Job Refusal) (r s : Bor (List ℕ)) (says : Job → Type 0) (none : Bor (List ℕ)) → MatchResult c says (λ f. r ≡ none)
    → ((j : Job) → says j → Part r s 0 j.start) → (r ≡ none → Part r s 0 0) → Part r s 0 (name_length c)
named (Ok j) r s says none e each empty = each j e
named (Err f) r s says none e each empty = empty e

pub returns : goal.returns
returns c =
    let named_in = named c.check.result c.map_or.result c.args.file _ _ c.map_or.ensures (λ j q. search rules) (λ q. search rules) in
    rw c.check.ensures.answer at named_in
