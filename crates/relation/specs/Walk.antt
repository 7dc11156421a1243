-- A walk that decides parallel: no part of what must be believed, since proofs/Agree.antt ties it to the definition.
--
-- From position p on the walker keeps how far the current task lies under the innermost task that is still open and contained p
-- (`height`), and whether p is parallel to where it stands (`par`).
use Rattle.std.specs.Prelude.{Bool, true, false, List, [], ◌∷◌, ℕ, zero, suc, ◌+◌, ◌-◌}
use Rattle.jobfile.specs.declared.event.Move.{Move}
use Rattle.jobfile.specs.declared.event.Move.TheVariants.{Opens, Closes, Joins, Stays}

abbrev pub is_spawn : Move → Bool
is_spawn Opens = true
is_spawn Closes = false
is_spawn Joins = false
is_spawn Stays = false

-- the events that opened the open tasks, the current task's first; the root has none
abbrev pub restack : Move → ℕ → List ℕ → List ℕ
restack Opens n opened = n ∷ opened
restack Closes n [] = []
restack Closes n (s ∷ opened) = opened
restack Joins n opened = opened
restack Stays n opened = opened

abbrev pub head_or : List ℕ → ℕ → ℕ
head_or [] d = d
head_or (x ∷ xs) d = x

pub record Walker : Type 0 where
  pub height : ℕ
  pub par : Bool

-- what a move does to a walker; b says that the current task, the one that an end closes, was spawned
abbrev pub moved : Move → Bool → ℕ → Bool → Walker
moved Opens b h p = record { height = suc h; par = p }
moved Closes b zero p = record { height = zero; par = b }
moved Closes b (suc h) p = record { height = h; par = p }
moved Joins b zero p = record { height = zero; par = false }
moved Joins b (suc h) p = record { height = suc h; par = p }
moved Stays b h p = record { height = h; par = p }

abbrev pub start : Walker
start = record { height = zero; par = false }

abbrev pub move : Move → Bool → Walker → Walker
move m b w = moved m b w.height w.par

module _ (mv : ℕ → Move) where
  unfoldable pub opened : ℕ → List ℕ
  opened zero = []
  opened (suc n) = restack (mv n) n (opened n)

  -- the task that is current at n was spawned
  abbrev pub spawned : ℕ → Bool
  spawned n = is_spawn (mv (head_or (opened n) 0))

  unfoldable pub move_at : ℕ → Walker → Walker
  move_at n w = move (mv n) (spawned n) w

  -- the walk from p over k events
  unfoldable pub walk_for : ℕ → ℕ → Walker
  walk_for p zero = start
  walk_for p (suc k) = move_at (p + k) (walk_for p k)

  -- the walk from p to q
  unfoldable pub walk : ℕ → ℕ → Walker
  walk p q = walk_for p (q - p)

  abbrev pub par : ℕ → ℕ → Bool
  par p q = (walk p q).par
