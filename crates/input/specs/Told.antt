-- What an error says of itself, and the system's words in it.
use Rattle.std.specs.Prelude.{ℕ, ◌<◌, ◌≡◌, ◌⊎◌, List, [], ◌∷◌, ◌++◌, length, take, drop}

-- " (os error ", which the library puts between the words and their number
abbrev pub mark : List ℕ
mark = 32 ∷ 40 ∷ 111 ∷ 115 ∷ 32 ∷ 101 ∷ 114 ∷ 114 ∷ 111 ∷ 114 ∷ 32 ∷ []

abbrev pub MarkAt : List ℕ → ℕ → Type 0
MarkAt said i = (rest : List ℕ) × (drop i said ≡ mark ++ rest)

-- the front of what is said, up to the first mark, or all of it
pub record Words (said words : List ℕ) : Type 0 where
  pub front : words ≡ take (length words) said
  pub first : (i : ℕ) → i < length words → ¬ MarkAt said i
  pub end : MarkAt said (length words) ⊎ (words ≡ said)
