-- The words that a text is cut off at its first mark are the words of it, and no others are. Assumes nothing.
use mathlib.Core.Path.{◌≡◌, refl, sym, ap, ◌∙◌}
use mathlib.Core.Logic.{◌⊎◌, inl, inr}
use mathlib.Core.List.{List}
use Prim.Native.Nat.{ℕ, ◌≤◌}
use native.Mathlib.Omega.{arith}
use native.Mathlib.Decide.{dec_le}
use lib.ListN.{length, take, drop, length-take}
use lib.Seq.{take_all}
use Rattle.std.specs.Str.Pattern.{LacksTextAt, SplitsAroundMatch, FindsText}
use Rattle.input.specs.Told.{mark, MarkAt, Words}

pub cut_off : (said w back : List ℕ) → SplitsAroundMatch (FindsText mark) said w back → Words said w
cut_off said w back s = record {
  front = rw s.6 s.3;
  first = λ k l m. s.2.0 k (omega (arith, s.6)) m.0 m.1;
  end = inl (drop s.1 said, ap (λ n. drop n said) s.6 ∙ s.2.1.split);
}

pub uncut : (said : List ℕ) → ((i : ℕ) → i ≤ length said → LacksTextAt mark said i) → Words said said
uncut said none = record {
  front = sym (take_all (length said) said (omega arith));
  first = λ k l m. none k (omega arith) m.0 m.1;
  end = inr refl;
}

-- words that end no later than others are no front of them: a mark would stand inside the others
not_longer : (said v w : List ℕ) → Words said v → Words said w → length w ≤ length v
not_longer said v w V W = go V.end (dec_le (length w) (length v))
  where
    go : MarkAt said (length v) ⊎ (v ≡ said) → Dec (length w ≤ length v) → length w ≤ length v
    go e (yes l) = l
    go (inl m) (no n) = absurd (W.first (length v) (omega arith) m)
    go (inr all) (no n) = let c = ap length W.front ∙ length-take (length w) said in let s = ap length all in omega (arith, c, s)

pub words_once : (said v w : List ℕ) → Words said v → Words said w → v ≡ w
words_once said v w V W =
    let a = not_longer said v w V W in
    let b = not_longer said w v W V in
    let same : length v ≡ length w = omega arith in
    V.front ∙ (ap (λ n. take n said) same ∙ sym W.front)
