-- The bytes of which words and white space are made, and where a mark is found first.
use Rattle.std.specs.Prelude.{◌≡◌, ◌≢◌, ℕ, ◌≤◌, Bool, false, List, [], ◌∷◌, ◌++◌, length, ◌==◌, ◌||◌}
use Rattle.std.specs.Char.{is_ascii_alphabetic, is_ascii_digit}

-- a space, a tab, a line feed, a carriage return or a form feed
abbrev pub is_blank : ℕ → Bool
is_blank c = c == 32 || c == 9 || c == 10 || c == 13 || c == 12

-- a letter or `_`
abbrev pub starts_word : ℕ → Bool
starts_word c = is_ascii_alphabetic c || c == 95

-- a letter, `_` or a digit
abbrev pub in_word : ℕ → Bool
in_word c = starts_word c || is_ascii_digit c

-- whether a text goes on with a byte that passes the test
abbrev pub next_passes : (ℕ → Bool) → List ℕ → Bool
next_passes test [] = false
next_passes test (c ∷ rest) = test c

-- a text has ended, or its next byte fails the test
abbrev pub NextFails : (ℕ → Bool) → List ℕ → Type 0
NextFails test text = next_passes test text ≡ false

-- a mark stands nowhere in a text
abbrev pub Lacks : List ℕ → List ℕ → Type 0
Lacks mark text = (front back : List ℕ) → text ≢ front ++ (mark ++ back)

-- a text is `front`, then the first of its marks, then `back`
pub record CutsAtFirst (mark text front back : List ℕ) : Type 0 where
  pub parts : text ≡ front ++ (mark ++ back)
  pub first : (before after : List ℕ) → text ≡ before ++ (mark ++ after) → length front ≤ length before
