-- Where quoted characters end.
use Rattle.std.specs.Prelude.{◌≡◌, ℕ, ◌+◌, List, ◌∷◌, ◌++◌, length, ◌==◌}
use Rattle.sq_token.specs.Bytes.{NextFails}
use Rattle.sq_token.specs.Spelling.{doubled}

-- the first `len` bytes of a text are quoted characters that say `body`, and the quote that ends them
pub record Closes (quote : ℕ) (text body : List ℕ) (len : ℕ) : Type 0 where
  pub after : List ℕ
  pub parts : text ≡ doubled quote body ++ (quote ∷ after)
  pub ends : NextFails (λ c. c == quote) after
  pub len_is : len + length after ≡ length text
